-- Each call of a link keeps what a port has told of its free buffers, and the room of packets; and
-- such a port asks for no packet again.
use Rattle.link_machine.proofs.Prelude.{ℕ, ◌+◌, ◌≤◌, Bool, true, false, List, map, length, take, refl, sym, ap, ◌∙◌, subst, if◌then◌else◌, arith, length-append, list_at, packet_count_four, Input, Output, run, Event, PortState, IsPort, prios_of, forward, receiver_of, last_report, IsTimely, IsKnown, known_from_room, room_from_known, known_from_told, told_from_known, Delivered, Through, WentUndetected, told_of, Edit, other_side, Note, Side, A, B, LinkState, turned_round, at_end, from_end, IsServed, with_port, IsRun, RunRests, RunPumps, RunTells, RunDelivers, RunEdits, RunTimesOut, RunServes, IsSoundLink, RoomAhead, TellsTruly, NoRetries}
use Rattle.link_sound.specs.Credits.{word, AreCountedAt, free_buffers}
use Rattle.link_sound.proofs.CreditHearer as hearer
use Rattle.link_sound.proofs.CreditTeller as teller
use Rattle.link_machine.specs.Calls.{first_turns, pumped, first_tells, told_from, delivery, after_delivery, first_takes, has_chars, delivery_from, delivered_from, first_edited, edited_from, is_silent, first_fires, timed_out_at}
use Rattle.link_machine.proofs.Machine.{round_keeps, pump_keeps, told_keeps, delivery_keeps, edited_keeps, fired_keeps, layer_keeps}
use Rattle.link_machine.proofs.Reversed.{run_round}
use Rattle.link_machine.proofs.Turning.{edit_keeps}
use Rattle.link_machine.proofs.HeardInTime as heard

module _ (timely : Bool) where
  -- the first port was told by the second; the first port tells the second
  abbrev Hears : LinkState → Type 0
  Hears s = heard.Hears timely s

  abbrev TellsOf : LinkState → Type 0
  TellsOf s = heard.TellsOf timely s

  -- ---- calls

  at_end_known : (side : Side) (does : LinkState → LinkState) (s : LinkState)
      → ((t : LinkState) → IsSoundLink t → Hears t → Hears (does t))
      → ((t : LinkState) → IsSoundLink t → TellsOf t → TellsOf (does t))
      → IsSoundLink s → Hears s → Hears (at_end side does s)
  at_end_known A does s hears tells l k = hears s l k
  at_end_known B does s hears tells l k = tells (turned_round s) (round_keeps s l) k

  pump_known : (from : Side) (n : ℕ) (s : LinkState) → IsSoundLink s → Hears s
      → Hears (pumped from n s)
  pump_known from n s l k =
      at_end_known from (first_turns n) s
      (λ t is h. heard.turned_hears timely n t.a t.b t.wire_a.kept t.wire_b.kept is.port_a
      is.sound h)
      (λ t is h. heard.turned_tells timely n t.a t.b t.wire_a.kept t.wire_b.kept is.port_a h) l k

  tell_known : (from : Side) (s : LinkState) → IsSoundLink s → Hears s → Hears (told_from from s)
  tell_known from s l k =
      at_end_known from first_tells s
      (λ t is h. hearer.tell_known timely t.a t.b t.wire_a.kept t.wire_b.kept h)
      (λ t is h. teller.tell_told timely t.b t.a t.wire_b.kept t.wire_a.kept is.port_a h) l k

  takes_hears : (count : ℕ) (s : LinkState) → IsSoundLink s → Hears s → Hears (first_takes count s)
  takes_hears count s l k =
      by_delivery (delivery count s)
      (heard.delivered_hears timely s.a s.b s.wire_a.kept s.wire_b.kept (take count s.wire_b.chars)
      l.port_a l.port_b l.sound k)
    where
      by_delivery : (d : Delivered) → heard.AreHears timely s.b s.wire_a.kept d
          → Hears (after_delivery count d s)
      by_delivery (Through flow) t = t
      by_delivery (WentUndetected told e) t = k

  takes_tells : (count : ℕ) (s : LinkState) → IsSoundLink s → TellsOf s
      → TellsOf (first_takes count s)
  takes_tells count s l k =
      by_delivery (delivery count s)
      (heard.delivered_tells timely s.a s.b s.wire_a.kept s.wire_b.kept (take count s.wire_b.chars)
      l.port_a l.port_b l.sound k)
    where
      by_delivery : (d : Delivered) → heard.AreTells timely s.b s.wire_a.kept d
          → TellsOf (after_delivery count d s)
      by_delivery (Through flow) t = t.0
      by_delivery (WentUndetected told e) t = k

  deliver_known : (from : Side) (count : ℕ) (s : LinkState) → IsSoundLink s → Hears s
      → Hears (delivered_from from count s)
  deliver_known from count s l k =
      elim (has_chars from count s) as
      (λ b. Hears (if b then at_end (other_side from) (first_takes count) s else s)) [
        | true ↦ at_end_known (other_side from) (first_takes count) s (takes_hears count)
            (takes_tells count) l k
        | false ↦ k
      ]

  edit_known : (from : Side) (edit : Edit) (s : LinkState) → IsSoundLink s → Hears s
      → Hears (edited_from from edit s)
  edit_known from edit s l k =
      at_end_known from (first_edited edit) s
      (λ t is h. subst (λ (kept : List Event). IsKnown timely t.a t.b kept t.wire_b.kept)
      (sym (edit_keeps edit t.wire_a)) h)
      (λ t is h. subst (λ (kept : List Event). IsKnown timely t.b t.a t.wire_b.kept kept)
      (sym (edit_keeps edit t.wire_a)) h) l k

  fire_known : (side : Side) (s : LinkState) → IsSoundLink s → Hears s
      → Hears (timed_out_at side s)
  fire_known side s l k =
      elim (is_silent s) as (λ b. Hears (if b then at_end side first_fires s else s)) [
        | true ↦ at_end_known side first_fires s
            (λ t is h. hearer.late_known timely t.a t.b t.wire_a.kept t.wire_b.kept h)
            (λ t is h. teller.late_told timely t.b t.a t.wire_b.kept t.wire_a.kept h) l k
        | false ↦ k
      ]

  -- ---- the layer above

  served_hears : (a next b : PortState) (kept_a kept_b : List Event) → IsServed a next
      → IsKnown timely a b kept_a kept_b → IsKnown timely next b kept_a kept_b
  served_hears a next b kept_a kept_b served k = record {
    tells = k.tells;
    freed = k.freed;
    held = k.held;
    counted =
        subst (λ (o : Output). AreCountedAt o b.input (free_buffers b.received + k.held) k.freed
        k.held (map word kept_b)) served.alike.2 k.counted;
    in_time =
        subst (λ (o : Output). IsTimely timely (last_report o) (receiver_of b.input)
        (free_buffers b.received + k.held) k.held (k.freed + length (prios_of o))
        (map forward kept_a)) served.alike.2 k.in_time;
  }

  fewer : (a next : PortState) → IsServed a next → (prio : ℕ)
      → length (list_at next.received.lists prio) ≤ length (list_at a.received.lists prio)
  fewer a next served prio =
      let front = (served.taken prio).0 in
      let same = ap (λ (l : List (List ℕ)). length l) (served.taken prio).1 in
      let long = length-append front (list_at next.received.lists prio) in
      omega (arith, same, long)

  more_room : (a next : PortState) → IsPort a → IsPort next → IsServed a next
      → free_buffers a.received ≤ free_buffers next.received
  more_room a next is next_is served =
      let before = packet_count_four a.received.lists is.receives.four in
      let after = packet_count_four next.received.lists next_is.receives.four in
      let same = served.alike.0 in
      let none = fewer a next served 0 in
      let one = fewer a next served 1 in
      let two = fewer a next served 2 in
      let three = fewer a next served 3 in
      omega (arith, before, after, same, none, one, two, three)

  served_tells : (a next b : PortState) (kept_a kept_b : List Event) → IsPort a → IsPort next
      → IsServed a next → IsKnown timely b a kept_b kept_a → IsKnown timely b next kept_b kept_a
  served_tells a next b kept_a kept_b is next_is served k =
      let more = teller.taken_told timely b a next.received next.place kept_b kept_a
      (more_room a next is next_is served) k in
      record {
        tells = sym served.alike.4 ∙ more.tells;
        freed = more.freed;
        held = more.held;
        counted =
            subst (λ (i : Input). AreCountedAt b.output i (free_buffers next.received + more.held)
            more.freed more.held (map word kept_a)) served.alike.3 more.counted;
        in_time =
            subst (λ (i : Input). IsTimely timely (last_report b.output) (receiver_of i)
            (free_buffers next.received + more.held) more.held
            (more.freed + length (prios_of b.output)) (map forward kept_b)) served.alike.3
            more.in_time;
      }

  serve_known : (side : Side) (next : PortState) (s : LinkState) → IsPort next
      → IsServed (from_end side s).a next → IsSoundLink s → Hears s → Hears (with_port side next s)
  serve_known A next s is served l k =
      served_hears s.a next s.b s.wire_a.kept s.wire_b.kept served k
  serve_known B next s is served l k =
      served_tells s.b next s.a s.wire_b.kept s.wire_a.kept l.port_b is served k

  -- ---- runs

  run_known : {s end : LinkState} {notes : List Note} → IsRun s notes end → IsSoundLink s → Hears s
      → Hears end
  run_known RunRests l k = k
  run_known (RunPumps {s = s} from turns run) l k =
      run_known run (pump_keeps from turns s l) (pump_known from turns s l k)
  run_known (RunTells {s = s} from run) l k =
      run_known run (told_keeps from s l) (tell_known from s l k)
  run_known (RunDelivers {s = s} from count sent run) l k =
      run_known run (delivery_keeps from count s l) (deliver_known from count s l k)
  run_known (RunEdits {s = s} from edit run) l k =
      run_known run (edited_keeps from edit s l) (edit_known from edit s l k)
  run_known (RunTimesOut {s = s} side run) l k =
      run_known run (fired_keeps side s l) (fire_known side s l k)
  run_known (RunServes {s = s} side next is served run) l k =
      run_known run (layer_keeps side next s is served l) (serve_known side next s is served l k)

first_finds : (s end : LinkState) (notes : List Note) → IsRun s notes end → IsSoundLink s
    → RoomAhead s → RoomAhead end
first_finds s end notes runs l room =
    room_from_known end.a end.b end.wire_a.kept end.wire_b.kept
    (run_known true runs l (known_from_room s.a s.b s.wire_a.kept s.wire_b.kept room))

pub runs_find_room : (side : Side) (s end : LinkState) (notes : List Note) → IsRun s notes end
    → IsSoundLink s → RoomAhead (from_end side s) → RoomAhead (from_end side end)
runs_find_room A s end notes runs l room = first_finds s end notes runs l room
runs_find_room B s end notes runs l room =
    let other = run_round runs in
    first_finds (turned_round s) (turned_round end) other.0 other.1 (round_keeps s l) room

first_is_told : (s end : LinkState) (notes : List Note) → IsRun s notes end → IsSoundLink s
    → TellsTruly s → TellsTruly end
first_is_told s end notes runs l told =
    told_from_known end.a end.b end.wire_a.kept end.wire_b.kept
    (run_known false runs l (known_from_told s.a s.b s.wire_a.kept s.wire_b.kept told))

pub runs_tell_truly : (side : Side) (s end : LinkState) (notes : List Note) → IsRun s notes end
    → IsSoundLink s → TellsTruly (from_end side s) → TellsTruly (from_end side end)
runs_tell_truly A s end notes runs l told = first_is_told s end notes runs l told
runs_tell_truly B s end notes runs l told =
    let other = run_round runs in
    first_is_told (turned_round s) (turned_round end) other.0 other.1 (round_keeps s l) told

-- what comes to the port that tells is not answered with packet-retry
no_retries : (b : PortState) (kept_a : List Event) (d : Delivered) → heard.AreTells true b kept_a d
    → NoRetries (told_of d).replies
no_retries b kept_a (Through flow) t = t.1 refl
no_retries b kept_a (WentUndetected told e) t = t refl

first_asks_none : (count : ℕ) (t : LinkState) → IsSoundLink t → RoomAhead (turned_round t)
    → NoRetries (told_of (delivery count t)).replies
first_asks_none count t is room =
    no_retries t.b t.wire_a.kept (delivery count t)
    (heard.delivered_tells true t.a t.b t.wire_a.kept t.wire_b.kept (take count t.wire_b.chars)
    is.port_a is.port_b is.sound (known_from_room t.b t.a t.wire_b.kept t.wire_a.kept room))

pub deliveries_ask_none : (side : Side) (count : ℕ) (s : LinkState) → IsSoundLink s
    → RoomAhead (from_end side s) → NoRetries (told_of (delivery_from side count s)).replies
deliveries_ask_none A count s l room = first_asks_none count (turned_round s) (round_keeps s l) room
deliveries_ask_none B count s l room = first_asks_none count s l room
