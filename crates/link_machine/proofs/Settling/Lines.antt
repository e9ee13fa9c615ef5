-- What a delivery of all characters of a wire makes of a link, where every event was sent.
use Rattle.link_machine.proofs.Prelude.{◌≡◌, ℕ, ◌++◌, Bool, true, false, not, List, [], ◌∷◌, length, take, Option, Some, None, option_to_list, refl, sym, ap, ◌∙◌, if◌then◌else◌, arith, append_assoc, append-nil, nat_le, take_all, drop_all, le-leb, Char, Fields, run, place_after, said, Event, PortState, acts, is_acted, replies, events_of, other_side, Side, A, B, LinkState, turned_round, from_end, first_takes, has_none, IsSoundLink, delivery, after_delivery, queues_between, led, port_fed, port_answers, chars_of, Act, Deliver, Reached, At, reached_by, after_act, goes, OnState, first_has_chars, of_end, all_chars}
use Rattle.link_wires.specs.Prelude.{behind, Flow, Delivered, Through, WentUndetected, begun, done, met, goes_on, come, ended, delivered}
use Rattle.link_machine.proofs.Flowing.{AreFlowing, delivered_flowing}
use Rattle.link_machine.proofs.Machine.{round_keeps}
use Rattle.link_machine.proofs.Telling.{AreTelling, delivered_telling}
use Rattle.link_machine.proofs.Settling.Signals.{fed_none, answered_none}

-- ---- what a delivery is by the tables

-- what is true of a delivery of which every event was sent
abbrev pub OnFlow : (Flow → Type 0) → Delivered → Type 0
OnFlow P (Through flow) = P flow
OnFlow P (WentUndetected told e) = Unit {0}

on_flow : (P Q : Flow → Type 0) → ((flow : Flow) → P flow → Q flow) → (d : Delivered) → OnFlow P d
    → OnFlow Q d
on_flow P Q so (Through flow) h = so flow h
on_flow P Q so (WentUndetected told e) h = tt

-- events were led through the tables
abbrev IsLed : Flow → List Event → Flow → Type 0
IsLed flow es next =
    (next.port ≡ led flow.port es) × (next.told.replies ≡ flow.told.replies ++ replies flow.port es)

done_led : (flow : Flow) (e : Event) (acted kept : List Event) (es : List Event) (next : Flow)
    → IsLed (done e acted kept flow) es next → IsLed flow (e ∷ es) next
unfolding led replies
done_led flow e acted kept es next h = (
  h.0,
  h.1
      ∙ append_assoc flow.told.replies (option_to_list (acts flow.port e).reply)
      (replies (acts flow.port e).port es),
)

met_led : (flow : Flow) (at : ℕ) (e : Event) (kept : Option (List Event))
    (events : List (ℕ × Event))
    → ((f : Flow) → OnFlow (IsLed f (events_of events)) (come events f))
    → OnFlow (IsLed flow (e ∷ events_of events)) (goes_on (come events) (met at e kept flow))
met_led flow at e None events rest = tt
met_led flow at e (Some kept) events rest =
    let next = done e (e ∷ []) kept flow in
    on_flow (IsLed next (events_of events)) (IsLed flow (e ∷ events_of events))
    (done_led flow e (e ∷ []) kept (events_of events)) (come events next) (rest next)

come_led : (events : List (ℕ × Event)) (flow : Flow)
    → OnFlow (IsLed flow (events_of events)) (come events flow)
unfolding come led replies
come_led [] flow = (refl, sym (append-nil flow.told.replies))
come_led (placed ∷ events) flow =
    elim (is_acted flow.port placed.1) as (λ b.
    OnFlow (IsLed flow (placed.1 ∷ events_of events)) (goes_on (come events) (if b
    then met placed.0 placed.1 (behind placed.1 flow.kept) flow
    else Through (done placed.1 [] flow.kept flow)))) [
      | true ↦ met_led flow placed.0 placed.1 (behind placed.1 flow.kept) events (come_led events)
      | false ↦
          let next = done placed.1 [] flow.kept flow in
          on_flow (IsLed next (events_of events)) (IsLed flow (placed.1 ∷ events_of events))
          (done_led flow placed.1 [] flow.kept (events_of events)) (come events next)
          (come_led events next)
    ]

-- the port and its answers are those of the tables
abbrev pub IsFed : PortState → List Char → Flow → Type 0
IsFed port chars flow =
    (flow.port ≡ port_fed port chars) × (flow.told.replies ≡ port_answers port chars)

ended_led : (port : PortState) (kept : List Event) (chars : List Char) (events : List Event)
    (count : ℕ) (d : Delivered) → events ≡ said port.place chars
    → OnFlow (IsLed (begun port kept) events) d
    → OnFlow (IsFed port chars) (ended (place_after port.place chars) count d)
unfolding port_fed port_answers
ended_led port kept chars events count (Through flow) is h = (
  ap (λ (p : PortState). record p { place = place_after port.place chars })
      (h.0 ∙ ap (led port) is),
  h.1 ∙ ap (replies port) is,
)
ended_led port kept chars events count (WentUndetected told e) is h = tt

pub by_tables : (port : PortState) (kept : List Event) (chars : List Char)
    → OnFlow (IsFed port chars) (delivered port kept chars)
by_tables port kept chars =
    ended_led port kept chars (events_of (run port.place 0 chars)) _
    (come (run port.place 0 chars) (begun port kept)) refl
    (come_led (run port.place 0 chars) (begun port kept))

-- ---- all characters of a wire

-- The first port took all characters of the far port's wire, and its answers went on its own.
pub record Takes (s m : LinkState) : Type 0 where
  pub sound : IsSoundLink m
  pub a : m.a ≡ port_fed s.a s.wire_b.chars
  pub b : m.b ≡ s.b
  pub wire_a : m.wire_a.chars ≡ s.wire_a.chars ++ chars_of (port_answers s.a s.wire_b.chars)
  pub wire_b : m.wire_b.chars ≡ []

takes_none : (s : LinkState) → IsSoundLink s → s.wire_b.chars ≡ [] → Takes s s
unfolding chars_of
takes_none s sound none = record {
  sound = sound;
  a = sym (ap (port_fed s.a) none ∙ fed_none s.a);
  b = refl;
  wire_a =
      sym (ap (λ (cs : List Char). s.wire_a.chars ++ chars_of (port_answers s.a cs)) none
      ∙ ap (λ (r : List Fields). s.wire_a.chars ++ chars_of r) (answered_none s.a)
      ∙ append-nil s.wire_a.chars);
  wire_b = none;
}

takes_by : (s : LinkState) (count : ℕ) (chars : List Char) (d : Delivered) → IsSoundLink s
    → count ≡ length s.wire_b.chars → chars ≡ s.wire_b.chars
    → AreFlowing s.b s.wire_a.kept (queues_between s.a s.b) d → AreTelling s.b s.wire_a.kept d
    → OnFlow (IsFed s.a chars) d
    → (to : Side) → OnState (λ m. Takes s m) (reached_by to (after_delivery count d s) d)
unfolding chars_of
takes_by s count chars (Through flow) l all whole f t h to = record {
  sound = record {
    port_a = f.port;
    port_b = l.port_b;
    sound = f.sound;
    told_b = t.told_b;
    told_a = t.told_a;
  };
  a = h.0 ∙ ap (port_fed s.a) whole;
  b = refl;
  wire_a =
      ap (λ (r : List Fields). s.wire_a.chars ++ chars_of r) (h.1 ∙ ap (port_answers s.a) whole);
  wire_b = drop_all count s.wire_b.chars (omega arith);
}
takes_by s count chars (WentUndetected told e) l all whole f t h to = tt

takes_all : (s : LinkState) (to : Side) → IsSoundLink s
    → OnState (λ m. Takes s m)
    (reached_by to (first_takes (length s.wire_b.chars) s) (delivery (length s.wire_b.chars) s))
takes_all s to l =
    let n = length s.wire_b.chars in
    let chars = take n s.wire_b.chars in
    takes_by s n chars (delivery n s) l refl (take_all n s.wire_b.chars (omega arith))
    (delivered_flowing s.a s.b s.wire_a.kept s.wire_b.kept chars l.port_a l.port_b l.sound)
    (delivered_telling s.a s.b s.wire_a.kept s.wire_b.kept chars l.port_a l.port_b l.sound l.told_b
    l.told_a)
    (by_tables s.a s.wire_b.kept chars) to

-- ---- as a step of the schedule

-- all characters of a wire are delivered, if there are any
abbrev pub emptied : Side → Reached → Reached
emptied from r = if of_end from first_has_chars r then goes r (all_chars from r) else r

-- the same, with the port that takes them first
abbrev pub TakesFrom : Side → LinkState → LinkState → Type 0
TakesFrom from s m = Takes (from_end (other_side from) s) (from_end (other_side from) m)

none_is : (chars : List Char) → not (has_none chars) ≡ false → chars ≡ []
none_is [] h = refl
none_is (c ∷ chars) h = absurd cc

same_count : (n : ℕ) → nat_le n n ≡ true
same_count n = le-leb n n (omega arith)

pub goes_one : (s : LinkState) (act : Act) → goes (At s) (act ∷ []) ≡ after_act act s
unfolding goes
goes_one s act = ends (after_act act s)
  where
    ends : (r : Reached) → goes r [] ≡ r
    ends r = refl

-- the same delivery, with the ends in the other order
turned_by : (s : LinkState) (next : LinkState) (d : Delivered)
    → OnState (λ m. Takes s m) (reached_by B next d)
    → OnState (λ m. Takes s (turned_round m)) (reached_by B (turned_round next) d)
turned_by s next (Through flow) h = h
turned_by s next (WentUndetected told e) h = tt

full_takes : (from : Side) (s : LinkState) → IsSoundLink s
    → OnState (TakesFrom from s)
    (after_act (Deliver from (length (from_end from s).wire_a.chars)) s)
full_takes A s l =
    let t = turned_round s in
    let n = length s.wire_a.chars in
    rw (same_count n)
    (turned_by t (first_takes n t) (delivery n t) (takes_all t B (round_keeps s l)))
full_takes B s l =
    let n = length s.wire_b.chars in
    rw (same_count n) (takes_all s A l)

pub emptied_takes : (from : Side) (s : LinkState) → IsSoundLink s
    → OnState (TakesFrom from s) (emptied from (At s))
emptied_takes from s l = by_test (first_has_chars (from_end from s)) refl
  where
    none_from : (side : Side) → (from_end side s).wire_a.chars ≡ [] → TakesFrom side s s
    none_from A none = takes_none (turned_round s) (round_keeps s l) none
    none_from B none = takes_none s l none

    by_test : (b : Bool) → first_has_chars (from_end from s) ≡ b
        → OnState (TakesFrom from s) (if b then goes (At s) (all_chars from (At s)) else At s)
    by_test true is =
        rw (goes_one s (Deliver from (length (from_end from s).wire_a.chars))) (full_takes from s l)
    by_test false is = none_from from (none_is (from_end from s).wire_a.chars is)
