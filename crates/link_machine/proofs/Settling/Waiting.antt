-- A packet that waits, whether a turn starts it, and whether it has room.
use Rattle.link_machine.proofs.Prelude.{◌≡◌, ◌⊎◌, inl, inr, ℕ, ◌+◌, ◌-◌, ◌<◌, ◌∷◌, [], Bool, true, false, nat_lt, if◌then◌else◌, List, slice_get, All, Option, Some, None, refl, sym, ap, ◌∙◌, subst, arith, ltb-true, ltb-false, lt-ltb, le-ltb, Output, Outstanding, untold, from_ack, distance, Report, Buffered, list_at, packet_count, room_for, highest, IsInStore, highest_below-some, PortState, buffer_status, is_ready, Turned, credited, started, starts, next_ack, report_of, has_credit, is_some}
use Rattle.std.proofs.lemmas.Option.{slice_get_cases}
use Rattle.link_machine.proofs.Settling.Packets.{turn_is}

-- ---- a packet that waits

-- the first packet of the highest priority that has one
pub record First (queued : List (List (List ℕ))) : Type 0 where
  pub prio : ℕ
  pub packet : List ℕ
  pub highest_is : highest queued ≡ Some prio
  pub first : slice_get (list_at queued prio) 0 ≡ Some packet
  pub few : prio < 4

first_packet : (queued : List (List (List ℕ))) (prio : ℕ) → highest queued ≡ Some prio
    → First queued
first_packet queued prio is =
    let found = highest_below-some 4 prio queued is in
    elim (slice_get_cases (list_at queued prio) 0).1 [
      | inl there ↦ record {
        prio = prio;
        packet = there.0;
        highest_is = is;
        first = there.2;
        few = found.0;
      }
      | inr none ↦ absurd (omega (arith, none.0, found.1))
    ]

pub first_waiting : (queued : List (List (List ℕ))) (o : Option ℕ) → highest queued ≡ o
    → is_some o ≡ true → First queued
first_waiting queued None is some = absurd cc
first_waiting queued (Some prio) is some = first_packet queued prio is

-- what is true of all packets of a list is true of the first
pub All-first : (P : List ℕ → Type 0) (packets : List (List ℕ)) (packet : List ℕ)
    → All P packets → slice_get packets 0 ≡ Some packet → P packet
All-first P [] packet all is = absurd cc
All-first P (x ∷ xs) packet all is =
    let same : x ≡ packet = cc in subst P same (all 0 [] (omega arith))

-- ---- whether a turn starts it

-- a port with nothing outstanding starts a packet exactly if one waits that has credit
pub ready_is : (p : PortState) (ack : ℕ) (report : Option Report)
    → p.output ≡ Output.Ok (from_ack ack report)
    → is_ready p ≡ is_some (credited (from_ack ack report) (highest p.queued))
ready_is p ack report is =
    ap (λ (t : Turned). starts t.sends) (turn_is p ack report is)
    ∙ by p.tells (from_ack ack report) (credited (from_ack ack report) (highest p.queued))
  where
    by : (tells : Bool) (w : Outstanding) (first : Option ℕ)
        → starts (started tells w first).sends ≡ is_some first
    by true w None = refl
    by false w None = refl
    by tells w (Some prio) = refl

-- one that has credit is the first that waits
pub credited_some : (w : Outstanding) (waiting : Option ℕ) → is_some (credited w waiting) ≡ true
    → credited w waiting ≡ waiting
credited_some w None some = refl
credited_some w (Some prio) some = by (has_credit w.report (next_ack w) prio) some
  where
    by : (b : Bool) → is_some (if b then Some prio else None) ≡ true
        → (if b then Some prio else None) ≡ Some prio
    by true some = refl
    by false some = absurd cc

pub credited_has : (w : Outstanding) (prio : ℕ) → is_some (credited w (Some prio)) ≡ true
    → has_credit w.report (next_ack w) prio ≡ true
credited_has w prio some = by (has_credit w.report (next_ack w) prio) some
  where
    by : (b : Bool) → is_some (if b then Some prio else None) ≡ true → b ≡ true
    by true some = refl
    by false some = absurd cc

-- where none starts, none waits, or the first has no credit
pub uncredited : (w : Outstanding) (waiting : Option ℕ) → is_some (credited w waiting) ≡ false
    → (waiting ≡ None)
    ⊎ ((prio : ℕ) × (waiting ≡ Some prio) × (has_credit w.report (next_ack w) prio ≡ false))
uncredited w None none = inl refl
uncredited w (Some prio) none = inr (prio, refl, by (has_credit w.report (next_ack w) prio) none)
  where
    by : (b : Bool) → is_some (if b then Some prio else None) ≡ false → b ≡ false
    by true none = absurd cc
    by false none = refl

-- ---- whether it has room

none_between : (ack : ℕ) → distance ack ack ≡ 0
none_between ack = omega arith

-- by what a port tells now, a packet without credit has no room
pub no_room : (tells : Bool) (store : Buffered) (ack prio : ℕ)
    → has_credit (report_of ack (buffer_status tells store)) ack prio ≡ false
    → room_for store prio ≡ false
no_room false store ack prio none = absurd cc
no_room true store ack prio none = by (nat_lt (buffer_status true store) untold) none
  where
    by : (b : Bool) → has_credit
        (if b then Some (record { base = ack; free = buffer_status true store }) else None) ack prio
        ≡ false → room_for store prio ≡ false
    by true none =
        let few =
        ltb-false (3 - prio) (buffer_status true store - distance ack ack) none in
        let same = none_between ack in
        le-ltb (packet_count store.lists + (3 - prio)) store.buffers (omega arith)
    by false none = absurd cc

-- and one with credit has room, if the port tells
pub has_room : (store : Buffered) (ack prio : ℕ) → IsInStore store
    → has_credit (report_of ack (buffer_status true store)) ack prio ≡ true
    → room_for store prio ≡ true
has_room store ack prio is some =
    let most = is.most in
    let told = lt-ltb (buffer_status true store) untold (omega arith) in
    let credit : nat_lt (3 - prio) (buffer_status true store - distance ack ack) ≡ true =
    ap (λ (b : Bool). has_credit
    (if b then Some (record { base = ack; free = buffer_status true store }) else None) ack prio)
    (sym told) ∙ some in
    let more = ltb-true (3 - prio) (buffer_status true store - distance ack ack) credit in
    let same = none_between ack in
    lt-ltb (packet_count store.lists + (3 - prio)) store.buffers (omega arith)
