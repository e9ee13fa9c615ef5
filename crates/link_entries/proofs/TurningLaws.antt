-- What waits, and what a turn starts of it.
use Rattle.std.proofs.Common.{◌≡◌, ℕ, zero, suc, ◌+◌, ◌-◌, ◌<◌, ◌≤◌, Bool, true, false, cond, List, [], ◌∷◌, ◌++◌, length, Option, Some, None, IsSome, refl, sym, ap, ◌∙◌, subst, inl, inr, arith, lt-ltb, le-ltb}
use Rattle.std.proofs.lemmas.Bool.{cases_lt}
use Rattle.std.proofs.lemmas.Bool.Decides.{eqb_tells}
use Rattle.link_buffers.specs.Queues.{list_at, packet_count}
use Rattle.link_buffers.specs.Priorities.{highest, highest_below, lists_without, count_of}
use Rattle.link_buffers.proofs.PriorityLists.{count_of-append, count_of-cons}
use Rattle.link_buffers.proofs.PriorityLaws.{highest_below-found, highest_below-passed, highest_below-some, packet_count-highest, length_list_at-lists_without, length-lists_without}
use Rattle.link_model.specs.Prelude.{Outstanding, window}
use Rattle.link_model.specs.Output.{startable, started, turns, turned}
use Rattle.link_model.specs.Output as out
use Rattle.link_model.proofs.WindowFacts.{startable_some, window_is}
use Rattle.link_port.specs.States.{prios_of}
use Rattle.link_port.specs.Ports.{PortState, IsPort}
use Rattle.link_port.specs.Turns.{port_turn, turns_to, waiting_in}
use Rattle.link_entries.specs.declared.entry.TurnEntry.TheVariants as turn
use Rattle.link_entries.specs.Turning.{unstarted_entry, overtaking_point_of}

no_priority : (most : Option ℕ) → ¬ (IsSome most) → most ≡ None
no_priority None never = refl
no_priority (Some prio) never = absurd (never refl)

a_priority : (most : Option ℕ) → IsSome most → (prio : ℕ) × (most ≡ Some prio)
a_priority None some = absurd cc
a_priority (Some prio) some = (prio, refl)

-- nothing waits exactly if no priority has a packet
pub highest-none : (lists : List (List (List ℕ))) → length lists ≡ 4
    → ¬ (0 < packet_count lists) → highest lists ≡ None
highest-none lists four none =
    no_priority (highest lists) (λ some. none ((packet_count-highest lists four).1 some))

pub highest-some : (lists : List (List (List ℕ))) → length lists ≡ 4 → 0 < packet_count lists
    → (prio : ℕ) × (highest lists ≡ Some prio)
highest-some lists four some = a_priority (highest lists) ((packet_count-highest lists four).0 some)

-- what a turn meets that starts nothing, by what waits and by the window
pub waits-none : (w : Outstanding) (most : Option ℕ) → most ≡ None
    → turn.NothingWaits ≡ unstarted_entry w most
waits-none w most none = ap (unstarted_entry w) (sym none)

pub waits-credit : (w : Outstanding) (most : Option ℕ) (prio : ℕ) → most ≡ Some prio
    → length w.prios < 31 → turn.WithoutCredit ≡ unstarted_entry w most
waits-credit w most prio some few =
    ap (λ (b : Bool). cond b turn.WithoutCredit turn.WindowIsFull)
    (sym (lt-ltb (length w.prios) window (subst (λ (n : ℕ). length w.prios < n) (sym window_is)
    few)))
    ∙ ap (unstarted_entry w) (sym some)

pub waits-window : (w : Outstanding) (most : Option ℕ) (prio : ℕ) → most ≡ Some prio
    → 31 ≤ length w.prios → turn.WindowIsFull ≡ unstarted_entry w most
waits-window w most prio some full =
    ap (λ (b : Bool). cond b turn.WithoutCredit turn.WindowIsFull)
    (sym (le-ltb (length w.prios) window (subst (λ (n : ℕ). n ≤ length w.prios) (sym window_is)
    full)))
    ∙ ap (unstarted_entry w) (sym some)

-- a turn that starts a packet

started_is : (tells : Bool) (w : Outstanding) (first : Option ℕ) (ack prio : ℕ)
    → (started tells w first).sends ≡ out.Sends.Packet ack prio
    → (first ≡ Some prio) × (prios_of (started tells w first).state ≡ w.prios ++ prio ∷ [])
started_is true w None ack prio is = absurd cc
started_is false w None ack prio is = absurd cc
started_is tells w (Some p) ack prio is =
    let same : p ≡ prio = cc in
    (ap Some same, ap (λ (q : ℕ). w.prios ++ q ∷ []) same)

-- it is of the highest priority that waits, and is outstanding then
pub turn-starts : (tells : Bool) (output : out.Output) (most : Option ℕ) (ack prio : ℕ)
    → (turns tells output most).sends ≡ out.Sends.Packet ack prio
    → (most ≡ Some prio) × (prios_of (turns tells output most).state ≡ prios_of output ++ prio ∷ [])
turn-starts tells (out.Output.Ok w) most ack prio is =
    let found = started_is tells w (startable w most) ack prio is in
    (startable_some w most prio found.0, found.1)
turn-starts tells (out.Output.RetryStopped w) most ack prio is = absurd cc
turn-starts tells (out.Output.ErrorStopped true w) most ack prio is = absurd cc
turn-starts tells (out.Output.ErrorStopped false w) most ack prio is = absurd cc
turn-starts tells out.Output.Failed most ack prio is = absurd cc

-- above the highest priority that has a packet there is none
pub highest_below-above : (above prio q : ℕ) (lists : List (List (List ℕ)))
    → highest_below above lists ≡ Some prio → prio < q → q < above
    → length (list_at lists q) ≤ 0
highest_below-above zero prio q lists is over under = absurd (omega arith)
highest_below-above (suc n) prio q lists is over under =
    elim (cases_lt 0 (length (list_at lists n))) [
      | inl some ↦
          let found = highest_below-found n (suc n) lists refl some in
          let same : n ≡ prio = cc in absurd (omega arith)
      | inr none ↦
          elim (cases_lt q n) [
            | inl less ↦
                highest_below-above n prio q lists
                (sym (highest_below-passed n (suc n) lists refl none) ∙ is) over less
            | inr most ↦
                let same : n ≡ q = omega arith in
                subst (λ (p : ℕ). length (list_at lists p) ≤ 0) same none
          ]
    ]

-- lists of priorities above one that have no packet are passed
pub highest_below-down : (above prio : ℕ) (lists : List (List (List ℕ)))
    → ((q : ℕ) → prio < q → q < above → length (list_at lists q) ≤ 0) → prio < above
    → highest_below above lists ≡ highest_below (suc prio) lists
highest_below-down zero prio lists none under = absurd (omega arith)
highest_below-down (suc n) prio lists none under =
    elim (cases_lt prio n) [
      | inl less ↦
          highest_below-passed n (suc n) lists refl (none n less (omega arith))
          ∙ highest_below-down n prio lists (λ q over more. none q over (omega arith)) less
      | inr most ↦
          let same : n ≡ prio = omega arith in
          ap (λ (p : ℕ). highest_below (suc p) lists) same
    ]

-- one more packet of a priority is taken out of lists
pub fewer : (prios : List ℕ) (prio q : ℕ) (lists : List (List (List ℕ)))
    → length (list_at (lists_without prios lists) q) ≤ 0
    → length (list_at (lists_without (prios ++ prio ∷ []) lists) q) ≤ 0
fewer prios prio q lists none =
    let before = length_list_at-lists_without prios lists q in
    let behind = length_list_at-lists_without (prios ++ prio ∷ []) lists q in
    let more = count_of-append prios (prio ∷ []) q in
    omega arith

-- the next that waits behind a packet of a priority, if none of a higher one waits

next_point : (ack prio : ℕ) (next : Option ℕ) → ((q : ℕ) → next ≡ Some q → q < prio) → IsSome next
    → Some turn.Overtakes ≡ overtaking_point_of (out.Sends.Packet ack prio) next
next_point ack prio None less some = absurd cc
next_point ack prio (Some q) less some =
    ap (λ (b : Bool). cond b (Some turn.Overtakes) None) (sym (lt-ltb q prio (less q refl)))

pub overtakes : (ack prio : ℕ) (lists : List (List (List ℕ))) → length lists ≡ 4
    → 0 < packet_count lists → length (list_at lists prio) ≤ 0
    → highest lists ≡ highest_below (suc prio) lists
    → Some turn.Overtakes ≡ overtaking_point_of (out.Sends.Packet ack prio) (highest lists)
overtakes ack prio lists four some none down =
    let below = down ∙ highest_below-passed prio (suc prio) lists refl none in
    next_point ack prio (highest lists)
    (λ q is. (highest_below-some prio q lists (sym below ∙ is)).0)
    ((packet_count-highest lists four).0 some)

-- another of the priority waits
pub overtakes-same : (ack prio : ℕ) (lists : List (List (List ℕ)))
    → 0 < length (list_at lists prio) → highest lists ≡ highest_below (suc prio) lists
    → None ≡ overtaking_point_of (out.Sends.Packet ack prio) (highest lists)
overtakes-same ack prio lists some down =
    let found = down ∙ highest_below-found prio (suc prio) lists refl some in
    ap (λ (b : Bool). cond b (Some turn.Overtakes) None) (sym (le-ltb prio prio (omega arith)))
    ∙ ap (overtaking_point_of (out.Sends.Packet ack prio)) (sym found)

-- nothing waits
pub overtakes-none : (ack prio : ℕ) (lists : List (List (List ℕ))) → length lists ≡ 4
    → ¬ (0 < packet_count lists)
    → None ≡ overtaking_point_of (out.Sends.Packet ack prio) (highest lists)
overtakes-none ack prio lists four none =
    ap (overtaking_point_of (out.Sends.Packet ack prio)) (sym (highest-none lists four none))

-- ---- the port after a turn that started a packet

-- what waits in it: the packet is outstanding, and none of a higher priority waits
pub record HasStarted (after : PortState) (prio place : ℕ) : Type 0 where
  pub four : length (waiting_in after) ≡ 4
  pub down : highest (waiting_in after) ≡ highest_below (suc prio) (waiting_in after)
  pub left : length (list_at (waiting_in after) prio)
      ≡ length (list_at after.queued prio) - (place + 1)
  pub within : place + 1 ≤ 16

counted : (prios : List ℕ) (prio : ℕ)
    → count_of (prios ++ prio ∷ []) prio ≡ count_of prios prio + 1
counted prios prio =
    elim (eqb_tells prio prio) [
      | inl same ↦
          count_of-append prios (prio ∷ []) prio
          ∙ ap (λ (n : ℕ). count_of prios prio + n)
          (count_of-cons prio [] prio ∙ ap (λ (b : Bool). cond b 1 0 + 0) same.0)
      | inr other ↦ absurd (other.1 refl)
    ]

pub has_started : (port : PortState) (ack prio place : ℕ) → IsPort (turns_to port) → prio < 4
    → (port_turn port).sends ≡ out.Sends.Packet ack prio
    → place ≡ count_of (prios_of port.output) prio → HasStarted (turns_to port) prio place
has_started port ack prio place is few sends at =
    let prios = prios_of port.output in
    let lists = port.queued in
    let starts = turn-starts port.tells port.output (highest (waiting_in port)) ack prio sends in
    let now = prios_of (turns_to port).output in
    let all = length-lists_without now lists in
    let left = length_list_at-lists_without now lists prio in
    let count = ap (λ (ps : List ℕ). count_of ps prio) starts.1 ∙ counted prios prio in
    let covers = is.covered prio in
    let most = is.sends.within prio few in
    record {
      four = all ∙ is.sends.four;
      down = highest_below-down 4 prio (lists_without now lists)
          (λ q over under. subst (λ (ps : List ℕ). length (list_at (lists_without ps lists) q) ≤ 0)
          (sym starts.1) (fewer prios prio q lists
          (highest_below-above 4 prio q (lists_without prios lists) starts.0 over under))) few;
      left = left ∙ ap (λ (n : ℕ). length (list_at lists prio) - n) (count
          ∙ ap (λ (n : ℕ). n + 1) (sym at));
      within = omega arith;
    }
