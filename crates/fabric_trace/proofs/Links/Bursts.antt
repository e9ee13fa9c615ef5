-- What a port sends, as its wire and its output half show it.
use Rattle.fabric_trace.proofs.Prelude.{◌≡◌, ℕ, zero, suc, ◌<◌, ◌++◌, Bool, true, false, List, [], ◌∷◌, length, slice_get, Option, Some, None, refl, ap, ◌∙◌, cond, if◌then◌else◌, nat_lt, subst, slice_get-get_or, Fields, prio_of, list_at, IsOutStore, highest, highest_below-some, IsOutStore-lists_without, Event, Ctl, Outstanding, with_next, next_ack, Place, status, Plain, window, PortState, IsPort, prios_of, first_has_prio, IsAnswer, AreAnswers, chars_of, controls, answers_read, turn_port, port_turned, bursts, answers, says, sends, event_leaves, symbol_leaves}
use Rattle.link_model.specs.Output as out
use Rattle.link_model.specs.Reports.{has_credit}
use Rattle.link_port.specs.Turns.{IsRead, standing, no_burst, symbol_burst, packet_burst, burst_of, turn_sends, turns_to, waiting_in}
use Rattle.link_port.proofs.SentReads.{none_read, status_read, standing_range}

pub sends-append : (output : out.Output) (xs ys : List Event)
    → sends output (xs ++ ys) ≡ sends (sends output xs) ys
unfolding sends
sends-append output [] ys = refl
sends-append output (x ∷ xs) ys = sends-append (event_leaves x output) xs ys

pub sends-none : (output : out.Output) → sends output [] ≡ output
unfolding sends
sends-none output = refl

-- ---- one turn

packet_sends : (w : Outstanding) (port : PortState) (prio : ℕ) (found : Option (List ℕ))
    (packet : List ℕ) → found ≡ Some packet → prio_of packet ≡ prio
    → sends (out.Output.Ok w) (packet_burst (standing port) (next_ack w) found).sent
    ≡ out.Output.Ok (with_next w prio)
unfolding sends
packet_sends w port prio None packet is its = absurd cc
packet_sends w port prio (Some first) packet is its =
    let same : first ≡ packet = cc in
    ap (λ p. out.Output.Ok (with_next w p)) (ap prio_of same ∙ its)

unstarted_sends : (tells : Bool) (w : Outstanding) (port : PortState) (lists : List (List (List ℕ)))
    → sends (out.Output.Ok w) (burst_of (out.unstarted tells) (standing port) lists).sent
    ≡ out.Output.Ok w
unfolding sends
unstarted_sends true w port lists = refl
unstarted_sends false w port lists = refl

started_sends : (tells : Bool) (w : Outstanding) (port : PortState)
    (lists : List (List (List ℕ))) (waiting : Option ℕ) → IsOutStore lists
    → ((prio : ℕ) → waiting ≡ Some prio → (prio < 4) × (0 < length (list_at lists prio)))
    → sends (out.Output.Ok w)
    (burst_of (out.started tells w waiting).sends (standing port) lists).sent
    ≡ (out.started tells w waiting).state
started_sends tells w port lists None store has = unstarted_sends tells w port lists
started_sends tells w port lists (Some prio) store has =
    let some = has prio refl in
    let first = slice_get-get_or (list_at lists prio) 0 [] some.1 in
    packet_sends w port prio (slice_get (list_at lists prio) 0) _ first
    (first_has_prio lists prio _ store some.0 first)

-- the priority that is found
abbrev found_or_none : Option ℕ → ℕ
found_or_none None = 0
found_or_none (Some prio) = prio

credited_is : (credit : Bool) (p prio : ℕ) → cond credit (Some p) None ≡ Some prio → p ≡ prio
credited_is true p prio is = ap found_or_none is
credited_is false p prio is = absurd cc

credited_has : (w : Outstanding) (lists : List (List (List ℕ))) (waiting : Option ℕ) (prio : ℕ)
    → ((p : ℕ) → waiting ≡ Some p → (p < 4) × (0 < length (list_at lists p)))
    → out.credited w waiting ≡ Some prio → (prio < 4) × (0 < length (list_at lists prio))
credited_has w lists None prio has is = absurd cc
credited_has w lists (Some p) prio has is =
    subst (λ n. (n < 4) × (0 < length (list_at lists n)))
    (credited_is (has_credit w.report (next_ack w) p) p prio is) (has p refl)

pub startable_has : (w : Outstanding) (lists : List (List (List ℕ))) (few : Bool) (prio : ℕ)
    → cond few (out.credited w (highest lists)) None ≡ Some prio
    → (prio < 4) × (0 < length (list_at lists prio))
startable_has w lists true prio is =
    credited_has w lists (highest lists) prio (λ p found. highest_below-some 4 p lists found) is
startable_has w lists false prio is = absurd cc

turn_sends_by : (tells : Bool) (output : out.Output) (port : PortState)
    (lists : List (List (List ℕ))) → IsOutStore lists
    → sends output
    (burst_of (out.turns tells output (highest lists)).sends (standing port) lists).sent
    ≡ (out.turns tells output (highest lists)).state
unfolding sends
turn_sends_by tells (out.Output.Ok w) port lists store =
    started_sends tells w port lists (out.startable w (highest lists)) store
    (startable_has w lists (nat_lt (length w.prios) window))
turn_sends_by tells (out.Output.RetryStopped w) port lists store = refl
turn_sends_by tells (out.Output.ErrorStopped true w) port lists store = refl
turn_sends_by tells (out.Output.ErrorStopped false w) port lists store = refl
turn_sends_by tells out.Output.Failed port lists store = refl

turn_leaves : (port : PortState) → IsPort port
    → sends port.output (turn_sends port).sent ≡ (turns_to port).output
turn_leaves port is =
    turn_sends_by port.tells port.output port (waiting_in port)
    (IsOutStore-lists_without (prios_of port.output) port.queued is.covered is.sends)

-- ---- many turns

-- what the turns send leaves the output half as the turns do
pub turns_leave : (n : ℕ) (port : PortState) → IsPort port
    → sends port.output (bursts n port).sent ≡ (port_turned n port).output
unfolding port_turned bursts
turns_leave zero port is = sends-none port.output
turns_leave (suc n) port is =
    sends-append port.output (turn_sends port).sent (bursts n (turns_to port)).sent
    ∙ ap (λ (o : out.Output). sends o (bursts n (turns_to port)).sent) (turn_leaves port is)
    ∙ turns_leave n (turns_to port) (turn_port port is)

-- ---- a status

told_read : (tells : Bool) (port : PortState) → IsPort port
    → IsRead (if tells then symbol_burst (status (standing port).expected (standing port).buffers)
    else no_burst)
told_read true port is = status_read (standing port) (standing_range port is)
told_read false port is = none_read

-- ---- answers

-- answers, read by themselves, say themselves
pub answers_say : (replies : List Fields) → AreAnswers replies
    → says (answers replies).chars ≡ (answers replies).sent
unfolding chars_of controls
answers_say replies are = ap (λ (r : List Event × Place). r.0) (answers_read Plain replies refl are)

nop_leaves : (symbol : Fields) (output : out.Output) → IsAnswer symbol
    → event_leaves (Ctl symbol) output ≡ output
nop_leaves symbol (out.Output.Ok w) is = refl
nop_leaves symbol (out.Output.RetryStopped w) is =
    ap (λ n. symbol_leaves n (out.Output.RetryStopped w)) is.nop
nop_leaves symbol (out.Output.ErrorStopped asked w) is =
    ap (λ n. symbol_leaves n (out.Output.ErrorStopped asked w)) is.nop
nop_leaves symbol out.Output.Failed is = refl

-- and leave an output half as it is
pub answers_leave : (replies : List Fields) (output : out.Output) → AreAnswers replies
    → sends output (answers replies).sent ≡ output
unfolding sends AreAnswers
answers_leave [] output are = refl
answers_leave (symbol ∷ replies) output are =
    ap (λ (o : out.Output). sends o (answers replies).sent) (nop_leaves symbol output are.0)
    ∙ answers_leave replies output are.1
