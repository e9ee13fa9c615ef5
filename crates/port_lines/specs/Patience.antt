-- When a port by clocks has waited too long for an answer.
use Rattle.std.specs.Prelude.{ℕ, ◌-◌, ◌==◌, ◌&&◌, Bool, true, false, nat_lt, if◌then◌else◌, List, [], ◌∷◌, length}
use Rattle.rio_chars.specs.declared.chars.Char.{Char}
use Rattle.link_model.specs.Prelude.{at_rest}
use Rattle.link_model.specs.Output.{Output}
use Rattle.link_port.specs.Ports.{PortState}
use Rattle.link_port.specs.States.{prios_of}
use Rattle.link_port.specs.Turns.{timed_out}
use Rattle.link_port.specs.Halves.{out_kind_of}
use Rattle.link_port.specs.declared.kinds.OutKind.{OutKind}
use Rattle.link_port.specs.declared.kinds.OutKind.TheVariants as out

-- whether the output half waits for an answer: it has packets outstanding, or it has sent a
-- link-request; one that has to send something first, or has failed, waits for none
abbrev pub awaits_answer : Output → Bool
awaits_answer (Output.Ok w) = nat_lt 0 (length w.prios)
awaits_answer (Output.RetryStopped w) = false
awaits_answer (Output.ErrorStopped asked w) = asked
awaits_answer Output.Failed = false

-- the number of a state of the output half
abbrev pub out_number : OutKind → ℕ
out_number out.Ok = 0
out_number out.RetryStopped = 1
out_number out.ErrorStopped = 2
out_number out.Failed = 3

-- whether the same is told of an output half: its state, and how many packets are outstanding
abbrev pub same_out_state : Output → Output → Bool
same_out_state one other =
    (out_number (out_kind_of one) == out_number (out_kind_of other))
    && (length (prios_of one) == length (prios_of other))

-- whether nothing waits to be given
abbrev pub is_all_given : List Char → Bool
is_all_given [] = true
is_all_given (c ∷ chars) = false

-- whether nothing is on the way that a port can see: what it sends is all given, and neither a
-- symbol nor a packet is coming in
abbrev pub is_quiet : PortState → List Char → Bool
is_quiet port left = is_all_given left && at_rest port.place

-- Whether a clock goes by without an answer: its character left what is told of the output half as
-- it was, and behind its turn the port waits for an answer, and nothing is on the way.
abbrev pub goes_unanswered : (before after turned : PortState) → List Char → Bool
goes_unanswered before after turned left =
    (same_out_state before.output after.output && awaits_answer turned.output)
    && is_quiet turned left

-- how many such clocks are left, one after another, until the port has waited too long: all again
-- if one has an answer, or if it was the last
abbrev pub patience_after : ℕ → ℕ → Bool → ℕ
patience_after patience left unanswered =
    if unanswered && nat_lt 1 left then left - 1 else patience

-- whether the clock was the last of them
abbrev pub is_too_long : ℕ → Bool → Bool
is_too_long left unanswered = unanswered && (left == 1)

abbrev pub timed_out_if : Bool → PortState → PortState
timed_out_if true port = timed_out port
timed_out_if false port = port
