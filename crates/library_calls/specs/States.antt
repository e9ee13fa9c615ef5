-- The state of a port in numbers.
use Rattle.std.specs.Prelude.{◌≡◌, ℕ, Bool, true, false, nat_lt, length}
use Rattle.link_buffers.specs.Queues.{packet_count}
use Rattle.link_port.specs.Ports.{PortState}
use Rattle.link_port.specs.States.{prios_of}
use Rattle.link_port.specs.Turns.{waiting_in}
use Rattle.link_port.specs.Halves.{out_kind_of, in_kind_of}
use Rattle.link_port.specs.declared.kinds.InKind.{InKind}
use Rattle.link_port.specs.declared.kinds.InKind.TheVariants as in_half
use Rattle.library_calls.specs.declared.told.StateTold.{StateTold}
use Rattle.port_lines.specs.Patience.{out_number}
use Rattle.library_calls.specs.PortsSeen.{PortSeen}

abbrev pub in_number : InKind → ℕ
in_number in_half.Ok = 0
in_number in_half.RetryStopped = 1
in_number in_half.ErrorStopped = 2

abbrev pub bool_number : Bool → ℕ
bool_number false = 0
bool_number true = 1

-- both halves, how many packets are outstanding, and whether one waits
pub record TellsState (port : PortState) (told : StateTold) : Type 0 where
  pub output : told.output ≡ out_number (out_kind_of port.output)
  pub input : told.input ≡ in_number (in_kind_of port.input)
  pub outstanding : told.outstanding ≡ length (prios_of port.output)
  pub waiting : told.waiting ≡ bool_number (nat_lt 0 (packet_count (waiting_in port)))

-- the state was told, and stays
abbrev pub StateTells : StateTold → PortSeen → PortSeen → Type 0
StateTells told old new = TellsState old.port told × (new ≡ old)
