-- All that a network holds is packets in their link form, and each number of its registers fits.
use Rattle.std.specs.Prelude.{◌≡◌, ℕ, ◌<◌, List, Some}
use Rattle.std.specs.List.{AllByRecursion}
use Rattle.rio_packets.specs.LinkForm.{Passes}
use Rattle.maint_registers.specs.Within.{IsWithin}
use Rattle.fabric_script.specs.declared.ports.PortRef.{PortRef}
use Rattle.fabric_model.specs.Network.{Item, Network, first_packet}
use Rattle.fabric_model.specs.Serving.{response_at}

-- each of these items is a packet in its link form
abbrev pub ItemsPass : List Item → Type 0
ItemsPass items = AllByRecursion (λ item. Passes item.now) items

-- all items are, and the registers of each node are within
pub record IsFormed (net : Network) : Type 0 where
  pub received : (p : PortRef) (r : ℕ) → ItemsPass (net.received p r)
  pub waiting : (p : PortRef) (r : ℕ) → ItemsPass (net.waiting p r)
  pub lent : (p : PortRef) → ItemsPass (net.lent p)
  pub registers : AllByRecursion IsWithin net.registers

-- Whatever the registers answer to a packet that is first in a lane is a packet in its link form.
abbrev pub AnswersPass : Network → Type 0
AnswersPass net = (p : PortRef) (r : ℕ) (packet response : List ℕ) → p.port < 0x100
    → first_packet (net.received p r) ≡ Some packet → response_at net p packet ≡ Some response
    → Passes response
