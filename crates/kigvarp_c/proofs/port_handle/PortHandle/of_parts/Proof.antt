use Rattle.kigvarp_c.proofs.HandleWalks.{of_parts_met}
use Rattle.kigvarp_c.proofs.PortForm.{port_form}
use Rattle.kigvarp_c.specs.contracts.port_handle.PortHandle.of_parts.Key.{name as #self}
use Rattle.kigvarp_c.proofs.port_handle.PortHandle.of_parts.Statement.{statement}
use Rattle.kigvarp_c.proofs.port_handle.PortHandle.of_parts.Code as code

pub of_parts_spec : {M : Type 1} → statement M
of_parts_spec 𝓤 𝓛 𝓜 𝓡 wired =
    of_parts_met port_form 𝓛 𝓜 𝓡 #self (code.unfolded 𝓤 𝓛.H 𝓜 𝓡 wired)
