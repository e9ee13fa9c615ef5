use Rattle.kigvarp_c.proofs.HandleWalks.{closed_met}
use Rattle.kigvarp_c.proofs.PortForm.{port_form}
use Rattle.kigvarp_c.specs.contracts.port_handle.PortHandle.closed.Key.{name as #self}
use Rattle.kigvarp_c.proofs.port_handle.PortHandle.closed.Statement.{statement}
use Rattle.kigvarp_c.proofs.port_handle.PortHandle.closed.Code as code

pub closed_spec : {M : Type 1} → statement M
closed_spec 𝓤 𝓛 𝓜 𝓡 wired =
    closed_met port_form 𝓛 𝓜 𝓡 #self (code.unfolded 𝓤 𝓛.H 𝓜 𝓡 wired)
