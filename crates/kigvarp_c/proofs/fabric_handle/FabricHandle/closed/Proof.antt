use Rattle.kigvarp_c.proofs.HandleWalks.{closed_met}
use Rattle.kigvarp_c.proofs.FabricForm.{fabric_form}
use Rattle.kigvarp_c.specs.contracts.fabric_handle.FabricHandle.closed.Key.{name as #self}
use Rattle.kigvarp_c.proofs.fabric_handle.FabricHandle.closed.Statement.{statement}
use Rattle.kigvarp_c.proofs.fabric_handle.FabricHandle.closed.Code as code

pub closed_spec : {M : Type 1} → statement M
closed_spec 𝓤 𝓛 𝓜 𝓡 wired =
    closed_met fabric_form 𝓛 𝓜 𝓡 #self (code.unfolded 𝓤 𝓛.H 𝓜 𝓡 wired)
