use Rattle.kigvarp_c.proofs.HandleWalks.{of_parts_met}
use Rattle.kigvarp_c.proofs.FabricForm.{fabric_form}
use Rattle.kigvarp_c.specs.contracts.fabric_handle.FabricHandle.of_parts.Key.{name as #self}
use Rattle.kigvarp_c.proofs.fabric_handle.FabricHandle.of_parts.Statement.{statement}
use Rattle.kigvarp_c.proofs.fabric_handle.FabricHandle.of_parts.Code as code

pub of_parts_spec : {M : Type 1} → statement M
of_parts_spec 𝓤 𝓛 𝓜 𝓡 wired =
    of_parts_met fabric_form 𝓛 𝓜 𝓡 #self (code.unfolded 𝓤 𝓛.H 𝓜 𝓡 wired)
