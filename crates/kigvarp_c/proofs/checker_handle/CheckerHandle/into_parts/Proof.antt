use Rattle.kigvarp_c.proofs.HandleWalks.{into_parts_met}
use Rattle.kigvarp_c.proofs.CheckerForm.{checker_form}
use Rattle.kigvarp_c.specs.contracts.checker_handle.CheckerHandle.into_parts.Key.{name as #self}
use Rattle.kigvarp_c.proofs.checker_handle.CheckerHandle.into_parts.Statement.{statement}
use Rattle.kigvarp_c.proofs.checker_handle.CheckerHandle.into_parts.Code as code

pub into_parts_spec : {M : Type 1} → statement M
into_parts_spec 𝓤 𝓛 𝓜 𝓡 wired =
    into_parts_met checker_form 𝓛 𝓜 𝓡 #self (code.unfolded 𝓤 𝓛.H 𝓜 𝓡 wired)
