use Rattle.kigvarp_c.proofs.HandleWalks.{closed_met}
use Rattle.kigvarp_c.proofs.CheckerForm.{checker_form}
use Rattle.kigvarp_c.specs.contracts.checker_handle.CheckerHandle.closed.Key.{name as #self}
use Rattle.kigvarp_c.proofs.checker_handle.CheckerHandle.closed.Statement.{statement}
use Rattle.kigvarp_c.proofs.checker_handle.CheckerHandle.closed.Code as code

pub closed_spec : {M : Type 1} → statement M
closed_spec 𝓤 𝓛 𝓜 𝓡 wired =
    closed_met checker_form 𝓛 𝓜 𝓡 #self (code.unfolded 𝓤 𝓛.H 𝓜 𝓡 wired)
