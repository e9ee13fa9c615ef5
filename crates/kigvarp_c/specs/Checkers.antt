-- What C owes of the handle of a checker, and what opening it does.
use Rattle.std.specs.Prelude.{◌≡◌, ◌⊎◌, ℕ, List, [], ◌∷◌, length}
use Rattle.library_calls.specs.declared.status.CallStatus.{CallStatus}
use Rattle.library_calls.specs.declared.status.CallStatus.TheVariants.{Done}
use Rattle.library_calls.specs.declared.told.HitTold.{HitTold}
use Rattle.library_calls.specs.declared.checks.OpenChecker.{OpenChecker}
use Rattle.library_calls.specs.Checks.{no_hit, IsOpenedChecker, CheckerRefused}
use Rattle.kigvarp_c.specs.declared.checker.KigvarpChecker.{KigvarpChecker}

-- it was zeroed, or came from a call of this library
abbrev pub IsCheckerHandle : KigvarpChecker → Type 0
IsCheckerHandle checker = length checker.handle.checkers ≡ checker.open

-- a closed handle has a new checker of the fabric that the set-up lines make, or stays closed
abbrev pub OpensChecker : List ℕ → HitTold → CallStatus → List OpenChecker → Type 0
OpensChecker script hit status after =
    ((status ≡ Done) × (hit ≡ no_hit)
    × ((opened : OpenChecker) × (after ≡ opened ∷ []) × IsOpenedChecker script opened))
    ⊎ ((after ≡ []) × CheckerRefused script hit status)
