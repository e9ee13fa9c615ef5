-- What a line does that an open checker is given.
use Rattle.std.specs.Prelude.{◌≡◌, ◌==◌, ◌<◌, ℕ, Bool, true, false, List, [], ◌∷◌, ◌++◌, length, if◌then◌else◌}
use Rattle.fabric_script.specs.Known.{of_set_up}
use Rattle.fabric_script.specs.Scripts.{RefusedIn}
use Rattle.trace_check.specs.declared.checking.CheckEnd.{CheckEnd}
use Rattle.trace_check.specs.declared.checking.CheckEnd.TheVariants as end
use Rattle.trace_check.specs.declared.checking.Unlawful.{Unlawful as Hit}
use Rattle.trace_check.specs.Lawful.{IsLawful}
use Rattle.trace_check.specs.Starting.{net_of}
use Rattle.trace_check.specs.Taken.{HasTakenLines, IsHitAt, IsHitIn, IsSetUpOf}
use Rattle.library_calls.specs.declared.status.CallStatus.{CallStatus}
use Rattle.library_calls.specs.declared.status.CallStatus.TheVariants.{Done, Argument, NoMemory, Cut, Spent, Unlawful, Refused}
use Rattle.library_calls.specs.declared.told.HitTold.{HitTold}
use Rattle.library_calls.specs.declared.checks.OpenChecker.{OpenChecker}

-- no line is hit
abbrev pub no_hit : HitTold
no_hit = record { line = 0; reason = 0 }

-- what is told of the line that a reason hits
abbrev pub hit_told : ℕ → ℕ → HitTold
hit_told line reason = record { line = line; reason = reason }

-- the line and the reason that are told
abbrev pub hit_of : HitTold → Hit
hit_of hit = record { line = hit.line; reason = hit.reason }

-- No further line is answered: it is spent, or the numbers of lines are.
abbrev pub is_checker_spent : OpenChecker → Bool
is_checker_spent opened = if opened.spent then true else (opened.checker.lines == 4294967295)

-- It checks a trace of the fabric that these set-up lines make, of which no line was taken.
pub record IsOpenedChecker (script : List ℕ) (opened : OpenChecker) : Type 0 where
  pub set_up : IsSetUpOf script opened.checker.set_up
  pub taken : HasTakenLines [] opened.checker
  pub going : opened.spent ≡ false

-- There is no checker: the set-up lines are too long, or a reason hits one of them, or memory was
-- refused.
abbrev pub CheckerRefused : List ℕ → HitTold → CallStatus → Type 0
CheckerRefused script hit Argument = (16777216 < length script) × (hit ≡ no_hit)
CheckerRefused script hit Refused = RefusedIn of_set_up script hit.line hit.reason
CheckerRefused script hit NoMemory = hit ≡ no_hit
CheckerRefused script hit _ = ⊥

-- how the end of a checker is told that took the set-up lines
abbrev pub TellsEnd : CheckEnd → HitTold → CallStatus → Type 0
TellsEnd (end.Unlawful found) hit status =
    (status ≡ Unlawful) × (hit ≡ hit_told found.line found.reason)
TellsEnd end.NoMemory hit status = (status ≡ Cut) × (hit ≡ no_hit)
TellsEnd (end.Refused refusal) hit status = ⊥

-- a line was to be taken, and no further one is
pub record CheckerEnds (old new : OpenChecker) : Type 0 where
  pub going : is_checker_spent old ≡ false
  pub spent : new.spent ≡ true

-- The line was taken, and all that were taken are lawful so far.
pub record LineIsTaken (line : List ℕ) (old new : OpenChecker) : Type 0 where
  pub going : is_checker_spent old ≡ false
  pub still : new.spent ≡ false
  pub set_up : new.checker.set_up ≡ old.checker.set_up
  pub taken : (texts : List (List ℕ)) → HasTakenLines texts old.checker
      → HasTakenLines (texts ++ line ∷ []) new.checker

-- A line was taken; or a reason hits it, or the edit before it, whatever more may come; or memory
-- was refused. A spent checker stays as it is.
abbrev pub CheckerTakes : List ℕ → HitTold → OpenChecker → CallStatus → OpenChecker → Type 0
CheckerTakes line hit old Done new = LineIsTaken line old new × (hit ≡ no_hit)
CheckerTakes line hit old Unlawful new = CheckerEnds old new
    × ((texts : List (List ℕ)) → HasTakenLines texts old.checker
    → IsHitIn old.checker.set_up (texts ++ line ∷ []) (hit_of hit))
CheckerTakes line hit old Cut new = CheckerEnds old new × (hit ≡ no_hit)
CheckerTakes line hit old Spent new =
    (is_checker_spent old ≡ true) × (new ≡ old) × (hit ≡ no_hit)
CheckerTakes line hit old _ new = ⊥

-- No line follows: the lines are a lawful trace of so many steps; or a reason hits the last one, or
-- the one that lacks; or memory was refused.
abbrev pub CheckerEndsBy : HitTold → ℕ → OpenChecker → CallStatus → OpenChecker → Type 0
CheckerEndsBy hit steps old Done new = CheckerEnds old new × (hit ≡ no_hit)
    × ((texts : List (List ℕ)) → HasTakenLines texts old.checker
    → IsLawful old.checker.set_up.known (net_of old.checker.set_up) texts steps)
CheckerEndsBy hit steps old Unlawful new = CheckerEnds old new × (steps ≡ 0)
    × ((texts : List (List ℕ)) → HasTakenLines texts old.checker
    → IsHitAt old.checker.set_up texts (hit_of hit))
CheckerEndsBy hit steps old Cut new = CheckerEnds old new × (hit ≡ no_hit) × (steps ≡ 0)
CheckerEndsBy hit steps old Spent new =
    (is_checker_spent old ≡ true) × (new ≡ old) × (hit ≡ no_hit) × (steps ≡ 0)
CheckerEndsBy hit steps old _ new = ⊥
