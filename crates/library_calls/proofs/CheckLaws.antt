-- What a checker that has ended tells.
use Rattle.std.proofs.Common.{◌≡◌, ℕ, true, false, List, [], ◌∷◌, ◌++◌, refl, sym, ap, subst}
use Rattle.trace_check.specs.declared.checking.CheckEnd.{CheckEnd}
use Rattle.trace_check.specs.declared.checking.CheckEnd.TheVariants as end
use Rattle.trace_check.specs.declared.checking.Unlawful.{Unlawful as Hit}
use Rattle.trace_check.specs.Taken.{HasTakenLines, IsHitAt, IsHitIn}
use Rattle.library_calls.specs.declared.status.CallStatus.{CallStatus}
use Rattle.library_calls.specs.declared.told.HitTold.{HitTold}
use Rattle.library_calls.specs.declared.checks.OpenChecker.{OpenChecker}
use Rattle.library_calls.specs.Checks.{hit_of, is_checker_spent, CheckerEnds, CheckerTakes, CheckerEndsBy, TellsEnd}

module _ (hit : HitTold) (status : CallStatus) (old new : OpenChecker)
    (going : is_checker_spent old ≡ false) (spent : new.spent ≡ true) where
  ends : CheckerEnds old new
  ends = record { going = going; spent = spent }

  -- at a line
  pub takes_ended : (why : CheckEnd) (line : List ℕ) → TellsEnd why hit status
      → ((found : Hit) → why ≡ end.Unlawful found → (texts : List (List ℕ))
      → HasTakenLines texts old.checker
      → IsHitIn old.checker.set_up (texts ++ line ∷ []) found)
      → CheckerTakes line hit old status new
  takes_ended (end.Unlawful found) line told hits =
      subst (λ (s : CallStatus). CheckerTakes line hit old s new) (sym told.0) (
        ends,
        λ texts taken. subst (IsHitIn old.checker.set_up (texts ++ line ∷ []))
            (ap hit_of (sym told.1)) (hits found refl texts taken),
      )
  takes_ended end.NoMemory line told hits =
      subst (λ (s : CallStatus). CheckerTakes line hit old s new) (sym told.0) (ends, told.1)
  takes_ended (end.Refused refusal) line told hits = absurd told

  -- behind the last line
  pub ends_ended : (why : CheckEnd) → TellsEnd why hit status
      → ((found : Hit) → why ≡ end.Unlawful found → (texts : List (List ℕ))
      → HasTakenLines texts old.checker → IsHitAt old.checker.set_up texts found)
      → CheckerEndsBy hit 0 old status new
  ends_ended (end.Unlawful found) told hits =
      subst (λ (s : CallStatus). CheckerEndsBy hit 0 old s new) (sym told.0) (
        ends,
        refl,
        λ texts taken. subst (IsHitAt old.checker.set_up texts) (ap hit_of (sym told.1))
            (hits found refl texts taken),
      )
  ends_ended end.NoMemory told hits =
      subst (λ (s : CallStatus). CheckerEndsBy hit 0 old s new) (sym told.0) (ends, told.1, refl)
  ends_ended (end.Refused refusal) told hits = absurd told
