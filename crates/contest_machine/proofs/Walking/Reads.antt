-- Which accesses read a lock.
use Rattle.contest_machine.proofs.Prelude.{◌≡◌, ℕ, List, [], ◌∷◌, Option, Some, None, Contains, ◌⊎◌, inl, inr, subst, refl, PortRef, entered, Contains-cases, not_in_empty, PendingWrite, Tried, Stage, Ask, Claim, Check, Test, Features, Information, Status, Free, Done, Lost, Walker, State, status_asked, wants_at, wants_with, lock_at, lock_next, lock_told_to}
use Rattle.contest_machine.proofs.Turns.Steps.{status_reads_none}

-- the next access reads the lock of the device on the path
pub record IsLockRead (state : State) (lock : ℕ) : Type 0 where
  pub clear : state.walker.todo ≡ []
  pub stage : (state.walker.stage ≡ Ask) ⊎ (state.walker.stage ≡ Check)
  pub at : PortRef
  pub enters : entered state.walker.view state.walker.path ≡ Some at
  pub is : (state.registers at.node).lock ≡ lock

module _ (state : State) (lock : ℕ) where
  abbrev w : Walker
  w = state.walker

  abbrev Reads : Option PortRef → Type 0
  Reads o = Contains (lock_at state.registers o) lock

  at_path : (w.stage ≡ Ask) ⊎ (w.stage ≡ Check) → w.todo ≡ [] → (o : Option PortRef)
      → entered w.view w.path ≡ o → Reads o → IsLockRead state lock
  at_path stage clear None enters found = absurd (not_in_empty lock found)
  at_path stage clear (Some at) enters found = record {
    clear = clear;
    stage = stage;
    at = at;
    enters = enters;
    is = here (Contains-cases (state.registers at.node).lock [] lock found);
  }
    where
      here : ((state.registers at.node).lock ≡ lock) ⊎ Contains [] lock
          → (state.registers at.node).lock ≡ lock
      here (inl same) = same
      here (inr none) = absurd (not_in_empty lock none)

  of_status : (tried : List Tried) → ¬ Contains (lock_told_to state (status_asked tried)) lock
  of_status [] found = not_in_empty lock found
  of_status (top ∷ rest) found =
      not_in_empty lock
      (subst (λ l. Contains l lock) (status_reads_none w state.registers top rest) found)

  by_stage : (stage : Stage) → w.stage ≡ stage → w.todo ≡ []
      → Contains (lock_told_to state (wants_at w stage)) lock → IsLockRead state lock
  by_stage Ask is clear found = at_path (inl is) clear (entered w.view w.path) refl found
  by_stage Claim is clear found = absurd (not_in_empty lock found)
  by_stage Check is clear found = at_path (inr is) clear (entered w.view w.path) refl found
  by_stage Test is clear found = absurd (not_in_empty lock found)
  by_stage Features is clear found = absurd (not_in_empty lock found)
  by_stage Information is clear found = absurd (not_in_empty lock found)
  by_stage Status is clear found = absurd (of_status w.tried found)
  by_stage Free is clear found = absurd (not_in_empty lock found)
  by_stage Done is clear found = absurd (not_in_empty lock found)
  by_stage Lost is clear found = absurd (not_in_empty lock found)

  by_todo : (todo : List PendingWrite) → w.todo ≡ todo
      → Contains (lock_told_to state (wants_with w todo)) lock → IsLockRead state lock
  by_todo [] is found = by_stage w.stage refl is found
  by_todo (p ∷ rest) is found = absurd (not_in_empty lock found)

  pub lock_is_read : Contains (lock_next state) lock → IsLockRead state lock
  lock_is_read found = by_todo w.todo refl found
