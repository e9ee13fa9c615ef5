-- Once the other host is lost, each lock is free or the walker's own.
use Rattle.contest_machine.proofs.Prelude.{◌≡◌, ◌≢◌, ℕ, Bool, true, false, List, [], ◌++◌, Option, Some, None, Contains, arith, ◌⊎◌, inl, inr, subst, sym, refl, ap, ◌∙◌, if◌then◌else◌, Contains-append_cases, PortRef, entered, AllRegisters, paths_of, Contains-cases, not_in_empty, other_side, Side, A, B, Asked, Check, Lost, Walker, State, kept, fresh, wants, stepped, is_locking, locked_on, Both, turn_of, Keeps, IsLockOfNone, walker_of, reads_lock, lock_at, lock_told_to, lock_next, lock_next_on, state_of, locks_at_first, locks_in, locks_in_turn, HasLesser, IsUnlocked}
use Rattle.contest_machine.proofs.Keeping.Frame.{keeps_or_not}
use Rattle.contest_machine.proofs.Turns.Lasting.{step_lasts}
use Rattle.contest_machine.proofs.Turns.Led.{IsLedAt}
use Rattle.contest_machine.proofs.Turns.Fair.{AreFair, step_fair, begun_fair}
use Rattle.contest_machine.proofs.Turns.Counted.{FairFor}
use Rattle.contest_machine.proofs.Turns.Greatest.{ended_turn}

-- ---- the locks, once the other is lost

abbrev AreOwn : ℕ → List ℕ → Type 0
AreOwn id locks = (lock : ℕ) → Contains locks lock → (lock ≡ 0xffff) ⊎ (lock ≡ id)

none_own : (id : ℕ) → AreOwn id []
none_own id lock found = absurd (not_in_empty lock found)

own_append : (id : ℕ) (first second : List ℕ) → AreOwn id first → AreOwn id second
    → AreOwn id (first ++ second)
own_append id first second own also lock found = go (Contains-append_cases first second lock found)
  where
    go : Contains first lock ⊎ Contains second lock → (lock ≡ 0xffff) ⊎ (lock ≡ id)
    go (inl here) = own lock here
    go (inr there) = also lock there

module _ (before : AllRegisters) (o : Walker) (lost : o.stage ≡ Lost)
    (unlocked : IsUnlocked before) where
  free_or_own : (w : Walker) (now : AllRegisters) → AreFair before w o now → (node : ℕ)
      → ((now node).lock ≡ 0xffff) ⊎ ((now node).lock ≡ w.id)
  free_or_own w now fair node = go (keeps_or_not w node)
    where
      clear : kept o ≡ []
      clear = ap (λ d. paths_of d ++ fresh o.stage o.path)
          (subst (IsLedAt o) lost fair.second.led.1).1
          ∙ ap (λ s. fresh s o.path) lost

      none : ¬ Keeps o node
      none keeps = not_in_empty keeps.0 (subst (λ l. Contains l keeps.0) clear keeps.1)

      not_checking : Check ≢ Lost
      not_checking e = cc

      at : IsLockOfNone w o before now node
          → ((now node).lock ≡ 0xffff) ⊎ ((now node).lock ≡ w.id)
      at (inl free) = inl free
      at (inr (inl first)) = inl (first ∙ unlocked node)
      at (inr (inr (inl claimed))) = inr claimed.2
      at (inr (inr (inr claimed))) = absurd (not_checking (sym claimed.0 ∙ lost))

      go : Keeps w node ⊎ (¬ Keeps w node)
          → ((now node).lock ≡ 0xffff) ⊎ ((now node).lock ≡ w.id)
      go (inl keeps) = inr (fair.contest.first.locks node keeps)
      go (inr not) = at (fair.contest.others node not none)

  -- a state of the walker with this ID
  abbrev IsAlone : ℕ → State → Type 0
  IsAlone id state = AreFair before state.walker o state.registers × (state.walker.id ≡ id)

  own_next : (id : ℕ) (state : State) → IsAlone id state → AreOwn id (lock_next state)
  own_next id state alone = asks (wants state.walker)
    where
      at : (p : Option PortRef) → AreOwn id (lock_at state.registers p)
      at None lock found = none_own id lock found
      at (Some port) lock found =
          here (Contains-cases (state.registers port.node).lock [] lock found)
        where
          own : ((state.registers port.node).lock ≡ 0xffff)
              ⊎ ((state.registers port.node).lock ≡ state.walker.id)
              → (state.registers port.node).lock ≡ lock → (lock ≡ 0xffff) ⊎ (lock ≡ id)
          own (inl free) same = inl (sym same ∙ free)
          own (inr is) same = inr (sym same ∙ (is ∙ alone.1))

          here : ((state.registers port.node).lock ≡ lock) ⊎ Contains [] lock
              → (lock ≡ 0xffff) ⊎ (lock ≡ id)
          here (inl same) = own (free_or_own state.walker state.registers alone.0 port.node) same
          here (inr empty) = absurd (not_in_empty lock empty)

      reads : (b : Bool) (p : Option PortRef)
          → AreOwn id (if b then lock_at state.registers p else [])
      reads true p = at p
      reads false p = none_own id

      asks : (ask : Option Asked) → AreOwn id (lock_told_to state ask)
      asks None = none_own id
      asks (Some ask) = reads (reads_lock ask.access) (entered state.walker.view ask.path)

  own_next_on : (id : ℕ) (state : State) → IsAlone id state → AreOwn id (lock_next_on state)
  own_next_on id state alone = go (is_locking state.walker.stage)
    where
      go : (b : Bool) → AreOwn id (if b then lock_next state else [])
      go true = own_next id state alone
      go false = none_own id

  step_alone : (id : ℕ) (state : State) → IsAlone id state
      → IsAlone id (stepped state.walker state.registers)
  step_alone id state alone = (
    step_fair before state.walker o state.registers alone.0,
    (step_lasts state.walker state.registers).id ∙ alone.1,
  )

  locked_alone : (id : ℕ) (state : State) → IsAlone id state → IsAlone id (locked_on state)
  locked_alone id state alone = go (is_locking state.walker.stage)
    where
      go : (b : Bool) → IsAlone id (if b then stepped state.walker state.registers else state)
      go true = step_alone id state alone
      go false = alone

  own_locks : (w : Walker) (old : AllRegisters) → AreFair before w o old
      → AreOwn w.id (locks_in w old)
  own_locks w old fair = go w.begun
    where
      first : State
      first = state_of (record w { begun = true }) old

      one : IsAlone w.id (state_of (record w { begun = true }) old)
      one = (begun_fair before w o old fair, refl)

      two : IsAlone w.id (stepped (record w { begun = true }) old)
      two = step_alone w.id (state_of (record w { begun = true }) old) one

      go : (b : Bool) → AreOwn w.id (if b then lock_next (state_of w old)
          else locks_at_first (state_of (record w { begun = true }) old))
      go true = own_next w.id (state_of w old) (fair, refl)
      go false =
          own_append w.id (lock_next (state_of (record w { begun = true }) old))
          (lock_next_on (stepped (record w { begun = true }) old)
          ++ lock_next_on (locked_on (stepped (record w { begun = true }) old)))
          (own_next w.id (state_of (record w { begun = true }) old) one)
          (own_append w.id (lock_next_on (stepped (record w { begun = true }) old))
          (lock_next_on (locked_on (stepped (record w { begun = true }) old)))
          (own_next_on w.id (stepped (record w { begun = true }) old) two)
          (own_next_on w.id (locked_on (stepped (record w { begun = true }) old))
          (locked_alone w.id (stepped (record w { begun = true }) old) two)))

  no_lesser : (w : Walker) (old : AllRegisters) → AreFair before w o old
      → ¬ HasLesser w.id (locks_in w old)
  no_lesser w old fair found = go (own_locks w old fair found.0 found.1)
    where
      go : (found.0 ≡ 0xffff) ⊎ (found.0 ≡ w.id) → ⊥
      go (inl free) =
          let less = found.2 in
          let small = fair.contest.first_id in
          omega (arith, free, less, small)
      go (inr own) =
          let less = found.2 in
          omega (arith, own, less)

-- ---- the other stays lost

abbrev pub OtherIsLost : Both → Side → Type 0
OtherIsLost both side = (walker_of both (other_side side)).stage ≡ Lost

pub lost_stays : (before : AllRegisters) (both : Both) (side turn : Side) → FairFor before both side
    → OtherIsLost both side → OtherIsLost (turn_of both turn) side
lost_stays before both A A fair lost = lost
lost_stays before both A B fair lost =
    (ended_turn both.second both.registers Lost lost
    (subst (IsLedAt both.second) lost fair.second.led.1).0 (λ v. refl) refl).0
lost_stays before both B A fair lost =
    (ended_turn both.first both.registers Lost lost
    (subst (IsLedAt both.first) lost fair.second.led.1).0 (λ v. refl) refl).0
lost_stays before both B B fair lost = lost

pub no_lesser_for : (before : AllRegisters) (both : Both) (side : Side) → IsUnlocked before
    → FairFor before both side → OtherIsLost both side
    → ¬ HasLesser (walker_of both side).id (locks_in_turn both side side)
no_lesser_for before both A unlocked fair lost =
    no_lesser before both.second lost unlocked both.first both.registers fair
no_lesser_for before both B unlocked fair lost =
    no_lesser before both.first lost unlocked both.second both.registers fair
