-- What stands of a host that walks alone, after each of its accesses.
use Rattle.contest_machine.proofs.Prelude.{◌≢◌, ℕ, zero, suc, ◌<◌, List, [], ◌++◌, Contains, arith, ◌⊎◌, inl, inr, subst, sym, refl, Contains-append_left, Contains-append_cases, not_in_empty, AllRegisters, A, Stage, Ask, Claim, Check, Test, Features, Information, Status, Free, Done, Lost, Walker, State, stepped, IsMine, lock_next, HasGreater, HoldsOn}
use Rattle.contest_machine.specs.AloneWalks.{accesses_on, BeginsAlone, WalksFor}
use Rattle.contest_machine.proofs.Turns.Judged.{IsJudgedAt, IsJudged, step_judged}
use Rattle.contest_machine.proofs.Turns.Judging.{new_judged}
use Rattle.contest_machine.proofs.Numbering.Whole.{IsSound, step_sound, sound_later, begun_ready}
use Rattle.contest_machine.proofs.Walking.Holding.{LeavesUnkept, LeavesForeign, step_unkept, step_foreign}
use Rattle.contest_machine.proofs.Walking.Beside.{idler, beside, both_begun, none_tagged, id_on}

-- the locks that were read
abbrev pub locks_till : State → ℕ → List ℕ
locks_till state zero = []
locks_till state (suc n) = locks_till state n ++ lock_next (accesses_on state n)

pub holding_none : (id : ℕ) (locks : List ℕ) (w : Walker) (stage : Stage)
    → IsJudgedAt id locks w stage → HoldsOn stage → ¬ HasGreater id locks
holding_none id locks w Ask judged on = judged
holding_none id locks w Claim judged on = judged
holding_none id locks w Check judged on = judged
holding_none id locks w Test judged on = judged
holding_none id locks w Features judged on = judged
holding_none id locks w Information judged on = judged
holding_none id locks w Status judged on = judged
holding_none id locks w Free judged on = absurd on
holding_none id locks w Done judged on = judged
holding_none id locks w Lost judged on = absurd on

pub none_holding : (id : ℕ) (locks : List ℕ) (w : Walker) (stage : Stage)
    → IsJudgedAt id locks w stage → ¬ HasGreater id locks → HoldsOn stage
none_holding id locks w Ask judged none = tt
none_holding id locks w Claim judged none = tt
none_holding id locks w Check judged none = tt
none_holding id locks w Test judged none = tt
none_holding id locks w Features judged none = tt
none_holding id locks w Information judged none = tt
none_holding id locks w Status judged none = tt
none_holding id locks w Free judged none = none judged.0
none_holding id locks w Done judged none = tt
none_holding id locks w Lost judged none = none judged.0

fewer : (id : ℕ) (locks more : List ℕ) → ¬ HasGreater id (locks ++ more) → ¬ HasGreater id locks
fewer id locks more none found =
    none (found.0, Contains-append_left locks more found.0 found.1, found.2, found.3)

-- `locks` were read since the first registers, beside a walker that makes no turn.
pub record StandsAlone (first : AllRegisters) (o : Walker) (locks : List ℕ) (state : State)
    : Type 0 where
  pub sound : IsSound first o state
  pub judged : IsJudged state.walker.id locks state.walker
  pub unkept : HoldsOn state.walker.stage → LeavesUnkept first state.walker state.registers
  pub foreign : LeavesForeign first state.walker.id state.registers

module _ (first : AllRegisters) (o : Walker) (locks : List ℕ) (state : State)
    (stands : StandsAlone first o locks state) where
  abbrev w : Walker
  w = state.walker

  abbrev next : State
  next = stepped state.walker state.registers

  pub step_alone : StandsAlone first o (locks ++ lock_next state) next
  step_alone = record {
    sound = step_sound first o state stands.sound;
    judged = (refl, judged);
    unkept = λ on.
        step_unkept first w state.registers fits mine
        (none_holding w.id locks w w.stage stands.judged.1
        (fewer w.id locks (lock_next state)
        (holding_none w.id (locks ++ lock_next state) next.walker next.walker.stage moved.1 on)))
        (stands.unkept (none_holding w.id locks w w.stage stands.judged.1
        (fewer w.id locks (lock_next state)
        (holding_none w.id (locks ++ lock_next state) next.walker next.walker.stage moved.1 on))));
    foreign = subst (λ i. LeavesForeign first i next.registers) (sym moved.0)
        (step_foreign first w state.registers fits mine stands.foreign);
  }
    where
      fits : w.id < 0xff
      fits = stands.sound.fair.contest.first_id

      mine : IsMine w state.registers
      mine = stands.sound.fair.contest.first

      moved : IsJudged w.id (locks ++ lock_next state) next.walker
      moved = step_judged w.id locks w state.registers stands.judged

      judged : IsJudgedAt next.walker.id (locks ++ lock_next state) next.walker next.walker.stage
      judged = subst (λ i. IsJudgedAt i (locks ++ lock_next state) next.walker next.walker.stage)
          (sym moved.0) moved.1

pub stands_on : (state : State) → BeginsAlone state → (n : ℕ)
    → StandsAlone state.registers (idler state) (locks_till state n) (accesses_on state n)
stands_on state begins zero = record {
  sound = sound_later state.registers state.walker (idler state) state.registers
      (begun_ready (beside state (idler state)) A (both_begun state begins)
      (none_tagged state begins A)) begins.begun;
  judged = new_judged state.walker begins.new;
  unkept = λ on node none not. refl;
  foreign = λ node foreign. refl;
}
stands_on state begins (suc n) =
    step_alone state.registers (idler state) (locks_till state n) (accesses_on state n)
    (stands_on state begins n)

-- ---- a host that meets no lock of another

-- none of the locks that were read is greater
pub none_greater_till : (state : State) → BeginsAlone state → (n : ℕ) → WalksFor state n
    → ¬ HasGreater state.walker.id (locks_till state n)
none_greater_till state begins zero walks found = not_in_empty found.0 found.1
none_greater_till state begins (suc n) walks found =
    go (none_greater_till state begins n (λ m less. walks m (omega (arith, less))))
    (Contains-append_cases (locks_till state n) (lock_next (accesses_on state n)) found.0
    found.1)
  where
    go : ¬ HasGreater state.walker.id (locks_till state n)
        → Contains (locks_till state n) found.0
        ⊎ Contains (lock_next (accesses_on state n)) found.0 → ⊥
    go earlier (inl before) = earlier (found.0, before, found.2, found.3)
    go earlier (inr now) =
        (walks n (omega arith)).1 found.0 (now, (found.3, other))
      where
        other : found.0 ≢ (accesses_on state n).walker.id
        other same = let id = id_on state begins n in omega (arith, same, id, found.2)

pub holds_on : (state : State) → BeginsAlone state → (n : ℕ) → WalksFor state n
    → HoldsOn (accesses_on state n).walker.stage
holds_on state begins n walks =
    let stands = stands_on state begins n in
    none_holding (accesses_on state n).walker.id (locks_till state n) (accesses_on state n).walker
    (accesses_on state n).walker.stage stands.judged.1
    (subst (λ i. ¬ HasGreater i (locks_till state n)) (sym (id_on state begins n))
    (none_greater_till state begins n walks))
