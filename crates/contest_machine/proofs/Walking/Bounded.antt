-- A host that walks alone ends.
use Rattle.contest_machine.proofs.Prelude.{◌≡◌, ◌≢◌, ℕ, zero, suc, ◌+◌, ◌≤◌, ◌<◌, [], arith, subst, refl, A, Turn, State, came_of, lock_next, HasLesser, HoldsOn, going_one}
use Rattle.contest_machine.specs.declared.stages.Turn.TheVariants as Turns
use Rattle.contest_machine.specs.AloneWalks.{accesses_on, BeginsAlone, WalksFor, AloneEnds}
use Rattle.contest_machine.proofs.Turns.Judging.{lost_stage}
use Rattle.contest_machine.proofs.Turns.Alone.{done_stage}
use Rattle.contest_machine.proofs.Turns.Waiting.{step_waits}
use Rattle.contest_machine.proofs.Turns.Fair.{left_of, own_step}
use Rattle.contest_machine.proofs.Turns.Counted.{left_at_most}
use Rattle.contest_machine.proofs.Walking.Beside.{idler, beside, both_begun}
use Rattle.contest_machine.proofs.Walking.Onward.{StandsAlone, locks_till, stands_on, holds_on}

goes : (turn : Turn) → turn ≢ Turns.Waiting → turn ≢ Turns.Done → turn ≢ Turns.Lost
    → going_one turn ≡ 1
goes Turns.Going waits done lost = refl
goes Turns.Waiting waits done lost = absurd (waits refl)
goes Turns.Done waits done lost = absurd (done refl)
goes Turns.Lost waits done lost = absurd (lost refl)

module _ (state : State) (begins : BeginsAlone state) where
  abbrev at : ℕ → State
  at n = accesses_on state n

  stands : (n : ℕ) → StandsAlone state.registers (idler state) (locks_till state n) (at n)
  stands n = stands_on state begins n

  abbrev left : ℕ → ℕ
  left n = left_of (at n).walker (idler state) (at n).registers

  no_wait : (n : ℕ) → WalksFor state (suc n)
      → came_of (at n).walker (at (suc n)).walker ≢ Turns.Waiting
  no_wait n walks waits = (walks n (omega arith)).1 found.0 (found.1, (some, other))
    where
      small : (at n).walker.id < 0xff
      small = (stands n).sound.fair.contest.first_id

      found : HasLesser (at n).walker.id (lock_next (at n))
      found = (step_waits (at n).walker (at n).registers small
          (stands n).sound.fair.first.led).0 waits

      some : found.0 ≢ 0xffff
      some free = omega (arith, free, found.2, small)

      other : found.0 ≢ (at n).walker.id
      other same = omega (arith, same, found.2)

  not_done : (n : ℕ) → WalksFor state (suc (suc n))
      → came_of (at n).walker (at (suc n)).walker ≢ Turns.Done
  not_done n walks done =
      (walks (suc n) (omega arith)).0
      (done_stage (at n).walker (at (suc n)).walker (at (suc n)).walker.stage done)

  not_lost : (n : ℕ) → WalksFor state (suc n)
      → came_of (at n).walker (at (suc n)).walker ≢ Turns.Lost
  not_lost n walks lost =
      subst HoldsOn
      (lost_stage (at n).walker (at (suc n)).walker (at (suc n)).walker.stage lost)
      (holds_on state begins (suc n) walks)

  -- each access takes one of what is left
  counted : (n : ℕ) → WalksFor state (suc n) → left n + n ≤ left 0
  counted zero walks = omega arith
  counted (suc n) walks =
      let earlier : WalksFor state (suc n) = λ m less. walks m (omega (arith, less)) in
      let before = counted n earlier in
      let one = own_step state.registers (at n).walker (idler state) (at n).registers
      (stands n).sound.fair in
      let going = goes (came_of (at n).walker (at (suc n)).walker) (no_wait n earlier)
      (not_done n walks) (not_lost n earlier) in
      omega (arith, before, one, going)

  first_left : left 0 ≤ 27784
  first_left = left_at_most (beside state (idler state)) [] A (both_begun state begins)

pub alone_ends : AloneEnds
alone_ends state zero begins walks = omega arith
alone_ends state (suc n) begins walks =
    let all = counted state begins n walks in
    let most = first_left state begins in
    omega (arith, all, most)
