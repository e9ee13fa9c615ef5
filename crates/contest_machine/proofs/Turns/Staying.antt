-- What no turn changes of a walker.
use Rattle.contest_machine.proofs.Prelude.{◌≡◌, ℕ, List, [], ◌∷◌, refl, ◌∙◌, Topology, AllRegisters, Side, A, B, Walker, State, stepped, walker_turned, Both, turn_of, after_turns, WalkersStay, walker_of, state_of}
use Rattle.contest_machine.proofs.Keeping.Apart.{turned_by}
use Rattle.contest_machine.proofs.Turns.Lasting.{step_lasts}

module _ (view : Topology) (id : ℕ) where
  abbrev IsOf : State → Type 0
  IsOf state = (state.walker.view ≡ view) × (state.walker.id ≡ id)

  step_of : (w : Walker) (old : AllRegisters) → IsOf (state_of w old) → IsOf (stepped w old)
  step_of w old is = ((step_lasts w old).view ∙ is.0, (step_lasts w old).id ∙ is.1)

  turned_of : (w : Walker) (old : AllRegisters) → IsOf (state_of w old)
      → IsOf (walker_turned w old)
  turned_of w old is = turned_by IsOf step_of w old is is

  abbrev IsSide : Both → Side → Type 0
  IsSide both side = ((walker_of both side).view ≡ view) × ((walker_of both side).id ≡ id)

  turn_is : (both : Both) (side turn : Side) → IsSide both side → IsSide (turn_of both turn) side
  turn_is both A A is = turned_of both.first both.registers is
  turn_is both A B is = is
  turn_is both B A is = is
  turn_is both B B is = turned_of both.second both.registers is

  turns_are : (both : Both) (side : Side) (turns : List Side) → IsSide both side
      → IsSide (after_turns both turns) side
  turns_are both side [] is = is
  turns_are both side (turn ∷ turns) is =
      turns_are (turn_of both turn) side turns (turn_is both side turn is)

pub walkers_stay : WalkersStay
walkers_stay both turns side =
    turns_are (walker_of both side).view (walker_of both side).id both side turns (refl, refl)
