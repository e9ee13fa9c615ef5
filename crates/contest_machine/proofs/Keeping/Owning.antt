-- An access of a walker changes only what it may.
use Rattle.contest_machine.proofs.Prelude.{ℕ, inl, inr, ap, ◌∙◌, Side, A, B, AllRegisters, Walker, stepped, after_turns, IsOwnChange, AccessesChangeTheirOwn, walker_of}
use Rattle.contest_machine.proofs.Keeping.Frame.{Does, Nothing, Writes, Takes, Frees, IsTurn}
use Rattle.contest_machine.proofs.Keeping.Apart.{Holds, turns_hold, begun_holds, step_leaves}

own_change : (w after : Walker) (old new : AllRegisters) → IsTurn w after old new → (node : ℕ)
    → IsOwnChange w node (old node) (new node)
own_change w after old new turn node = go (turn.does node)
  where
    go : Does w after old new node → IsOwnChange w node (old node) (new node)
    go (Nothing same) = inl same
    go (Writes keeps same) = inr (inl (keeps, same))
    go (Takes free claimed whole) =
        inr (inr (inl (free, whole ∙ ap (λ i. record (old node) { lock = i }) turn.id)))
    go (Frees keeps free whole) = inr (inr (inr (keeps, whole)))

pub accesses_change_their_own : AccessesChangeTheirOwn
accesses_change_their_own both turns side node new_first new_second differ first_id second_id =
    go side
  where
    now : AllRegisters
    now = (after_turns both turns).registers

    holds : Holds both.registers (after_turns both turns)
    holds = turns_hold both.registers both turns
        (begun_holds both new_first new_second differ first_id second_id)

    go : (side : Side) → IsOwnChange (walker_of (after_turns both turns) side) node (now node)
        ((stepped (walker_of (after_turns both turns) side) now).registers node)
    go A = own_change (after_turns both turns).first _ now _
        (step_leaves (after_turns both turns).first now holds.first_id holds.first).0 node
    go B = own_change (after_turns both turns).second _ now _
        (step_leaves (after_turns both turns).second now holds.second_id holds.second).0 node
