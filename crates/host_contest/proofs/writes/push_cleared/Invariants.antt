use Rattle.host_contest.proofs.Prelude.{◌≡◌, ◌++◌, cleared_below}
use Rattle.host_contest.proofs.writes.push_cleared.Given as goal

abbrev pub invariant-loop-id : goal.invariant-loop-id
invariant-loop-id l = l.todo ≡ l.fn.todo ++ cleared_below l.path l.host_id l.id
