use Rattle.library_calls.specs.Checks.{CheckerEndsBy}
use Rattle.kigvarp_c.proofs.CallLaws.{calls_open}
use Rattle.kigvarp_c.proofs.checker.kigvarp_checker_end.Goals as goal

pub returns-clause-does : goal.returns-clause-does
returns-clause-does c =
    let found = c.in-Some.ensures.taken in
    calls_open _ (CheckerEndsBy c.end-status.new.hit c.end-status.new.steps)
    c.args.checker.now.handle.checkers found.0 _ c.in-Some.opened.value c.deref_mut.result.now
    c.end-status.new.self c.end-status.result _ found.1 c.deref_mut.ensures.value
    c.call_number-2.ensures c.put_checker.ensures.open c.end-status.ensures
