use Rattle.library_calls.specs.Checks.{CheckerTakes}
use Rattle.kigvarp_c.proofs.CallLaws.{calls_open}
use Rattle.kigvarp_c.proofs.checker.kigvarp_checker_take.Goals as goal

pub returns-clause-does : goal.returns-clause-does
returns-clause-does c =
    let found = c.in-Some.ensures.taken in
    calls_open _ (CheckerTakes c.args.line.now c.take-status.new.hit)
    c.args.checker.now.handle.checkers found.0 _ c.in-Some.opened.value c.deref_mut.result.now
    c.take-status.new.self c.take-status.result _ found.1 c.deref_mut.ensures.value
    c.call_number-2.ensures c.put_checker.ensures.open c.take-status.ensures
