use Rattle.std.proofs.Common.{refl}
use Rattle.trace_check.proofs.StopLaws.{none_read}
use Rattle.trace_check.proofs.checker.Checker.new.Goals as goal

pub returns-clause-taken : goal.returns-clause-taken
returns-clause-taken c =
    let made = c.in_ok-reader.ensures in record {
      count = refl;
      taken = λ rest. rw (made.ended, made.steps) (none_read rest made.reached);
    }
