use Rattle.fabric_trace.specs.Fold.{says}
use Rattle.trace_check.proofs.LackLaws.{all_by_none}
use Rattle.trace_check.proofs.sending.has_all.Goals as goal

pub returns : goal.returns
returns c = λ net p is.
    all_by_none net p (says c.args.chars.now) c.lacked.result c.is_none.result c.is_none.ensures
    (c.lacked.ensures.lacked net p is)
