use Rattle.trace_check.proofs.Agreeing.{agree_hit, agree_lawful}
use Rattle.trace_check.proofs.laws.a_checker_agrees.Goals as goal

pub returns-clause-lawful : goal.returns-clause-lawful
returns-clause-lawful c = λ bytes set_up texts steps parts.
    agree_lawful bytes set_up texts parts steps

pub returns-clause-unlawful : goal.returns-clause-unlawful
returns-clause-unlawful c = λ bytes set_up texts hit parts.
    agree_hit bytes set_up texts parts hit
