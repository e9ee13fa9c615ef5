use Rattle.check_laws.proofs.Verdicts.{one_lawful, one_unlawful, never_both, never_refused}
use Rattle.check_laws.proofs.laws.verdicts_are_once.Goals as goal

pub returns-clause-lawful : goal.returns-clause-lawful
returns-clause-lawful c = one_lawful

pub returns-clause-unlawful : goal.returns-clause-unlawful
returns-clause-unlawful c = one_unlawful

pub returns-clause-apart : goal.returns-clause-apart
returns-clause-apart c = never_both

pub returns-clause-refused : goal.returns-clause-refused
returns-clause-refused c = never_refused
