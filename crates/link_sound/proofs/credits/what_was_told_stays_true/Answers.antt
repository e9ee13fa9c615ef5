use Rattle.link_sound.proofs.CreditHistory.{told_stays}
use Rattle.link_sound.proofs.CreditBuffers.{credit_is_there}
use Rattle.link_sound.proofs.credits.what_was_told_stays_true.Goals as goal

pub returns-clause-history : goal.returns-clause-history
returns-clause-history c = told_stays

pub returns-clause-credit : goal.returns-clause-credit
returns-clause-credit c = credit_is_there
