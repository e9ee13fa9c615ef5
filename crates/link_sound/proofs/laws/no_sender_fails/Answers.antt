use Rattle.link_sound.proofs.Promises.{not_failed, lent_is_outstanding, none_lent_at_retry}
use Rattle.link_sound.proofs.laws.no_sender_fails.Goals as goal

pub returns-clause-failed : goal.returns-clause-failed
returns-clause-failed c = not_failed

pub returns-clause-lent : goal.returns-clause-lent
returns-clause-lent c = lent_is_outstanding

pub returns-clause-retry : goal.returns-clause-retry
returns-clause-retry c = none_lent_at_retry
