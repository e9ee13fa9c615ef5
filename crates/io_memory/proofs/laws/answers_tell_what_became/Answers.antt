use Rattle.io_memory.proofs.ToldBack.{answers_tell_back, others_are_unanswered}
use Rattle.io_memory.proofs.laws.answers_tell_what_became.Goals as goal

pub returns-clause-told : goal.returns-clause-told
returns-clause-told c = answers_tell_back

pub returns-clause-others : goal.returns-clause-others
returns-clause-others c = others_are_unanswered
