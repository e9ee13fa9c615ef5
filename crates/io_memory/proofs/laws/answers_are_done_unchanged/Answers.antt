use Rattle.io_memory.proofs.AnswerLaws.{answers_done}
use Rattle.io_memory.proofs.laws.answers_are_done_unchanged.Goals as goal

pub returns : goal.returns
returns c = answers_done
