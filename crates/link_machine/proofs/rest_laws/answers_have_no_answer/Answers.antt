use Rattle.link_machine.proofs.Settling.Drains.{answers_are_silent}
use Rattle.link_machine.proofs.rest_laws.answers_have_no_answer.Goals as goal

pub returns : goal.returns
returns c = λ p q chars below few none. answers_are_silent p q chars (below, few) none
