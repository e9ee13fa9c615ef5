use Rattle.conform_lines.proofs.JudgeLaws.{sends_same}
use Rattle.conform_lines.proofs.laws.allowed_answers_send_the_same.Goals as goal

pub returns : goal.returns
returns c = sends_same
