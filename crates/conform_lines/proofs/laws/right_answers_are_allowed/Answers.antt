use Rattle.conform_lines.proofs.JudgeLaws.{allowed_itself}
use Rattle.conform_lines.proofs.laws.right_answers_are_allowed.Goals as goal

pub returns : goal.returns
returns c = allowed_itself
