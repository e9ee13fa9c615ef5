use Rattle.io_law.proofs.Serving.{replies_answer}
use Rattle.io_law.proofs.laws.replies_answer_what_was_served.Goals as goal

pub returns : goal.returns
returns c = replies_answer
