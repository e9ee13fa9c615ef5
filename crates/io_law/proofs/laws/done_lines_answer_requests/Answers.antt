use Rattle.io_law.proofs.Answering.{dones_answer}
use Rattle.io_law.proofs.laws.done_lines_answer_requests.Goals as goal

pub returns : goal.returns
returns c = dones_answer
