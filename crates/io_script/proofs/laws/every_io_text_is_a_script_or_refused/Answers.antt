use Rattle.io_script.proofs.IoEach.{each_is_judged}
use Rattle.io_script.proofs.laws.every_io_text_is_a_script_or_refused.Goals as goal

pub returns : goal.returns
returns c = each_is_judged
