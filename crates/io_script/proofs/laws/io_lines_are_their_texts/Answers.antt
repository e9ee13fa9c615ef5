use Rattle.io_script.proofs.IoLineLaws.{io_text_is}
use Rattle.io_script.proofs.laws.io_lines_are_their_texts.Goals as goal

pub returns : goal.returns
returns c = io_text_is
