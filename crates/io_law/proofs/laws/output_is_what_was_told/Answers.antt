use Rattle.io_law.proofs.Texts.{output_told}
use Rattle.io_law.proofs.laws.output_is_what_was_told.Goals as goal

pub returns : goal.returns
returns c = output_told
