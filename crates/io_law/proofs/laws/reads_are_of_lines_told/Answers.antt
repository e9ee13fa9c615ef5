use Rattle.io_law.proofs.ReadLaws.{reads_told}
use Rattle.io_law.proofs.laws.reads_are_of_lines_told.Goals as goal

pub returns : goal.returns
returns c = reads_told
