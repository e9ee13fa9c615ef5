use Rattle.io_law.proofs.Keeping.{memories_told}
use Rattle.io_law.proofs.laws.memories_are_as_told.Goals as goal

pub returns : goal.returns
returns c = memories_told
