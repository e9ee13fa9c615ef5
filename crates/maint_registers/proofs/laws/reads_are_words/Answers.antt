use Rattle.maint_registers.proofs.WithinLaws.{read_fits}
use Rattle.maint_registers.proofs.laws.reads_are_words.Goals as goal

pub returns : goal.returns
returns c = read_fits
