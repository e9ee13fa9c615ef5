use Rattle.maint_registers.proofs.WriteLaws.{shows_written, shows_both}
use Rattle.maint_registers.proofs.laws.write_changes_its_bits.Goals as goal

pub returns : goal.returns
returns c = record { written = shows_written; both = shows_both }
