use Rattle.trace_check.proofs.SoFarLaws.{so_far}
use Rattle.trace_check.proofs.laws.taken_lines_are_lawful_so_far.Goals as goal

pub returns : goal.returns
returns c = so_far
