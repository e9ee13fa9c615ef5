use Rattle.port_lines.proofs.BurstLaws.{clocks_are, as_many_given}
use Rattle.port_lines.proofs.laws.clocks_give_whole_bursts.Goals as goal

pub returns-clause-many : goal.returns-clause-many
returns-clause-many c = as_many_given

pub returns-clause-whole : goal.returns-clause-whole
returns-clause-whole c = clocks_are
