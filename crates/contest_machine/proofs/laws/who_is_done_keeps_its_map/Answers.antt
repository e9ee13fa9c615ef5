use Rattle.contest_machine.proofs.Numbering.Whole.{done_keeps_its_map, one_is_done}
use Rattle.contest_machine.proofs.laws.who_is_done_keeps_its_map.Goals as goal

pub returns-clause-map : goal.returns-clause-map
returns-clause-map c = done_keeps_its_map

pub returns-clause-one : goal.returns-clause-one
returns-clause-one c = one_is_done
