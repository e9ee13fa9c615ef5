use Rattle.link_machine.proofs.Machine.{pump_moves_none, told_moves_none, edit_moves_none, fire_moves_none}
use Rattle.link_machine.proofs.laws.nothing_else_moves.Goals as goal

pub returns : goal.returns
returns c = record {
  pump = pump_moves_none;
  tell = told_moves_none;
  edit = edit_moves_none;
  time_out = fire_moves_none;
}
