use Rattle.link_machine.proofs.Machine.{pump_keeps, told_keeps, delivery_keeps, edited_keeps, fired_keeps}
use Rattle.link_machine.proofs.laws.calls_keep_it.Goals as goal

pub returns : goal.returns
returns c = record {
  pump = pump_keeps;
  tell = told_keeps;
  deliver = delivery_keeps;
  edit = edited_keeps;
  time_out = fired_keeps;
}
