use Rattle.link_machine.proofs.Machine.{delivery_walks, delivery_steps}
use Rattle.link_machine.proofs.laws.deliveries_hold_and_free_in_order.Goals as goal

pub returns : goal.returns
returns c = record { all = delivery_walks; some = delivery_steps }
