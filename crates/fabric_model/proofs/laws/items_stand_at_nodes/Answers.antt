use Rattle.fabric_model.proofs.Nodes.{all_at_nodes, stand_along}
use Rattle.fabric_model.proofs.laws.items_stand_at_nodes.Goals as goal

pub returns : goal.returns
returns c = record { reached = all_at_nodes; kept = stand_along }
