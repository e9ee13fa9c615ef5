use Rattle.fabric_trace.proofs.SetUps.Joins.{scripts_join}
use Rattle.fabric_trace.proofs.scripts.scripts_join_nodes.Goals as goal

pub returns : goal.returns
returns c = scripts_join
