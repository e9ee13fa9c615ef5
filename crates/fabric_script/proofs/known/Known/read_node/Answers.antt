use Rattle.std.proofs.Common.{rules}
use Rattle.fabric_script.specs.Hits.{NodeIsBad, NodeIsUnknown}
use Rattle.fabric_script.proofs.known.Known.read_node.Goals as goal

pub returns-then-not-is_name : goal.returns-then-not-is_name
returns-then-not-is_name c = NodeIsBad (search rules)

pub returns-in-None : goal.returns-in-None
returns-in-None c = NodeIsUnknown (search rules) (search rules)
