use Rattle.std.proofs.Common.{rules}
use Rattle.maint_packets.proofs.response.read_response.Goals.{then-is_with_data, else-is_with_data+then-is_without_data}
use Rattle.maint_packets.proofs.response.read_response.Goals as goal

pub returns : goal.returns
returns c = elim c.if-is_with_data.branch [
  | then-is_with_data w ↦ search rules
  | else-is_with_data+then-is_without_data w ↦ search rules
]
