use Rattle.fabric_map.proofs.Ways.{request_ends, answer_returns}
use Rattle.fabric_map.proofs.laws.a_host_asks_along_a_path.Goals as goal

pub returns : goal.returns
returns c = record { request = request_ends; answer = answer_returns }
