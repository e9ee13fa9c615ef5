use Rattle.fabric_map.proofs.Endpoints.{one_endpoint}
use Rattle.fabric_map.proofs.laws.an_id_has_one_endpoint.Goals as goal

pub returns : goal.returns
returns c =
    (λ topology registers id node other at one two. one_endpoint topology registers id node other
    one two)
