use Rattle.trace_check.proofs.NetworkLaws.{if_ok_map}
use Rattle.trace_check.proofs.network.Network.add.Goals as goal

pub switch-requires-clause-least : goal.switch-requires-clause-least
switch-requires-clause-least c = (rw c.in-Switch.is at c.requires.may.may).0

pub switch-requires-clause-most : goal.switch-requires-clause-most
switch-requires-clause-most c = (rw c.in-Switch.is at c.requires.may.may).1

pub returns-in-Endpoint : goal.returns-in-Endpoint
returns-in-Endpoint c =
    if_ok_map c.add_node.result c.add_node.ensures (λ _ built net is may.
    rw c.in-Endpoint.is (rw c.endpoint.ensures at (built net is)))

pub returns-in-Switch : goal.returns-in-Switch
returns-in-Switch c =
    if_ok_map c.add_node-in-Switch.result c.add_node-in-Switch.ensures (λ _ built net is may.
    rw c.in-Switch.is (rw c.switch.ensures at (built net is)))
