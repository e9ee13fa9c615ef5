use Rattle.std.proofs.Common.{◌≡◌, ◌≤◌, ◌-◌, List, [], length, drop}
use Rattle.link_model.specs.declared.event.Event.{Event}
use Rattle.link_wires.specs.Deliveries.{flows, flow_of}
use Rattle.link_wires.proofs.deliveries.lead.Given as goal

-- what the characters that are left do, behind those before them, is what all of them do
abbrev pub invariant-loop-taken : goal.invariant-loop-taken
invariant-loop-taken l = record {
  within : l.taken ≤ length l.chars;
  so_far : (acted : List Event)
      × (flows (drop l.taken l.chars)
      (flow_of l.port l.kept l.came.moves.items l.came.replies.items acted l.taken)
      ≡ flows l.chars (flow_of l.initial.port l.initial.kept l.initial.came.moves.items
      l.initial.came.replies.items [] 0));
}

abbrev pub decreases-loop-taken : goal.decreases-loop-taken
decreases-loop-taken l = length l.chars - l.taken
