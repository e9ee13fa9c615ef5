use Rattle.std.proofs.Common.{suc, None, subst, sym}
use Rattle.link_model.specs.Reading.{placed}
use Rattle.link_port.specs.declared.completed.Completed.{Completed}
use Rattle.link_port.specs.Prelude.{completed_events}
use Rattle.link_wires.specs.Deliveries.{come, flow_of, Shows}
use Rattle.link_wires.proofs.Leading.{come_nothing}
use Rattle.link_wires.proofs.deliveries.act_all.Goals as goal

pub returns-in-Nothing-clause-shows : goal.returns-in-Nothing-clause-shows
returns-in-Nothing-clause-shows c = λ acted at.
    let port = c.args.port.now in
    let kept = c.args.kept.now in
    let moves = c.args.came.now.moves.items in
    let replies = c.args.came.now.replies.items in
    subst (λ (w : Completed). Shows (come (placed at (completed_events w c.args.came.now.packet))
    (flow_of port kept moves replies acted (suc at))) None (suc at) port kept moves replies)
    (sym c.in-Nothing.is)
    (come_nothing port kept moves replies acted (suc at))
