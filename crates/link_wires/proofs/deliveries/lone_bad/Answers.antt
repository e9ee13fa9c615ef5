use Rattle.std.proofs.Common.{suc, None}
use Rattle.link_model.specs.declared.event.Event.TheVariants.{Bad}
use Rattle.link_wires.specs.Deliveries.{flow_of}
use Rattle.link_wires.proofs.Leading.{come_one}
use Rattle.link_wires.proofs.deliveries.lone_bad.Goals as goal

pub returns-clause-shows : goal.returns-clause-shows
returns-clause-shows c = λ acted at.
    come_one (flow_of c.args.port.now c.args.kept.now c.args.came.now.moves.items
    c.args.came.now.replies.items acted (suc at)) at (Bad c.args.cause) None
    c.act_bad.new.port c.args.kept.now c.act_bad.new.came.moves.items
    c.act_bad.new.came.replies.items (c.in_ok-act_bad.ensures.shows c.args.kept.now acted at)
