use Rattle.std.proofs.Common.{suc}
use Rattle.link_model.specs.declared.event.Event.TheVariants.{Ctl}
use Rattle.link_wires.specs.Deliveries.{flow_of}
use Rattle.link_wires.proofs.Leading.{come_one}
use Rattle.link_wires.proofs.deliveries.lone_symbol.Goals as goal

pub returns-clause-shows : goal.returns-clause-shows
returns-clause-shows c = λ acted at.
    come_one (flow_of c.args.port.now c.args.kept.now c.args.came.now.moves.items
    c.args.came.now.replies.items acted (suc at)) at (Ctl c.args.symbol) _ _ _ _ _
    (c.in_ok-found.ensures.shows acted at)
