use Rattle.std.proofs.Common.{suc, None, refl}
use Rattle.link_model.specs.declared.event.Event.TheVariants.{Ctl, Bad}
use Rattle.link_wires.specs.Deliveries.{flow_of}
use Rattle.link_wires.proofs.Leading.{come_two}
use Rattle.link_wires.proofs.deliveries.bad_and_symbol.Goals as goal

pub returns-clause-shows : goal.returns-clause-shows
returns-clause-shows c = λ acted at.
    come_two (flow_of c.args.port.now c.args.kept.now c.args.came.now.moves.items
    c.args.came.now.replies.items acted (suc at)) at (Bad c.args.cause) (Ctl c.args.symbol)
    None c.in_ok-found.found c.act_bad.new.port c.act_symbol.new.port
    c.args.kept.now c.act_symbol.new.kept c.act_bad.new.came.moves.items
    c.act_symbol.new.came.moves.items c.act_bad.new.came.replies.items
    c.act_symbol.new.came.replies.items refl
    (c.in_ok-act_bad.ensures.shows c.args.kept.now acted at)
    (λ more. c.in_ok-found.ensures.shows more at)
