use Rattle.link_law.proofs.Prelude.{sym, ap, ◌∙◌, PortState, link, TakesTurn, is_retry_stopped, of_end}
use Rattle.link_law.proofs.DoesLaws.{comes_none, did_where}
use Rattle.link_law.proofs.link.Link.restart.Goals as goal

pub returns-then-not-stands_back-clause-does : goal.returns-then-not-stands_back-clause-does
returns-then-not-stands_back-clause-does g c =
    let s = link c.args.self.now c.args.a.now c.args.b.now in
    let stays =
    ap (λ (p : PortState). is_retry_stopped p.output) (sym (c.near.ensures c.args.self.now))
    ∙ sym c.stands_back.ensures
    ∙ c.if-not-stands_back.true in
    comes_none g.W.Watch.grew g.W.Watch.cut g.met.W.Watch.is_watch
    (of_end c.args.side (λ link. is_retry_stopped link.a.output)) (TakesTurn c.args.side) s
    c.args.watch.now stays

pub returns-clause-does : goal.returns-clause-does
returns-clause-does g c =
    let s = link c.args.self.now c.args.a.now c.args.b.now in
    let next = link c.take_turn.new.self c.take_turn.new.a c.take_turn.new.b in
    let owed =
    ap (λ (p : PortState). is_retry_stopped p.output) (sym (c.near.ensures c.args.self.now))
    ∙ sym c.stands_back.ensures
    ∙ c.if-not-stands_back.false in
    did_where g.W.Watch.grew g.W.Watch.cut
    (of_end c.args.side (λ link. is_retry_stopped link.a.output)) (TakesTurn c.args.side) s
    c.args.watch.now c.take_turn.new.watch c.take_turn.result next owed c.take_turn.ensures.does
