use Rattle.link_law.proofs.Prelude.{rules, B, link, Empties}
use Rattle.link_law.proofs.DoesLaws.{did_next, did_early, empties_follow}
use Rattle.link_law.proofs.link.Link.round.Goals as goal

pub returns-in_err-empty-clause-does : goal.returns-in_err-empty-clause-does
returns-in_err-empty-clause-does g c =
    let s = link c.args.self.now c.args.a.now c.args.b.now in
    let first = link c.empty.new.self c.empty.new.a c.empty.new.b in
    did_early g.met.W.Watch.is_watch c.args.watch.now c.empty.new.watch c.in_err-empty.field-0.0
    c.from_residual.result first (empties_follow s) (search rules) c.in_err-empty.ensures.does

pub returns-clause-does : goal.returns-clause-does
returns-clause-does g c =
    let both = link c.empty-2.new.self c.empty-2.new.a c.empty-2.new.b in
    did_next g.met.W.Watch.is_watch (Empties B) c.empty-2.new.watch c.empty-2.result both
    c.in_ok-empty.ensures.does c.empty-2.ensures.does
