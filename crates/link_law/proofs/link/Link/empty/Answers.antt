use Rattle.link_law.proofs.Prelude.{arith, rules, link, Empties}
use Rattle.link_law.proofs.DeliverLaws.{empties_none, empties_stop, empties_come, empties_end, delivery_comes, delivery_ends, wire_is}
use Rattle.link_law.proofs.DoesLaws.{did_end}
use Rattle.link_law.proofs.link.Link.empty.Goals as goal

pub returns-then-length-eq0-clause-does : goal.returns-then-length-eq0-clause-does
returns-then-length-eq0-clause-does g c =
    let s = link c.args.self.now c.args.a.now c.args.b.now in
    empties_none g.W.Watch.grew g.W.Watch.cut g.met.W.Watch.is_watch c.args.from s c.args.watch.now
    (let is =
    wire_is c.args.from c.args.self.now c.args.a.now c.args.b.now in omega arith)

pub returns-in_default-clause-does : goal.returns-in_default-clause-does
returns-in_default-clause-does g c =
    let s = link c.args.self.now c.args.a.now c.args.b.now in
    empties_stop g.W.Watch.grew g.W.Watch.cut g.met.W.Watch.is_watch c.args.from s c.args.watch.now
    (λ none. let is
    = wire_is c.args.from c.args.self.now c.args.a.now c.args.b.now in omega arith)

pub returns-in_err-deliver-clause-does : goal.returns-in_err-deliver-clause-does
returns-in_err-deliver-clause-does g c =
    let s = link c.args.self.now c.args.a.now c.args.b.now in
    let next = link c.deliver.new.self c.deliver.new.a c.deliver.new.b in
    let end = c.in_err-deliver.field-0.0 in
    let is = wire_is c.args.from c.args.self.now c.args.a.now c.args.b.now in
    did_end g.W.Watch.grew g.W.Watch.cut (Empties c.args.from) s c.args.watch.now
    c.deliver.new.watch end c.from_residual.result next (search rules)
    (empties_end g.W.Watch.grew g.W.Watch.cut c.args.from c.in-Ok.count s c.args.watch.now
    c.deliver.new.watch end (omega arith) (λ none. omega arith)
    (delivery_ends g.W.Watch.grew g.W.Watch.cut c.args.from c.in-Ok.count s c.args.watch.now
    c.deliver.new.watch end (omega arith) c.in_err-deliver.ensures.answer
    c.in_err-deliver.ensures.noted c.in_err-deliver.ensures.stopped))

pub returns-clause-does : goal.returns-clause-does
returns-clause-does g c =
    let s = link c.args.self.now c.args.a.now c.args.b.now in
    let next = link c.deliver.new.self c.deliver.new.a c.deliver.new.b in
    let is = wire_is c.args.from c.args.self.now c.args.a.now c.args.b.now in
    empties_come g.W.Watch.grew c.args.from c.in-Ok.count s next c.args.watch.now
    c.deliver.new.watch (omega arith) (λ none. omega arith)
    (delivery_comes g.W.Watch.grew c.args.from c.in-Ok.count s next c.args.watch.now
    c.deliver.new.watch c.in_ok-deliver.field-0 (omega arith) c.in_ok-deliver.ensures.answer
    c.in_ok-deliver.ensures.link c.in_ok-deliver.ensures.noted)
