use Rattle.link_law.proofs.Prelude.{rules, link, Settles, FromTelling, FromRecovering, CallDid}
use Rattle.link_law.proofs.DoesLaws.{did_next, did_early}
use Rattle.link_law.proofs.SettleLaws.{SecondRecovers, drained_at, first_at, second_at, is_quiet, did_comes, did_settles, did_ends, first_follows, second_follows, finish_follows}
use Rattle.link_law.proofs.link.Link.settle.Given.{Over}
use Rattle.link_law.proofs.link.Link.settle.Goals as goal

pub returns-in_err-drain-clause-ended : goal.returns-in_err-drain-clause-ended
returns-in_err-drain-clause-ended g c =
    let s = link c.args.self.now c.args.a.now c.args.b.now in
    let drained = link c.drain.new.self c.drain.new.a c.drain.new.b in
    did_ends g.W.Watch.grew g.W.Watch.cut s c.args.watch.now c.drain.new.watch
    c.from_residual.result drained
    (did_early g.met.W.Watch.is_watch c.args.watch.now c.drain.new.watch c.in_err-drain.field-0.0
    c.from_residual.result drained (first_follows s c.requires) (search rules)
    c.in_err-drain.ensures.does)

pub returns-in_err-recover-clause-ended : goal.returns-in_err-recover-clause-ended
returns-in_err-recover-clause-ended g c =
    let s = link c.args.self.now c.args.a.now c.args.b.now in
    let drained = link c.drain.new.self c.drain.new.a c.drain.new.b in
    let first = link c.recover.new.self c.recover.new.a c.recover.new.b in
    did_ends g.W.Watch.grew g.W.Watch.cut s c.args.watch.now c.recover.new.watch
    c.from_residual-in_err-recover.result first
    (did_next g.met.W.Watch.is_watch FromRecovering c.recover.new.watch
    c.from_residual-in_err-recover.result first c.in_ok-drain.ensures.does
    (did_early g.met.W.Watch.is_watch c.drain.new.watch c.recover.new.watch
    c.in_err-recover.field-0.0
    c.from_residual-in_err-recover.result first (second_follows drained
    (drained_at s drained c.args.watch.now c.drain.new.watch c.requires c.in_ok-drain.ensures.does))
    (search rules)
    c.in_err-recover.ensures.does))

pub returns-in_err-recover-2-clause-ended : goal.returns-in_err-recover-2-clause-ended
returns-in_err-recover-2-clause-ended g c =
    let s = link c.args.self.now c.args.a.now c.args.b.now in
    let drained = link c.drain.new.self c.drain.new.a c.drain.new.b in
    let first = link c.recover.new.self c.recover.new.a c.recover.new.b in
    let second = link c.recover-2.new.self c.recover-2.new.a c.recover-2.new.b in
    did_ends g.W.Watch.grew g.W.Watch.cut s c.args.watch.now c.recover-2.new.watch
    c.from_residual-in_err-recover-2.result second
    (did_next g.met.W.Watch.is_watch FromRecovering c.recover-2.new.watch
    c.from_residual-in_err-recover-2.result second c.in_ok-drain.ensures.does
    (did_next g.met.W.Watch.is_watch SecondRecovers c.recover-2.new.watch
    c.from_residual-in_err-recover-2.result second c.in_ok-recover.ensures.does
    (did_early g.met.W.Watch.is_watch c.recover.new.watch c.recover-2.new.watch
    c.in_err-recover-2.field-0.0
    c.from_residual-in_err-recover-2.result second (finish_follows first
    (first_at drained first c.drain.new.watch c.recover.new.watch
    (drained_at s drained c.args.watch.now c.drain.new.watch c.requires c.in_ok-drain.ensures.does)
    c.in_ok-recover.ensures.does)) (search rules)
    c.in_err-recover-2.ensures.does)))

pub recover-requires : goal.recover-requires
recover-requires g c =
    let s = link c.args.self.now c.args.a.now c.args.b.now in
    let drained = link c.drain.new.self c.drain.new.a c.drain.new.b in
    (drained_at s drained c.args.watch.now c.drain.new.watch c.requires
    c.in_ok-drain.ensures.does).0

pub recover-requires-2 : goal.recover-requires-2
recover-requires-2 g c =
    let s = link c.args.self.now c.args.a.now c.args.b.now in
    let drained = link c.drain.new.self c.drain.new.a c.drain.new.b in
    let first = link c.recover.new.self c.recover.new.a c.recover.new.b in
    (first_at drained first c.drain.new.watch c.recover.new.watch (drained_at s drained
    c.args.watch.now c.drain.new.watch c.requires c.in_ok-drain.ensures.does)
    c.in_ok-recover.ensures.does).0.0

pub finish-requires : goal.finish-requires
finish-requires g c =
    let s = link c.args.self.now c.args.a.now c.args.b.now in
    let drained = link c.drain.new.self c.drain.new.a c.drain.new.b in
    let first = link c.recover.new.self c.recover.new.a c.recover.new.b in
    let second = link c.recover-2.new.self c.recover-2.new.a c.recover-2.new.b in
    is_quiet second (second_at first second c.recover.new.watch c.recover-2.new.watch (first_at
    drained first c.drain.new.watch c.recover.new.watch (drained_at s drained c.args.watch.now
    c.drain.new.watch c.requires c.in_ok-drain.ensures.does) c.in_ok-recover.ensures.does)
    c.in_ok-recover-2.ensures.does)

settles : (g : Over) (c : goal.After-finish g)
    → CallDid g.W.Watch.grew g.W.Watch.cut Settles (link c.args.self.now c.args.a.now c.args.b.now)
    c.args.watch.now c.finish.result (link c.finish.new.self c.finish.new.a c.finish.new.b)
    c.finish.new.watch
settles g c =
    let last = link c.finish.new.self c.finish.new.a c.finish.new.b in
    did_next g.met.W.Watch.is_watch FromRecovering c.finish.new.watch c.finish.result last
    c.in_ok-drain.ensures.does
    (did_next g.met.W.Watch.is_watch SecondRecovers c.finish.new.watch c.finish.result last
    c.in_ok-recover.ensures.does
    (did_next g.met.W.Watch.is_watch FromTelling c.finish.new.watch c.finish.result last
    c.in_ok-recover-2.ensures.does c.finish.ensures.does))

pub returns-clause-done : goal.returns-clause-done
returns-clause-done g c =
    let s = link c.args.self.now c.args.a.now c.args.b.now in
    let last = link c.finish.new.self c.finish.new.a c.finish.new.b in
    did_comes g.W.Watch.grew g.W.Watch.cut s c.args.watch.now c.finish.new.watch c.finish.result
    last (settles g c)

pub returns-clause-rest : goal.returns-clause-rest
returns-clause-rest g c =
    let s = link c.args.self.now c.args.a.now c.args.b.now in
    let last = link c.finish.new.self c.finish.new.a c.finish.new.b in
    did_settles g.W.Watch.grew g.W.Watch.cut s c.args.watch.now c.finish.new.watch c.finish.result
    last c.requires (settles g c)

pub returns-clause-ended : goal.returns-clause-ended
returns-clause-ended g c =
    let s = link c.args.self.now c.args.a.now c.args.b.now in
    let last = link c.finish.new.self c.finish.new.a c.finish.new.b in
    did_ends g.W.Watch.grew g.W.Watch.cut s c.args.watch.now c.finish.new.watch c.finish.result
    last (settles g c)
