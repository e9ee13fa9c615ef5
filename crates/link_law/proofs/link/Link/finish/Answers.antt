use Rattle.link_law.proofs.Prelude.{rules, link, B, SendsAll, BothTold, FromSending}
use Rattle.link_law.proofs.DoesLaws.{did_next, did_early}
use Rattle.link_law.proofs.SettleLaws.{SecondTells, quiet_of, told_at, both_told_at, sent_at, is_quiet, tells_follow, sends_follow, send_follows}
use Rattle.link_law.proofs.link.Link.finish.Given.{Over}
use Rattle.link_law.proofs.link.Link.finish.Goals.{In_ok-tell_if_due-2}
use Rattle.link_law.proofs.link.Link.finish.Goals as goal

pub returns-in_err-tell_if_due-clause-does : goal.returns-in_err-tell_if_due-clause-does
returns-in_err-tell_if_due-clause-does g c =
    let s = link c.args.self.now c.args.a.now c.args.b.now in
    let first = link c.tell_if_due.new.self c.tell_if_due.new.a c.tell_if_due.new.b in
    did_early g.met.W.Watch.is_watch c.args.watch.now c.tell_if_due.new.watch
    c.in_err-tell_if_due.field-0.0
    c.from_residual.result first (tells_follow s (quiet_of s c.requires)) (search rules)
    c.in_err-tell_if_due.ensures.does

pub tell_if_due-requires-2 : goal.tell_if_due-requires-2
tell_if_due-requires-2 g c =
    let s = link c.args.self.now c.args.a.now c.args.b.now in
    let first = link c.tell_if_due.new.self c.tell_if_due.new.a c.tell_if_due.new.b in
    (told_at s first c.args.watch.now c.tell_if_due.new.watch (quiet_of s c.requires)
    c.in_ok-tell_if_due.ensures.does).0.sound

pub returns-in_err-tell_if_due-2-clause-does : goal.returns-in_err-tell_if_due-2-clause-does
returns-in_err-tell_if_due-2-clause-does g c =
    let s = link c.args.self.now c.args.a.now c.args.b.now in
    let first = link c.tell_if_due.new.self c.tell_if_due.new.a c.tell_if_due.new.b in
    let second = link c.tell_if_due-2.new.self c.tell_if_due-2.new.a c.tell_if_due-2.new.b in
    let told =
    told_at s first c.args.watch.now c.tell_if_due.new.watch (quiet_of s c.requires)
    c.in_ok-tell_if_due.ensures.does in
    did_next g.met.W.Watch.is_watch SecondTells c.tell_if_due-2.new.watch
    c.from_residual-in_err-tell_if_due-2.result second c.in_ok-tell_if_due.ensures.does
    (did_early g.met.W.Watch.is_watch c.tell_if_due.new.watch c.tell_if_due-2.new.watch
    c.in_err-tell_if_due-2.field-0.0 c.from_residual-in_err-tell_if_due-2.result second
    (sends_follow first told) (search rules) c.in_err-tell_if_due-2.ensures.does)

-- both sides have told their free buffers
both_told : (g : Over) (c : In_ok-tell_if_due-2 g)
    → BothTold (link c.tell_if_due-2.new.self c.tell_if_due-2.new.a c.tell_if_due-2.new.b)
both_told g c =
    let s = link c.args.self.now c.args.a.now c.args.b.now in
    let first = link c.tell_if_due.new.self c.tell_if_due.new.a c.tell_if_due.new.b in
    let second = link c.tell_if_due-2.new.self c.tell_if_due-2.new.a c.tell_if_due-2.new.b in
    both_told_at first second c.tell_if_due.new.watch c.tell_if_due-2.new.watch
    (told_at s first c.args.watch.now c.tell_if_due.new.watch (quiet_of s c.requires)
    c.in_ok-tell_if_due.ensures.does) c.in_ok-tell_if_due-2.ensures.does

pub send_all-requires : goal.send_all-requires
send_all-requires g c =
    is_quiet (link c.tell_if_due-2.new.self c.tell_if_due-2.new.a c.tell_if_due-2.new.b)
    (both_told g (goal.at.send_all-requires g c).In_ok-tell_if_due-2).quiet

pub returns-in_err-send_all-clause-does : goal.returns-in_err-send_all-clause-does
returns-in_err-send_all-clause-does g c =
    let at = goal.at.returns-in_err-send_all-clause-does g c in
    let second = link c.tell_if_due-2.new.self c.tell_if_due-2.new.a c.tell_if_due-2.new.b in
    let sent = link c.send_all.new.self c.send_all.new.a c.send_all.new.b in
    did_next g.met.W.Watch.is_watch SecondTells c.send_all.new.watch
    c.from_residual-in_err-send_all.result
    sent c.in_ok-tell_if_due.ensures.does
    (did_next g.met.W.Watch.is_watch FromSending c.send_all.new.watch
    c.from_residual-in_err-send_all.result
    sent c.in_ok-tell_if_due-2.ensures.does
    (did_early g.met.W.Watch.is_watch c.tell_if_due-2.new.watch c.send_all.new.watch
    c.in_err-send_all.field-0.0 c.from_residual-in_err-send_all.result sent
    (send_follows second (both_told g at.In_ok-tell_if_due-2)) (search rules)
    c.in_err-send_all.ensures.does))

pub send_all-requires-2 : goal.send_all-requires-2
send_all-requires-2 g c =
    let second = link c.tell_if_due-2.new.self c.tell_if_due-2.new.a c.tell_if_due-2.new.b in
    let sent = link c.send_all.new.self c.send_all.new.a c.send_all.new.b in
    is_quiet sent (sent_at second sent c.tell_if_due-2.new.watch c.send_all.new.watch
    (both_told g (goal.at.send_all-requires-2 g c).In_ok-tell_if_due-2)
    c.in_ok-send_all.ensures.does).0.quiet

pub returns-clause-does : goal.returns-clause-does
returns-clause-does g c =
    let last = link c.send_all-2.new.self c.send_all-2.new.a c.send_all-2.new.b in
    did_next g.met.W.Watch.is_watch SecondTells c.send_all-2.new.watch c.send_all-2.result last
    c.in_ok-tell_if_due.ensures.does
    (did_next g.met.W.Watch.is_watch FromSending c.send_all-2.new.watch c.send_all-2.result last
    c.in_ok-tell_if_due-2.ensures.does
    (did_next g.met.W.Watch.is_watch (SendsAll B) c.send_all-2.new.watch c.send_all-2.result last
    c.in_ok-send_all.ensures.does c.send_all-2.ensures.does))
