use Rattle.link_law.proofs.Prelude.{refl, sym, ap, ◌∙◌, rules, PortState, is_ready, link, is_retry_stopped, Sending}
use Rattle.link_law.proofs.SendLaws.{quiet_first, sent_none, sent_on, sent_over, sent_ends, last_did, sound_round, all_comes, all_did}
use Rattle.link_law.proofs.DoesLaws.{did_end}
use Rattle.link_law.proofs.link.Link.send_all.Goals as goal

pub loop-side-init : goal.loop-side-init
loop-side-init g c =
    let s = link c.args.self.now c.args.a.now c.args.b.now in (
      sent_none {cut = g.W.Watch.cut} g.met.W.Watch.is_watch c.args.side s c.args.watch.now
          (quiet_first c.args.side
          s c.requires),
      refl,
      refl,
    )

pub take_turn-requires : goal.take_turn-requires
take_turn-requires g c = c.loop-side.invariant.0.quiet.sound

pub returns-in_err-take_turn-clause-does : goal.returns-in_err-take_turn-clause-does
returns-in_err-take_turn-clause-does g c =
    let s = link c.args.self.now c.args.a.now c.args.b.now in
    let here = link c.loop-side.self c.loop-side.a c.loop-side.b in
    let next = link c.take_turn.new.self c.take_turn.new.a c.take_turn.new.b in
    let end = c.in_err-take_turn.field-0.0 in
    let busy =
    ap (λ (p : PortState). is_ready p) (sym (c.near.ensures c.loop-side.self))
    ∙ sym c.is_ready.ensures
    ∙ c.loop-side-test.true in
    all_did g.W.Watch.grew g.W.Watch.cut c.args.side s c.args.watch.now c.take_turn.new.watch
    c.from_residual.result next (quiet_first c.args.side s c.requires)
    (did_end g.W.Watch.grew g.W.Watch.cut (Sending c.args.side) s c.args.watch.now
    c.take_turn.new.watch end c.from_residual.result next (search rules)
    (sent_ends g.W.Watch.grew g.W.Watch.cut g.met.W.Watch.is_watch c.args.side s here
    c.args.watch.now
    c.loop-side.watch c.take_turn.new.watch end busy c.loop-side.invariant.0
    c.in_err-take_turn.ensures.does))

pub take_turn-requires-then-stands_back : goal.take_turn-requires-then-stands_back
take_turn-requires-then-stands_back g c =
    let here = link c.loop-side.self c.loop-side.a c.loop-side.b in
    let next = link c.take_turn.new.self c.take_turn.new.a c.take_turn.new.b in
    sound_round c.args.side here next c.loop-side.watch c.take_turn.new.watch
    c.loop-side.invariant.0.quiet (ap (λ (p : PortState). is_ready p) (sym (c.near.ensures
    c.loop-side.self)) ∙ sym c.is_ready.ensures ∙ c.loop-side-test.true)
    c.in_ok-take_turn.ensures.does

pub returns-then-stands_back-clause-does : goal.returns-then-stands_back-clause-does
returns-then-stands_back-clause-does g c =
    let s = link c.args.self.now c.args.a.now c.args.b.now in
    let here = link c.loop-side.self c.loop-side.a c.loop-side.b in
    let next = link c.take_turn.new.self c.take_turn.new.a c.take_turn.new.b in
    let last =
    link c.take_turn-then-stands_back.new.self c.take_turn-then-stands_back.new.a
    c.take_turn-then-stands_back.new.b in
    let busy =
    ap (λ (p : PortState). is_ready p) (sym (c.near.ensures c.loop-side.self))
    ∙ sym c.is_ready.ensures
    ∙ c.loop-side-test.true in
    let leaves =
    ap (λ (p : PortState). is_retry_stopped p.output)
    (sym (c.near-in-loop-side.ensures c.take_turn.new.self))
    ∙ sym c.stands_back.ensures
    ∙ c.if-stands_back.true in
    all_did g.W.Watch.grew g.W.Watch.cut c.args.side s c.args.watch.now
    c.take_turn-then-stands_back.new.watch c.take_turn-then-stands_back.result last
    (quiet_first c.args.side s c.requires)
    (last_did g.W.Watch.grew g.W.Watch.cut g.met.W.Watch.is_watch c.args.side s here next
    c.args.watch.now
    c.loop-side.watch c.take_turn.new.watch c.take_turn-then-stands_back.new.watch
    c.take_turn-then-stands_back.result last busy leaves c.loop-side.invariant.0
    c.in_ok-take_turn.ensures.does c.take_turn-then-stands_back.ensures.does)

pub loop-side-smaller : goal.loop-side-smaller
loop-side-smaller g c =
    let s = link c.args.self.now c.args.a.now c.args.b.now in
    let here = link c.loop-side.self c.loop-side.a c.loop-side.b in
    let next = link c.take_turn.new.self c.take_turn.new.a c.take_turn.new.b in
    (sent_on {cut = g.W.Watch.cut} g.met.W.Watch.is_watch c.args.side s here next c.args.watch.now
    c.loop-side.watch c.take_turn.new.watch (ap (λ (p : PortState). is_ready p)
    (sym (c.near.ensures c.loop-side.self)) ∙ sym c.is_ready.ensures ∙ c.loop-side-test.true)
    (ap (λ (p :
    PortState). is_retry_stopped p.output) (sym (c.near-in-loop-side.ensures
    c.take_turn.new.self)) ∙ sym c.stands_back.ensures ∙ c.if-stands_back.false)
    c.loop-side.invariant.0 c.in_ok-take_turn.ensures.does).1

pub loop-side-preserved : goal.loop-side-preserved
loop-side-preserved g c =
    let s = link c.args.self.now c.args.a.now c.args.b.now in
    let here = link c.loop-side.self c.loop-side.a c.loop-side.b in
    let next = link c.take_turn.new.self c.take_turn.new.a c.take_turn.new.b in (
      (sent_on {cut = g.W.Watch.cut} g.met.W.Watch.is_watch c.args.side s here next c.args.watch.now
          c.loop-side.watch c.take_turn.new.watch
          (ap (λ (p : PortState). is_ready p) (sym (c.near.ensures
          c.loop-side.self)) ∙ sym c.is_ready.ensures ∙ c.loop-side-test.true) (ap (λ (p :
          PortState). is_retry_stopped p.output) (sym (c.near-in-loop-side.ensures
          c.take_turn.new.self)) ∙ sym c.stands_back.ensures ∙ c.if-stands_back.false)
          c.loop-side.invariant.0 c.in_ok-take_turn.ensures.does).0,
      c.in_ok-take_turn.ensures.counts.1 (λ failed. cc) ∙ c.loop-side.invariant.1,
      refl,
    )

pub returns-clause-does : goal.returns-clause-does
returns-clause-does g c =
    let s = link c.args.self.now c.args.a.now c.args.b.now in
    let here = link c.loop-side.self c.loop-side.a c.loop-side.b in
    all_comes c.args.side s here c.args.watch.now c.loop-side.watch (quiet_first c.args.side s
    c.requires) (sent_over {cut = g.W.Watch.cut} g.met.W.Watch.is_watch c.args.side s here
    c.args.watch.now
    c.loop-side.watch (ap (λ (p : PortState). is_ready p)
    (sym (c.near.ensures c.loop-side.self)) ∙ sym c.is_ready.ensures ∙ c.loop-side-test.false)
    c.loop-side.invariant.0)
