use Rattle.link_law.proofs.Prelude.{◌≡◌, [], sym, ◌∙◌, subst, PortState, turn_sends, link, from_end}
use Rattle.link_law.proofs.IdleTurns.{idle_pumped, idle_chars}
use Rattle.link_law.proofs.wires.WirePair.turn.Goals as goal

pub returns-then-has_no_turn-clause-link : goal.returns-then-has_no_turn-clause-link
returns-then-has_no_turn-clause-link c =
    let s = link c.args.self.now c.args.a.now c.args.b.now in
    let none = subst (λ (port : PortState). (turn_sends port).sent ≡ [])
    (c.near.ensures c.args.self.now) (c.has_no_turn.ensures c.if-has_no_turn.true) in
    sym (idle_pumped c.args.from c.args.turns s none)

pub returns-then-has_no_turn-clause-sent : goal.returns-then-has_no_turn-clause-sent
returns-then-has_no_turn-clause-sent c =
    let port = (from_end c.args.from (link c.args.self.now c.args.a.now c.args.b.now)).a in
    let none = subst (λ (port : PortState). (turn_sends port).sent ≡ [])
    (c.near.ensures c.args.self.now) (c.has_no_turn.ensures c.if-has_no_turn.true) in
    c.clear.ensures.items ∙ sym (idle_chars c.args.turns port none)
