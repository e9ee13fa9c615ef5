use Rattle.std.proofs.Common.{◌≤◌, length, sym, ◌∙◌, refl, arith}
use Rattle.fabric_ports.proofs.GatherLaws.{without_list, with_list, drop_four}
use Rattle.fabric_ports.proofs.gathering.holds_packet.Goals as goal

pub loop-prio-init : goal.loop-prio-init
loop-prio-init c = (refl, λ less. absurd (omega (arith, less)))

pub returns-then-holds_at : goal.returns-then-holds_at
returns-then-holds_at c =
    sym (with_list c.args.port.now.received.lists c.loop-prio.prio
    (sym c.holds_at.ensures.held ∙ c.if-holds_at.true)) ∙ c.loop-prio.invariant.0

pub loop-prio-preserved : goal.loop-prio-preserved
loop-prio-preserved c = (
  without_list c.args.port.now.received.lists c.loop-prio.prio
      (sym c.holds_at.ensures.held ∙ c.if-holds_at.false) ∙ c.loop-prio.invariant.0,
  λ less. c.holds_at.ensures.lists,
)

pub returns : goal.returns
returns c =
    let test = c.loop-prio-test.false in
    let lists = c.loop-prio.invariant.1 (omega (arith, test)) in
    let four = lists.four in
    let few : length c.args.port.now.received.lists ≤ c.loop-prio.prio =
    omega (arith, test, four) in
    sym (drop_four c.args.port.now.received.lists c.loop-prio.prio few) ∙ c.loop-prio.invariant.0
