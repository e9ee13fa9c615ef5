use Rattle.std.proofs.Common.{◌≡◌, ◌-◌, suc, arith}
use Rattle.fabric_ports.proofs.OutsidePorts.{turning_begins, turning_more, turning_stops, turning_done}
use Rattle.fabric_ports.proofs.outside.take_turns.Goals as goal

pub loop-left-init : goal.loop-left-init
loop-left-init g c = turning_begins _ _ _ _

pub loop-left-preserved : goal.loop-left-preserved
loop-left-preserved g c =
    let left = c.loop-left.left in
    let one : left ≡ suc (left - 1) = omega arith in
    turning_more c.loop-left.end (left - 1) c.loop-left.invariant one
    (c.take_turn.ensures.some c.if-not-take_turn.false) c.take_turn.ensures.state
    c.take_turn.ensures.told

pub returns-then-not-take_turn-clause-state : goal.returns-then-not-take_turn-clause-state
returns-then-not-take_turn-clause-state g c =
    let left = c.loop-left.left in
    let one : left ≡ suc (left - 1) = omega arith in
    (turning_stops c.loop-left.end (left - 1) c.loop-left.invariant one
    (c.take_turn.ensures.none c.if-not-take_turn.true) c.take_turn.ensures.state
    c.take_turn.ensures.told).state

pub returns-then-not-take_turn-clause-told : goal.returns-then-not-take_turn-clause-told
returns-then-not-take_turn-clause-told g c =
    let left = c.loop-left.left in
    let one : left ≡ suc (left - 1) = omega arith in
    (turning_stops c.loop-left.end (left - 1) c.loop-left.invariant one
    (c.take_turn.ensures.none c.if-not-take_turn.true) c.take_turn.ensures.state
    c.take_turn.ensures.told).told

pub returns-clause-state : goal.returns-clause-state
returns-clause-state g c =
    let none : c.loop-left.left ≡ 0 = omega arith in
    (turning_done c.loop-left.invariant none).state

pub returns-clause-told : goal.returns-clause-told
returns-clause-told g c =
    let none : c.loop-left.left ≡ 0 = omega arith in
    (turning_done c.loop-left.invariant none).told
