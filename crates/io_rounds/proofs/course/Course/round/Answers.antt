use Rattle.std.proofs.Common.{◌≡◌, ◌<◌, suc, ◌++◌, length, ap, arith, rules, vec_len}
use Rattle.io_rounds.proofs.BeginLaws.{underway}
use Rattle.io_rounds.proofs.RoundLaws.{turns_from, round_begins, round_turn, round_ends, round_itself, turn_next}
use Rattle.io_rounds.proofs.StateLaws.{always_else}
use Rattle.io_rounds.proofs.course.Course.round.Goals as goal

pub loop-node-init : goal.loop-node-init
loop-node-init g c = round_begins c.in_ok-act.field-0 c.act.new.self
    (λ script s holds. c.in_ok-act.ensures script s.events s.trace s.stations holds)

pub turn_at-requires-clause-way : goal.turn_at-requires-clause-way
turn_at-requires-clause-way g c =
    let arrived = round_itself c.loop-node.node c.loop-node.output c.loop-node.self c.requires
    c.loop-node.invariant in
    underway arrived.at.holds

pub turn_at-requires-clause-within : goal.turn_at-requires-clause-within
turn_at-requires-clause-within g c =
    let way = c.requires in
    let arrived = round_itself c.loop-node.node c.loop-node.output c.loop-node.self way
    c.loop-node.invariant in
    let acted = c.in_ok-act.ensures way.script way.events way.trace way.stations way.holds in
    let same = ap length arrived.at.holds.switches in
    let first = ap length acted.holds.switches in
    let end = c.len-node-end.ensures in
    let test = c.loop-node-test.true in
    let counted : vec_len c.act.new.self.switches ≡ length c.act.new.self.switches.items =
    search rules in
    omega (arith, same, first, end, test, counted)

pub returns-in_err-turn_at-clause-ended : goal.returns-in_err-turn_at-clause-ended
returns-in_err-turn_at-clause-ended g c =
    let way = c.requires in
    let so_far = round_itself c.loop-node.node c.loop-node.output c.loop-node.self way
    c.loop-node.invariant in
    let acted = c.in_ok-act.ensures way.script way.events way.trace way.stations way.holds in
    let same = ap length so_far.at.holds.switches in
    let first_ones = ap length acted.holds.switches in
    let end = c.len-node-end.ensures in
    let test = c.loop-node-test.true in
    let counted : vec_len c.act.new.self.switches ≡ length c.act.new.self.switches.items =
    search rules in
    let within : c.loop-node.node < length c.loop-node.self.switches.items =
    omega (arith, same, first_ones, end, test, counted) in
    always_else c.from_residual-in_err-turn_at.result
    (λ script begun first s rest at is.
    let arrived = c.loop-node.invariant script begun first s rest at is in
    c.in_err-turn_at.ensures.ended script begun first arrived.state
    (turns_from script (suc c.loop-node.node) ++ rest) arrived.at
    (turn_next c.loop-node.node c.loop-node.self rest within arrived))

pub loop-node-preserved : goal.loop-node-preserved
loop-node-preserved g c =
    let way = c.requires in
    let arrived = round_itself c.loop-node.node c.loop-node.output c.loop-node.self way
    c.loop-node.invariant in
    let acted = c.in_ok-act.ensures way.script way.events way.trace way.stations way.holds in
    let same = ap length arrived.at.holds.switches in
    let first = ap length acted.holds.switches in
    let end = c.len-node-end.ensures in
    let test = c.loop-node-test.true in
    let counted : vec_len c.act.new.self.switches ≡ length c.act.new.self.switches.items =
    search rules in
    round_turn c.loop-node.node c.loop-node.output c.turn_at.new.output c.loop-node.self
    c.turn_at.new.self (omega (arith, same, first, end, test, counted)) c.loop-node.invariant
    (λ script begun first s rest at is.
    c.in_ok-turn_at.ensures.done script begun first s rest at is)

pub returns-clause-done : goal.returns-clause-done
returns-clause-done g c =
    let way = c.requires in
    let arrived = round_itself c.loop-node.node c.loop-node.output c.loop-node.self way
    c.loop-node.invariant in
    let acted = c.in_ok-act.ensures way.script way.events way.trace way.stations way.holds in
    let same = ap length arrived.at.holds.switches in
    let first = ap length acted.holds.switches in
    let end = c.len-node-end.ensures in
    let test = c.loop-node-test.false in
    let counted : vec_len c.act.new.self.switches ≡ length c.act.new.self.switches.items =
    search rules in
    round_ends c.loop-node.node c.loop-node.output c.loop-node.self
    (omega (arith, same, first, end, test, counted)) c.loop-node.invariant
