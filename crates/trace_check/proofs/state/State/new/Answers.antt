use Rattle.std.proofs.Common.{◌≡◌, ◌*◌, [], length, arith}
use Rattle.trace_check.specs.Running.{KeepsRun, new_run}
use Rattle.trace_check.specs.Starting.{nodes_of}
use Rattle.trace_check.proofs.NewState.{all_table, none_new, one_new}
use Rattle.trace_check.proofs.state.State.new.Goals as goal

pub loop-init : goal.loop-init
loop-init c =
    none_new c.new-wires.result.items c.new-hearings.result.items c.new-wires.ensures.items
    c.new-hearings.ensures.items

pub loop-preserved : goal.loop-preserved
loop-preserved c =
    one_new c.loop.counter c.loop.wires.items c.push.new.self.items c.loop.hearings.items
    c.push-in-loop.new.self.items c.new-in-loop.result c.new-in-loop-2.result c.loop.invariant
    c.in_ok-push.ensures.items c.in_ok-push-2.ensures.items c.new-in-loop.ensures
    c.new-in-loop-2.ensures

pub returns : goal.returns
returns c =
    let nodes = nodes_of c.args.set_up.now in
    let links = c.in_ok-links.ensures in
    let size = links.peers.size in
    let low = c.loop-test.false in
    let high = c.loop.auto.counter-end in
    let count = c.len-end.ensures in
    let wires_are = c.loop.invariant.wires_are in
    let hearings_are = c.loop.invariant.hearings_are in
    let wires : length c.loop.wires.items ≡ 16 * nodes
    = omega (arith, size, low, high, count, wires_are) in
    let hearings : length c.loop.hearings.items ≡ 16 * nodes
    = omega (arith, size, low, high, count, hearings_are) in
    record {
      links = links;
      network = c.in_ok-network.ensures;
      wires = all_table (λ chars. chars ≡ []) nodes c.loop.wires.items wires
          c.loop.invariant.empty;
      runs = all_table (KeepsRun new_run) nodes c.loop.hearings.items hearings
          c.loop.invariant.quiet;
    }
