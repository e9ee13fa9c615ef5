use Rattle.std.proofs.Common.{◌+◌, ◌≤◌, ap, length, rules, arith}
use Rattle.fabric_script.specs.Known.{Known}
use Rattle.fabric_script.specs.Refusals.{makes_node}
use Rattle.fabric_script.proofs.KnownLaws.{within_cost, within_nodes}
use Rattle.fabric_script.proofs.known.Known.add.Goals as goal

pub overflow_cast-self : goal.overflow_cast-self
overflow_cast-self c =
    let within = within_cost c.args.self.now c.args.line.now c.requires.lines
    c.requires.spelled.free in
    let small : c.cost_of.result ≤ 100000 = omega (arith, within, c.cost_of.ensures.cost) in
    search rules

pub overflow_add-self : goal.overflow_add-self
overflow_add-self c =
    let within = within_cost c.args.self.now c.args.line.now c.requires.lines
    c.requires.spelled.free in
    let before = ap {A = Known} (λ k. k.cost) c.self.view_is in
    let small : c.self.inside.cost + c.cost_of.result ≤ 100000 =
    omega (arith, within, c.cost_of.ensures.cost, before) in
    search rules

pub add_node-requires-clause-room : goal.add_node-requires-clause-room
add_node-requires-clause-room c =
    let room = within_nodes c.args.self.now c.args.line.now c.requires.lines c.requires.spelled.free
    (ap makes_node c.in-Endpoint.is) in
    let same = ap {A = Known} (λ k. length k.names) c.self.view_is in
    omega (arith, room, same)

pub add_node-requires-in-Switch-clause-room : goal.add_node-requires-in-Switch-clause-room
add_node-requires-in-Switch-clause-room c =
    let room = within_nodes c.args.self.now c.args.line.now c.requires.lines c.requires.spelled.free
    (ap makes_node c.in-Switch.is) in
    let same = ap {A = Known} (λ k. length k.names) c.self.view_is in
    omega (arith, room, same)
