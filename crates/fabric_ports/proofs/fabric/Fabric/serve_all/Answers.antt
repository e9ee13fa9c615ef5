use Rattle.std.proofs.Common.{◌++◌, take, rules, arith, true, false, sym, ap, ◌∙◌}
use Rattle.std.proofs.lemmas.List.{take_all}
use Rattle.std.proofs.lemmas.Option.{slice_get-get_or}
use Rattle.std.proofs.Common.{Some}
use Rattle.fabric_trace.specs.Rounds.{ServeNodes}
use Rattle.fabric_ports.proofs.AfterLaws.{device_after, names_after}
use Rattle.fabric_ports.proofs.RoundLaws.{nodes_append, node_serves, node_rests, next_node, nodes_on, nodes_none, nodes_all}
use Rattle.fabric_ports.proofs.SettlingLaws.{devices_within}
use Rattle.fabric_ports.proofs.fabric.Fabric.serve_all.Goals as goal
use Rattle.fabric_ports.proofs.fabric.Fabric.serve_all.Goals.{then-is_switch, else-is_switch}

pub index-requires : goal.index-requires
index-requires g c =
    let within = device_after c.loop-node.invariant c.requires.stands c.loop-node.node
    (omega (arith, c.len-node-end.ensures, c.loop-node-test.true)) in search rules

pub serve-requires-clause-switch : goal.serve-requires-clause-switch
serve-requires-clause-switch g c =
    let known = c.requires.stands in
    let within = device_after c.loop-node.invariant known c.loop-node.node
    (omega (arith, c.len-node-end.ensures, c.loop-node-test.true)) in
    record {
      device = c.index.result.now;
      stands = slice_get-get_or c.loop-node.self.devices.items c.loop-node.node c.index.result.now
          within ∙ ap Some (sym c.index.ensures);
      kind = sym c.is_switch.ensures ∙ c.if-is_switch.true;
    }

pub serve-requires-clause-named : goal.serve-requires-clause-named
serve-requires-clause-named g c =
    rw (names_after c.loop-node.invariant c.requires.stands)
    (omega (arith, c.len-node-end.ensures, c.loop-node-test.true, c.requires.named))

pub loop-node-preserved : goal.loop-node-preserved
loop-node-preserved g c = λ from lines stands.
    let ran = c.loop-node.invariant from lines stands in
    let within = devices_within c.loop-node.node stands ran.ends.1
    (omega (arith, c.len-node-end.ensures, c.loop-node-test.true)) in
    elim c.if-is_switch.branch [
      | then-is_switch w ↦
          let node = next_node c.loop-node.node c.index.result.now true stands ran.ends.1
          c.index.ensures within (sym c.is_switch.ensures ∙ w.if-is_switch.true) in
          rw (w.self-is, w.writer-is)
          (nodes_on ServeNodes nodes_append c.args.self.now.devices.items stands node
          (λ s block own. node_serves node.device c.loop-node.node s block node.is own) ran
          (w.serve.ensures from (lines ++ ran.block) ran.ends.1))
      | else-is_switch w ↦
          let node = next_node c.loop-node.node c.index.result.now false stands ran.ends.1
          c.index.ensures within (sym c.is_switch.ensures ∙ w.if-is_switch.false) in
          rw (w.self-is, w.writer-is)
          (nodes_none ServeNodes nodes_append c.args.self.now.devices.items stands node
          (λ s block own. node_rests node.device c.loop-node.node s block node.is own) ran)
    ]

pub returns : goal.returns
returns g c = λ from lines stands.
    nodes_all ServeNodes nodes_append (take c.loop-node.node c.args.self.now.devices.items) stands
    (take_all c.loop-node.node c.args.self.now.devices.items (omega (
      arith,
      c.len-node-end.ensures,
      c.loop-node-test.false,
      c.args.self.now.devices.ok.0,
    )))
    (c.loop-node.invariant from lines stands)
