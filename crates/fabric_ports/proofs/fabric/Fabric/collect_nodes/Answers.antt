use Rattle.std.proofs.Common.{◌≡◌, ◌≢◌, ◌==◌, ◌||◌, ◌++◌, take, rules, arith, true, false, sym, ap, ◌∙◌, Some, option_map, ne_eqb, eq-eqb}
use Rattle.std.proofs.lemmas.List.{take_all}
use Rattle.std.proofs.lemmas.Option.{slice_get-get_or}
use Rattle.maint_registers.specs.Devices.{is_switch}
use Rattle.fabric_ask.specs.Asks.{CollectNodes}
use Rattle.fabric_ports.proofs.AfterLaws.{device_after, names_after}
use Rattle.fabric_ports.proofs.GatherAllLaws.{others_append, node_collects, node_rests}
use Rattle.fabric_ports.proofs.GatherLaws.{endpoint_of}
use Rattle.fabric_ports.proofs.RoundLaws.{next_node, nodes_on, nodes_none, nodes_all}
use Rattle.fabric_ports.proofs.SettlingLaws.{devices_within}
use Rattle.fabric_ports.proofs.fabric.Fabric.collect_nodes.Goals as goal
use Rattle.fabric_ports.proofs.fabric.Fabric.collect_nodes.Goals.{then-not-is_switch+then-node-from, else-not-is_switch, else-not-is_switch-via-then-not-is_switch+else-node-from, else-not-is_switch-via-else-not-is_switch}

pub index-requires : goal.index-requires
index-requires g c =
    let within = device_after c.loop-node.invariant c.requires.stands c.loop-node.node
    (omega (arith, c.len-node-end.ensures, c.loop-node-test.true)) in search rules

pub collect_all-requires-clause-named : goal.collect_all-requires-clause-named
collect_all-requires-clause-named g c =
    rw (names_after c.loop-node.invariant c.requires.stands)
    (omega (
      arith,
      c.len-node-end.ensures,
      c.loop-node-test.true,
      c.requires.named,
      c.args.self.now.devices.ok.0,
    ))

pub collect_all-requires-clause-endpoint : goal.collect_all-requires-clause-endpoint
collect_all-requires-clause-endpoint g c =
    let known = c.requires.stands in
    let ran = c.loop-node.invariant known.0 known.1 known.2 in
    let within = devices_within c.loop-node.node known.2 ran.ends.1
    (omega (arith, c.len-node-end.ensures, c.loop-node-test.true)) in
    endpoint_of c.loop-node.node ran.ends.1
    (ap (option_map is_switch)
    (slice_get-get_or c.loop-node.self.devices.items c.loop-node.node c.index.result.now
    within ∙ ap Some (sym c.index.ensures))
    ∙ ap Some (sym c.is_switch.ensures ∙ c.if-not-is_switch.true))

pub loop-node-preserved : goal.loop-node-preserved
loop-node-preserved g c = λ from lines stands.
    let ran = c.loop-node.invariant from lines stands in
    let within = devices_within c.loop-node.node stands ran.ends.1
    (omega (arith, c.len-node-end.ensures, c.loop-node-test.true)) in
    elim c.if-not-is_switch.branch [
      | then-not-is_switch+then-node-from w ↦
          let from_is = w.from.ensures in
          let ne = w.if-node-from.true in
          let other : c.loop-node.node ≢ c.args.host = omega (arith, from_is, ne) in
          let node = next_node c.loop-node.node c.index.result.now false stands ran.ends.1
          c.index.ensures within (sym c.is_switch.ensures ∙ w.if-not-is_switch.true) in
          rw (w.self-is, w.writer-is) (nodes_on (CollectNodes c.args.host)
          (others_append c.args.host)
          c.args.self.now.devices.items stands node
          (λ s block own. node_collects c.args.host node.device c.loop-node.node s block
          (λ i. node.is i || ne_eqb c.loop-node.node c.args.host other i) own) ran
          (w.collect_all.ensures from (lines ++ ran.block) ran.ends.1))
      | else-not-is_switch w ↦
          rw (w.self-is, w.writer-is) (elim w.else-not-is_switch.branch [
            | else-not-is_switch-via-then-not-is_switch+else-node-from v ↦
                let from_is = v.from.ensures in
                let eq = v.if-node-from.false in
                let host : c.loop-node.node ≡ c.args.host = omega (arith, from_is, eq) in
                let node = next_node c.loop-node.node c.index.result.now false stands ran.ends.1
                c.index.ensures within (sym c.is_switch.ensures ∙ v.if-not-is_switch.true) in
                nodes_none (CollectNodes c.args.host) (others_append c.args.host)
                c.args.self.now.devices.items stands node
                (λ s block own. node_rests c.args.host node.device c.loop-node.node s block
                (λ i. node.is i || eq-eqb c.loop-node.node c.args.host host i) own) ran
            | else-not-is_switch-via-else-not-is_switch v ↦
                let node = next_node c.loop-node.node c.index.result.now true stands ran.ends.1
                c.index.ensures within (sym c.is_switch.ensures ∙ v.if-not-is_switch.false) in
                nodes_none (CollectNodes c.args.host) (others_append c.args.host)
                c.args.self.now.devices.items stands node
                (λ s block own. node_rests c.args.host node.device c.loop-node.node s block
                (λ i. node.is i || (c.loop-node.node == c.args.host)) own) ran
          ])
    ]

pub returns : goal.returns
returns g c = λ from lines stands.
    nodes_all (CollectNodes c.args.host) (others_append c.args.host)
    (take c.loop-node.node c.args.self.now.devices.items) stands
    (take_all c.loop-node.node c.args.self.now.devices.items (omega (
      arith,
      c.len-node-end.ensures,
      c.loop-node-test.false,
      c.args.self.now.devices.ok.0,
    )))
    (c.loop-node.invariant from lines stands)
