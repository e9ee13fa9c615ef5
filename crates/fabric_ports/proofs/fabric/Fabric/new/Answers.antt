use Rattle.std.proofs.Common.{◌≡◌, take, map, ◌∙◌, ap, subst, refl, rules, arith}
use Rattle.std.proofs.lemmas.List.{take_all}
use Rattle.fabric_trace.specs.Events.{port_counts}
use Rattle.fabric_trace.specs.Runs.{bare, set_up_all}
use Rattle.fabric_ports.specs.Plans.{PlansFor, counts_of, planned_port}
use Rattle.fabric_ports.proofs.NewLaws.{devices_named, new_stands, plan_proper, next_ports, next_may, next_plan}
use Rattle.fabric_ports.proofs.fabric.Fabric.new.Goals as goal

pub add-requires-clause-ports : goal.add-requires-clause-ports
add-requires-clause-ports c =
    let script = c.args.script.now in
    next_ports script.names.items script.lines.items c.loop-numbered.numbered-index
    c.numbered-item.result c.loop-numbered.plan c.requires.passes (omega arith) (search rules)
    c.loop-numbered.invariant

pub add-requires-clause-may : goal.add-requires-clause-may
add-requires-clause-may c =
    let script = c.args.script.now in
    next_may script.names.items script.lines.items c.loop-numbered.numbered-index
    c.numbered-item.result c.loop-numbered.plan c.requires.passes (omega arith) (search rules)
    c.loop-numbered.invariant

pub loop-numbered-preserved : goal.loop-numbered-preserved
loop-numbered-preserved c =
    let script = c.args.script.now in
    next_plan script.names.items script.lines.items c.loop-numbered.numbered-index
    c.numbered-item.result c.loop-numbered.plan c.add.new.self c.requires.passes (omega arith)
    (search rules)
    c.loop-numbered.invariant
    c.in_ok-add.ensures.plans c.in_ok-add.ensures.counts

pub number_cables-requires-clause-proper : goal.number_cables-requires-clause-proper
number_cables-requires-clause-proper c =
    let script = c.args.script.now in
    let plan = c.loop-numbered.plan in
    let all : take c.loop-numbered.numbered-index script.lines.items ≡ script.lines.items =
    take_all c.loop-numbered.numbered-index script.lines.items (omega arith) in
    plan_proper script.names.items script.lines.items plan c.requires.passes
    (subst (λ lines. PlansFor plan (set_up_all bare lines)) all c.loop-numbered.invariant.plans)

pub returns-clause-stands : goal.returns-clause-stands
returns-clause-stands c =
    let script = c.args.script.now in
    let plan = c.loop-numbered.plan in
    let all : take c.loop-numbered.numbered-index script.lines.items ≡ script.lines.items =
    take_all c.loop-numbered.numbered-index script.lines.items (omega arith) in
    let ports : c.deref.result.now ≡ plan.ports.items = search rules in
    new_stands script.names.items script.lines.items plan
    (record {
      devices = plan.devices;
      firsts = plan.firsts;
      ports =
          c.in_ok-ports.ports;
      cables = plan.cables;
      cable_at = c.in_ok-cable_at.cable_at;
      idle = c.in_ok-idle.idle;
    }) c.requires.passes
    (subst (λ lines. PlansFor plan (set_up_all bare lines)) all c.loop-numbered.invariant.plans)
    refl refl refl
    (c.in_ok-ports.ensures ∙ ap (map planned_port) ports) c.in_ok-cable_at.ensures
    (record {
      links = _;
      devices = _;
      links_are = c.in_ok-idle.ensures.links;
      devices_are = c.in_ok-idle.ensures.switches;
      as_many_links = search rules;
      as_many_devices = search rules;
    })

pub returns-clause-named : goal.returns-clause-named
returns-clause-named c =
    let script = c.args.script.now in
    let plan = c.loop-numbered.plan in
    let all : take c.loop-numbered.numbered-index script.lines.items ≡ script.lines.items =
    take_all c.loop-numbered.numbered-index script.lines.items (omega arith) in
    devices_named script.names.items script.lines.items plan.devices.items c.requires.passes
    (subst (λ lines. counts_of plan.devices.items ≡ port_counts lines) all
    c.loop-numbered.invariant.counts)
