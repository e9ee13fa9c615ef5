use Rattle.std.proofs.Common.{◌≡◌, ℕ, false, List, refl, ap, ◌∙◌, sym, subst, arith}
use Rattle.std.proofs.lemmas.Bool.{true≢false}
use Rattle.maint_registers.specs.Devices.{new_endpoint, new_switch}
use Rattle.fabric_script.specs.declared.lines.Line.{Line}
use Rattle.fabric_script.specs.declared.lines.Line.TheVariants.{Endpoint, Switch}
use Rattle.fabric_trace.specs.Events.{ArePorts, counts_after}
use Rattle.fabric_trace.specs.Runs.{set_up}
use Rattle.fabric_trace.specs.SetUps.{MaySetUp}
use Rattle.fabric_ports.specs.Plans.{PlansFor, HasPorts, counts_of, with_end_at, is_new}
use Rattle.fabric_ports.proofs.PlanLaws.{plan-device, plan-link, counts-device, counts-end, port_by_count, ok_from, ok_from_two, ok_from_three}
use Rattle.fabric_ports.proofs.plans.Plan.add.Goals as goal

old_counts : (counts : List ℕ) (line : Line) → is_new line ≡ false
    → counts_after counts line ≡ counts
old_counts counts (Endpoint name id) old = absurd (true≢false old)
old_counts counts (Switch name ports) old = absurd (true≢false old)
old_counts counts _ old = refl

pub add_switch-requires-clause-least : goal.add_switch-requires-clause-least
add_switch-requires-clause-least c =
    (subst (MaySetUp c.requires.may.net) c.in-Switch.is c.requires.may.may).0

pub add_switch-requires-clause-most : goal.add_switch-requires-clause-most
add_switch-requires-clause-most c =
    (subst (MaySetUp c.requires.may.net) c.in-Switch.is c.requires.may.may).1

pub add_cable-requires-clause-first : goal.add_cable-requires-clause-first
add_cable-requires-clause-first c =
    port_by_count c.args.self.now.devices.items c.in-Link.a
    (subst (ArePorts (counts_of c.args.self.now.devices.items)) c.in-Link.is c.requires.ports).0

pub add_cable-requires-clause-second : goal.add_cable-requires-clause-second
add_cable-requires-clause-second c =
    port_by_count c.args.self.now.devices.items c.in-Link.b
    (subst (ArePorts (counts_of c.args.self.now.devices.items)) c.in-Link.is c.requires.ports).1

pub returns-in-Endpoint-clause-plans : goal.returns-in-Endpoint-clause-plans
returns-in-Endpoint-clause-plans c =
    let old = c.args.self.now in
    let new = c.add_endpoint.new.self in
    let e = c.add_endpoint.ensures in
    let device = new_endpoint c.in-Endpoint.id false in
    let one : HasPorts device = omega arith in
    ok_from_three c.add_endpoint.result e.devices e.firsts e.ports (λ d f b net is may.
    subst (λ line. PlansFor new (set_up net line)) (sym c.in-Endpoint.is)
    (plan-device old new net device one d f b (ap (λ cables. cables.items) e.cables) is))

pub returns-in-Endpoint-clause-counts : goal.returns-in-Endpoint-clause-counts
returns-in-Endpoint-clause-counts c =
    let old = c.args.self.now.devices.items in
    let new = c.add_endpoint.new.self.devices.items in
    ok_from c.add_endpoint.result c.add_endpoint.ensures.devices (λ d.
    counts-device old new (new_endpoint c.in-Endpoint.id false) 1 d refl
    ∙ sym (ap (counts_after (counts_of old)) c.in-Endpoint.is))

pub returns-in-Switch-clause-plans : goal.returns-in-Switch-clause-plans
returns-in-Switch-clause-plans c =
    let old = c.args.self.now in
    let new = c.add_switch.new.self in
    let e = c.add_switch.ensures in
    let device = new_switch c.in-Switch.ports 0 in
    let least = (subst (MaySetUp c.requires.may.net) c.in-Switch.is c.requires.may.may).0 in
    let some : HasPorts device = omega (arith, least) in
    ok_from_three c.add_switch.result e.devices e.firsts e.ports (λ d f b net is may.
    subst (λ line. PlansFor new (set_up net line)) (sym c.in-Switch.is)
    (plan-device old new net device some d f b (ap (λ cables. cables.items) e.cables) is))

pub returns-in-Switch-clause-counts : goal.returns-in-Switch-clause-counts
returns-in-Switch-clause-counts c =
    let old = c.args.self.now.devices.items in
    let new = c.add_switch.new.self.devices.items in
    ok_from c.add_switch.result c.add_switch.ensures.devices (λ d.
    counts-device old new (new_switch c.in-Switch.ports 0) c.in-Switch.ports d refl
    ∙ sym (ap (counts_after (counts_of old)) c.in-Switch.is))

pub returns-in-Link-clause-plans : goal.returns-in-Link-clause-plans
returns-in-Link-clause-plans c =
    let old = c.args.self.now in
    let new = c.add_cable.new.self in
    let e = c.add_cable.ensures in
    let ports = subst (ArePorts (counts_of old.devices.items)) c.in-Link.is c.requires.ports in
    let rest = e.rest in
    ok_from_two c.add_cable.result e.devices e.cables (λ devices cables net is may.
    subst (λ line. PlansFor new (set_up net line)) (sym c.in-Link.is)
    (plan-link old new net c.in-Link.a c.in-Link.b
    (port_by_count old.devices.items c.in-Link.a ports.0)
    (port_by_count old.devices.items c.in-Link.b ports.1)
    devices (ap (λ plan. plan.firsts.items) rest)
    (ap (λ plan. plan.ports.items) rest) cables is))

pub returns-in-Link-clause-counts : goal.returns-in-Link-clause-counts
returns-in-Link-clause-counts c =
    let old = c.args.self.now.devices.items in
    ok_from c.add_cable.result c.add_cable.ensures.devices (λ devices.
    ap counts_of devices ∙ counts-end (with_end_at old c.in-Link.a) c.in-Link.b
    ∙ counts-end old c.in-Link.a ∙ sym (ap (counts_after (counts_of old)) c.in-Link.is))
