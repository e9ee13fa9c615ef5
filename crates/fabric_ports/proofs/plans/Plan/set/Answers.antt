use Rattle.std.proofs.Common.{◌≡◌, ℕ, true, false, ◌<◌, List, length, get_or, refl, sym, ap, ◌∙◌, subst, arith}
use Rattle.std.specs.Vec.{with_item}
use Rattle.maint_registers.specs.Devices.{Registers}
use Rattle.fabric_model.specs.Network.{Network}
use Rattle.fabric_script.specs.declared.lines.Line.{Line}
use Rattle.fabric_script.specs.declared.lines.Line.TheVariants.{Route, Default, Lock, Large}
use Rattle.fabric_trace.specs.Events.{ArePorts}
use Rattle.fabric_trace.specs.Runs.{set_up}
use Rattle.fabric_trace.specs.SetUps.{MaySetUp}
use Rattle.fabric_trace.specs.Settings.{with_change, routed, defaulted, held_by, large_set}
use Rattle.fabric_ports.specs.Plans.{PlansFor, counts_of}
use Rattle.fabric_ports.specs.declared.plans.Plan.{Plan}
use Rattle.maint_registers.proofs.ChangeLaws.{changed_at}
use Rattle.fabric_ports.proofs.Changes.{KeepsPorts, counts-change, kind_of}
use Rattle.fabric_ports.proofs.PlanLaws.{plan-change, port_by_count}
use Rattle.fabric_ports.proofs.PortPlans.{plan-buffers, plan-telling}
use Rattle.fabric_ports.proofs.plans.Plan.set.Goals as goal

-- the plan with another device in place of one
abbrev with_written : Plan → ℕ → Registers → Plan
with_written plan i device = record plan { devices = with_item plan.devices i device }

-- what a line does that has a device changed
record IsSet (old new : Plan) (line : Line) : Type 0 where
  plans : (net : Network) → PlansFor old net → MaySetUp net line → PlansFor new (set_up net line)
  counts : counts_of new.devices.items ≡ counts_of old.devices.items

-- the device was read, changed and written back
written : (old : Plan) (line other : Line) (node i : ℕ) (read next : Registers)
    (change : Registers → Registers) → KeepsPorts change
    → ((net : Network) → set_up net other ≡ with_change net node change) → line ≡ other → i ≡ node
    → node < length old.devices.items → read ≡ get_or old.devices.items i read
    → next ≡ change read → IsSet old (with_written old i next) line
written old line other node i read next change same sets is at within value becomes =
    let new = with_written old i next in
    let changes = changed_at old.devices.items node i read next change at
    (omega (arith, at, within)) value becomes in
    record {
      plans = λ net plans may. subst (PlansFor new) (sym (sets net) ∙ ap (set_up net) (sym is))
          (plan-change old new net node change same changes refl refl refl plans);
      counts = ap counts_of changes ∙ counts-change old.devices.items node change same;
    }

pub set_buffers-requires-clause-port : goal.set_buffers-requires-clause-port
set_buffers-requires-clause-port c =
    port_by_count c.args.self.now.devices.items c.in-Buffers.port
    (subst (ArePorts (counts_of c.args.self.now.devices.items)) c.in-Buffers.is c.requires.ports)

pub returns-in-Buffers-clause-plans : goal.returns-in-Buffers-clause-plans
returns-in-Buffers-clause-plans c net is may =
    let old = c.args.self.now in
    let new = c.set_buffers.new.self in
    let e = c.set_buffers.ensures in
    let port = port_by_count old.devices.items c.in-Buffers.port
    (subst (ArePorts (counts_of old.devices.items)) c.in-Buffers.is c.requires.ports) in
    subst (λ line. PlansFor new (set_up net line)) (sym c.in-Buffers.is)
    (plan-buffers old new net c.in-Buffers.port c.in-Buffers.n port
    (subst (MaySetUp net) c.in-Buffers.is may)
    (ap (λ plan. plan.devices.items) e.rest) (ap (λ plan. plan.firsts.items) e.rest) e.ports
    (ap (λ plan. plan.cables.items) e.rest) is)

pub set_telling-requires-clause-port : goal.set_telling-requires-clause-port
set_telling-requires-clause-port c =
    port_by_count c.args.self.now.devices.items c.in-Credits.port
    (subst (ArePorts (counts_of c.args.self.now.devices.items)) c.in-Credits.is c.requires.ports)

pub returns-in-Credits-clause-plans : goal.returns-in-Credits-clause-plans
returns-in-Credits-clause-plans c net is may =
    let old = c.args.self.now in
    let new = c.set_telling.new.self in
    let e = c.set_telling.ensures in
    let port = port_by_count old.devices.items c.in-Credits.port
    (subst (ArePorts (counts_of old.devices.items)) c.in-Credits.is c.requires.ports) in
    subst (λ line. PlansFor new (set_up net line)) (sym c.in-Credits.is)
    (plan-telling old new net c.in-Credits.port port
    (ap (λ plan. plan.devices.items) e.rest) (ap (λ plan. plan.firsts.items) e.rest) e.ports
    (ap (λ plan. plan.cables.items) e.rest) is)

pub index_mut-requires : goal.index_mut-requires
index_mut-requires c =
    let may = c.requires.may in
    let there = (kind_of true may.net c.args.self.now.devices.items c.in-Route.node
    may.plans.registers (subst (MaySetUp may.net) c.in-Route.is may.may).0).within in
    grind (arith, there)

pub set_route-requires-clause-destination : goal.set_route-requires-clause-destination
set_route-requires-clause-destination c =
    let may = c.requires.may in
    (subst (MaySetUp may.net) c.in-Route.is may.may).1

pub set_route-requires-clause-switch : goal.set_route-requires-clause-switch
set_route-requires-clause-switch c =
    let may = c.requires.may in
    let devices = c.args.self.now.devices.items in
    let read = c.index_mut.result.now in
    (kind_of true may.net devices c.in-Route.node may.plans.registers
    (subst (MaySetUp may.net) c.in-Route.is may.may).0).kind read
    (c.index_mut.ensures.value ∙ ap (λ n. get_or devices n read) c.from.ensures)

pub index_mut-requires-in-Default : goal.index_mut-requires-in-Default
index_mut-requires-in-Default c =
    let may = c.requires.may in
    let there = (kind_of true may.net c.args.self.now.devices.items c.in-Default.node
    may.plans.registers (subst (MaySetUp may.net) c.in-Default.is may.may).0).within in
    grind (arith, there)

pub set_default-requires : goal.set_default-requires
set_default-requires c =
    let may = c.requires.may in
    let devices = c.args.self.now.devices.items in
    let read = c.index_mut-in-Default.result.now in
    (kind_of true may.net devices c.in-Default.node may.plans.registers
    (subst (MaySetUp may.net) c.in-Default.is may.may).0).kind read
    (c.index_mut-in-Default.ensures.value
    ∙ ap (λ n. get_or devices n read) c.from-in-Default.ensures)

pub index_mut-requires-in-Large : goal.index_mut-requires-in-Large
index_mut-requires-in-Large c =
    let may = c.requires.may in
    let there = (kind_of false may.net c.args.self.now.devices.items c.in-Large.node
    may.plans.registers (subst (MaySetUp may.net) c.in-Large.is may.may).0).within in
    grind (arith, there)

pub set_large-requires : goal.set_large-requires
set_large-requires c =
    let may = c.requires.may in
    let devices = c.args.self.now.devices.items in
    let read = c.index_mut-in-Large.result.now in
    (kind_of false may.net devices c.in-Large.node may.plans.registers
    (subst (MaySetUp may.net) c.in-Large.is may.may).0).kind read
    (c.index_mut-in-Large.ensures.value ∙ ap (λ n. get_or devices n read) c.from-in-Large.ensures)

pub returns-in-Route : goal.returns-in-Route
returns-in-Route c =
    let old = c.args.self.now in
    let may = c.requires.may in
    let set = written old c.args.line.now (Route c.in-Route.node c.in-Route.id c.in-Route.p)
    c.in-Route.node
    c.from.result c.index_mut.result.now c.set_route.new.self (routed c.in-Route.id c.in-Route.p)
    (λ device. refl) (λ net. refl) c.in-Route.is c.from.ensures
    ((kind_of true may.net old.devices.items c.in-Route.node may.plans.registers
    (subst (MaySetUp may.net) c.in-Route.is may.may).0).within)
    c.index_mut.ensures.value c.set_route.ensures in
    record { plans = set.plans; counts = set.counts }

pub returns-in-Default : goal.returns-in-Default
returns-in-Default c =
    let old = c.args.self.now in
    let may = c.requires.may in
    let set = written old c.args.line.now (Default c.in-Default.node c.in-Default.p)
    c.in-Default.node
    c.from-in-Default.result c.index_mut-in-Default.result.now c.set_default.new.self
    (defaulted c.in-Default.p)
    (λ device. refl) (λ net. refl) c.in-Default.is c.from-in-Default.ensures
    ((kind_of true may.net old.devices.items c.in-Default.node may.plans.registers
    (subst (MaySetUp may.net) c.in-Default.is may.may).0).within)
    c.index_mut-in-Default.ensures.value c.set_default.ensures in
    record { plans = set.plans; counts = set.counts }

pub returns-in-Lock : goal.returns-in-Lock
returns-in-Lock c =
    let old = c.args.self.now in
    let may = c.requires.may in
    let set = written old c.args.line.now (Lock c.in-Lock.node c.in-Lock.id) c.in-Lock.node
    c.from-in-Lock.result c.index_mut-in-Lock.result.now c.set_lock.new.self (held_by c.in-Lock.id)
    (λ device. refl) (λ net. refl) c.in-Lock.is c.from-in-Lock.ensures
    (subst (λ (x : List Registers). c.in-Lock.node < length x) may.plans.registers
    (subst (MaySetUp may.net) c.in-Lock.is may.may).0)
    c.index_mut-in-Lock.ensures.value c.set_lock.ensures in
    record { plans = set.plans; counts = set.counts }

pub returns-in-Large : goal.returns-in-Large
returns-in-Large c =
    let old = c.args.self.now in
    let may = c.requires.may in
    let set = written old c.args.line.now (Large c.in-Large.node c.in-Large.id) c.in-Large.node
    c.from-in-Large.result c.index_mut-in-Large.result.now c.set_large.new.self
    (large_set c.in-Large.id)
    (λ device. refl) (λ net. refl) c.in-Large.is c.from-in-Large.ensures
    ((kind_of false may.net old.devices.items c.in-Large.node may.plans.registers
    (subst (MaySetUp may.net) c.in-Large.is may.may).0).within)
    c.index_mut-in-Large.ensures.value c.set_large.ensures in
    record { plans = set.plans; counts = set.counts }
