use Rattle.std.proofs.Common.{◌≡◌, ◌<◌, ℕ, List, length, get_or, refl, sym, ap, ◌∙◌, subst, arith}
use Rattle.maint_registers.specs.Devices.{Registers}
use Rattle.maint_registers.proofs.ChangeLaws.{changed_at}
use Rattle.fabric_model.specs.Network.{Network}
use Rattle.fabric_trace.specs.Settings.{defaulted, held_by, large_set, routed, with_change}
use Rattle.std.specs.Vec.{with_item}
use Rattle.trace_check.specs.Starting.{IsBuilt}
use Rattle.trace_check.specs.declared.network.Network.{Network as Kept}
use Rattle.trace_check.proofs.BuildLaws.{built_buffers, built_change, built_link, port_kept, port_linked, kind_of}
use Rattle.trace_check.proofs.TableLaws.{place_within}
use Rattle.trace_check.proofs.network.Network.set.Goals as goal

pub link-requires : goal.link-requires
link-requires c =
    let may = c.requires.may in
    port_kept may.built (rw c.in-Link.is at may.may.ports).0

pub link-requires-in-Link : goal.link-requires-in-Link
link-requires-in-Link c =
    let may = c.requires.may in
    port_linked c.args.self.now c.link.new.self c.in-Link.a c.in-Link.b
    (port_kept may.built (rw c.in-Link.is at may.may.ports).1) c.link.ensures.registers

pub returns-in-Link : goal.returns-in-Link
returns-in-Link c = λ net built may.
    let first = c.link.ensures in
    let second = c.link-in-Link.ensures in
    rw c.in-Link.is
    (built_link c.in-Link.a c.in-Link.b built first.registers first.rest second.registers
    second.rest)

pub index_mut-requires : goal.index_mut-requires
index_mut-requires c =
    let may = c.requires.may in
    let within = place_within (rw c.in-Buffers.is at may.may.ports) in
    let size = may.built.network.buffers.size in
    let here = c.place_of.ensures in
    omega (arith, within, size, here)

pub returns-in-Buffers : goal.returns-in-Buffers
returns-in-Buffers c = λ net built may.
    rw c.in-Buffers.is
    (built_buffers c.in-Buffers.n built (rw c.in-Buffers.is at may.ports) c.place_of.ensures refl
    refl)

-- ---- registers

written : {net : Network} {old : Kept} {node i : ℕ} {read device : Registers}
    (change : Registers → Registers) → IsBuilt net old → i ≡ node
    → node < length old.registers.items → read ≡ get_or old.registers.items i read
    → device ≡ change read
    → IsBuilt (with_change net node change)
    (record old { registers = with_item old.registers i device })
written {old = old} {node} {i} {read} {device} change built same there value is =
    built_change node change built
    (changed_at old.registers.items node i read device change same (omega (arith, there, same))
    value is) refl

pub index_mut-requires-in-Route : goal.index_mut-requires-in-Route
index_mut-requires-in-Route c =
    let may = c.requires.may in
    let there = (kind_of c.in-Route.node may.built (rw c.in-Route.is at may.may.may).0).within in
    grind (arith, there)

pub set_route-requires-clause-destination : goal.set_route-requires-clause-destination
set_route-requires-clause-destination c = (rw c.in-Route.is at c.requires.may.may.may).1

pub set_route-requires-clause-switch : goal.set_route-requires-clause-switch
set_route-requires-clause-switch c =
    let may = c.requires.may in
    let read = c.index_mut-in-Route.result.now in
    (kind_of c.in-Route.node may.built (rw c.in-Route.is at may.may.may).0).kind read
    (c.index_mut-in-Route.ensures.value
    ∙ ap (λ n. get_or c.args.self.now.registers.items n read) c.from.ensures)

pub returns-in-Route : goal.returns-in-Route
returns-in-Route c = λ net built may.
    let there = (kind_of c.in-Route.node built (rw c.in-Route.is at may.may).0).within in
    rw c.in-Route.is (written (routed c.in-Route.id c.in-Route.p) built c.from.ensures there
    c.index_mut-in-Route.ensures.value c.set_route.ensures)

pub index_mut-requires-in-Default : goal.index_mut-requires-in-Default
index_mut-requires-in-Default c =
    let may = c.requires.may in
    let there = (kind_of c.in-Default.node may.built
    (rw c.in-Default.is at may.may.may).0).within in
    grind (arith, there)

pub set_default-requires : goal.set_default-requires
set_default-requires c =
    let may = c.requires.may in
    let read = c.index_mut-in-Default.result.now in
    (kind_of c.in-Default.node may.built (rw c.in-Default.is at may.may.may).0).kind read
    (c.index_mut-in-Default.ensures.value
    ∙ ap (λ n. get_or c.args.self.now.registers.items n read) c.from-in-Default.ensures)

pub returns-in-Default : goal.returns-in-Default
returns-in-Default c = λ net built may.
    let there = (kind_of c.in-Default.node built (rw c.in-Default.is at may.may).0).within in
    rw c.in-Default.is (written (defaulted c.in-Default.p) built c.from-in-Default.ensures there
    c.index_mut-in-Default.ensures.value c.set_default.ensures)

pub returns-in-Lock : goal.returns-in-Lock
returns-in-Lock c = λ net built may.
    let there = subst (λ (d : List Registers). c.in-Lock.node < length d)
    (sym built.network.registers) (rw c.in-Lock.is at may.may).0 in
    rw c.in-Lock.is (written (held_by c.in-Lock.id) built c.from-in-Lock.ensures there
    c.index_mut-in-Lock.ensures.value c.set_lock.ensures)

pub index_mut-requires-in-Large : goal.index_mut-requires-in-Large
index_mut-requires-in-Large c =
    let may = c.requires.may in
    let there = (kind_of c.in-Large.node may.built (rw c.in-Large.is at may.may.may).0).within in
    grind (arith, there)

pub set_large-requires : goal.set_large-requires
set_large-requires c =
    let may = c.requires.may in
    let read = c.index_mut-in-Large.result.now in
    (kind_of c.in-Large.node may.built (rw c.in-Large.is at may.may.may).0).kind read
    (c.index_mut-in-Large.ensures.value
    ∙ ap (λ n. get_or c.args.self.now.registers.items n read) c.from-in-Large.ensures)

pub returns-in-Large : goal.returns-in-Large
returns-in-Large c = λ net built may.
    let there = (kind_of c.in-Large.node built (rw c.in-Large.is at may.may).0).within in
    rw c.in-Large.is (written (large_set c.in-Large.id) built c.from-in-Large.ensures there
    c.index_mut-in-Large.ensures.value c.set_large.ensures)
