use Rattle.std.proofs.Common.{◌≡◌, List, OnOk, rules, sym, subst}
use Rattle.maint_registers.specs.Devices.{Registers}
use Rattle.fabric_map.specs.Topology.{Topology}
use Rattle.fabric_map.specs.Routes.{AllRegisters}
use Rattle.fabric_map.specs.Plain.{registers_of}
use Rattle.fabric_ports.specs.declared.fabric.Fabric.{Fabric}
use Rattle.fabric_maint.specs.Going.{topology_in, StandsFor}
use Rattle.contest_machine.specs.Turns.{walker_turned}
use Rattle.host_contest.specs.Steps.{state_in, CanStep}
use Rattle.host_contest.specs.Walkers.{machine_in}
use Rattle.host_contest.proofs.Machines.{on_ok}
use Rattle.fabric_contest.specs.Contests.{view_of}
use Rattle.fabric_contest.proofs.MadeTurns.{stands_over}
use Rattle.fabric_contest.proofs.over.turn_over.Goals as goal

pub returns-clause-stands : goal.returns-clause-stands
returns-clause-stands c =
    let made = c.resting-maint.ensures in
    subst (λ (f : Fabric). OnOk c.make_turn.result
    (StandsFor c.args.script.now.names.items c.args.script.now.lines.items c.args.host f))
    (sym (search rules))
    (on_ok c.make_turn.result (λ whole.
    stands_over c.resting-maint.result c.make_turn.new.maint c.args.script.now c.args.host
    c.make_turn.ensures.same made.script made.host_is whole) c.make_turn.ensures.whole)

pub returns-clause-turned : goal.returns-clause-turned
returns-clause-turned c =
    let made = c.resting-maint.ensures in
    let Turned : Topology → AllRegisters → List Registers → Type 0 =
    λ view old new. OnOk c.make_turn.result (state_in view (registers_of new)
    c.make_turn.new.walker.machine ≡ walker_turned (machine_in view c.args.walker.now) old) in
    let view = view_of c.args.script.now.lines.items c.args.host in
    let old = registers_of c.args.fabric.now.devices.items in
    let end = c.make_turn.new.maint.fabric.now.devices.items in
    let over : Turned (topology_in c.resting-maint.result) old end =
    subst (λ r. Turned (topology_in c.resting-maint.result) r end) made.registers
    c.make_turn.ensures.turned in
    let seen : Turned view old end = subst (λ v. Turned v old end) made.topology over in
    subst (Turned view old) {x = end} (sym (search rules)) seen

pub returns-clause-can : goal.returns-clause-can
returns-clause-can c =
    let made = c.resting-maint.ensures in
    let Can : Topology → List Registers → Type 0 =
    λ view new. OnOk c.make_turn.result
    (CanStep view (registers_of new) c.make_turn.new.walker.machine) in
    let view = view_of c.args.script.now.lines.items c.args.host in
    let end = c.make_turn.new.maint.fabric.now.devices.items in
    let seen : Can view end = subst (λ v. Can v end) made.topology c.make_turn.ensures.can in
    subst (Can view) {x = end} (sym (search rules)) seen
