use Rattle.std.proofs.Common.{◌≡◌, ℕ, true, Some, sym, ap, ◌∙◌, subst, refl}
use Rattle.trace_lines.specs.Writing.{Adds}
use Rattle.trace_lines.specs.declared.writer.TraceWriter.{TraceWriter}
use Rattle.rio_packets.specs.LinkForm.{Passes}
use Rattle.switch_core.specs.declared.switch.Step.{Step}
use Rattle.switch_core.specs.SwitchSteps.{step_of, switch_after}
use Rattle.switch_core.proofs.GoingLaws.{dropped_is, moved_is}
use Rattle.fabric_ports.specs.Switching.{faces_at, AreForms, is_step, written_lines, Wrote}
use Rattle.fabric_ports.proofs.switches.make_step.Goals as goal

-- the step is what was written
wrote_as : {node : ℕ} {K : Type 0} {old new : TraceWriter K} (step told : Step) → step ≡ told
    → AreForms told → is_step told ≡ true → Adds old new (written_lines node told)
    → Wrote node step old new true
wrote_as {node} {K} {old} {new} step told is forms one adds =
    subst (λ (s : Step). Wrote node s old new true) (sym is)
    (record { forms = forms; is = sym one; adds = adds })

pub returns-in-Nowhere-clause-lists : goal.returns-in-Nowhere-clause-lists
returns-in-Nowhere-clause-lists g c = c.pass_on.ensures.faces c.args.registers.now c.requires.goes

pub returns-in-Nowhere-clause-registers : goal.returns-in-Nowhere-clause-registers
returns-in-Nowhere-clause-registers g c =
    let device = c.args.registers.now in
    sym (ap (switch_after device) (dropped_is device (faces_at c.args.own.now) c.args.going
    c.requires.goes c.packet-packet.result.now c.packet-packet.ensures c.in-Nowhere.is))

pub returns-in-Nowhere-clause-wrote : goal.returns-in-Nowhere-clause-wrote
returns-in-Nowhere-clause-wrote g c =
    let device = c.args.registers.now in
    let packet = c.packet-packet.result.now in
    wrote_as (step_of device (faces_at c.args.own.now)) _
    (dropped_is device (faces_at c.args.own.now) c.args.going
    c.requires.goes packet c.packet-packet.ensures c.in-Nowhere.is)
    c.show_form.ensures refl
    (rw c.port_at-from.ensures at c.write_drop.ensures)

pub returns-in-Port-clause-lists : goal.returns-in-Port-clause-lists
returns-in-Port-clause-lists g c =
    c.pass_on-in-Port.ensures.faces c.args.registers.now c.requires.goes

pub returns-in-Port-clause-registers : goal.returns-in-Port-clause-registers
returns-in-Port-clause-registers g c =
    let device = c.args.registers.now in
    sym (ap (switch_after device) (moved_is device (faces_at c.args.own.now) c.args.going
    c.requires.goes c.packet-packet.result.now c.packet-packet.ensures c.in-Port.to c.in-Port.is).0)

pub returns-in-Port-clause-wrote : goal.returns-in-Port-clause-wrote
returns-in-Port-clause-wrote g c =
    let device = c.args.registers.now in
    let packet = c.packet-packet.result.now in
    wrote_as (step_of device (faces_at c.args.own.now)) _
    (moved_is device (faces_at c.args.own.now) c.args.going
    c.requires.goes packet c.packet-packet.ensures c.in-Port.to c.in-Port.is).0
    c.show_form.ensures refl
    (rw (c.port_at-from.ensures, c.port_at.ensures) at c.write_move.ensures)

pub returns-in-RegisterUnit-clause-wrote : goal.returns-in-RegisterUnit-clause-wrote
returns-in-RegisterUnit-clause-wrote g c =
    let device = c.args.registers.now in
    let request = c.copy-request.result in
    let held = c.packet-packet.ensures ∙ ap Some (sym c.copy-request.ensures.same) in
    let passes = subst Passes (sym c.copy-request.ensures.same) c.show_form.ensures in
    wrote_as (step_of device (faces_at c.args.own.now)) _
    (c.answer-response.ensures.step request held) (passes, c.show_form-in-RegisterUnit.ensures) refl
    (rw c.port_at-from.ensures at c.write_answer.ensures)
