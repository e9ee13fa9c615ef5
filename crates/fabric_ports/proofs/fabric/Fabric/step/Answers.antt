use Rattle.std.proofs.Common.{◌<◌, List, length, Some, None, rules, refl, subst, ap, ◌∙◌, arith}
use Rattle.std.proofs.lemmas.Option.{slice_get_within}
use Rattle.link_port.specs.Ports.{PortState}
use Rattle.fabric_ports.specs.Idling.{IsMarkedAt}
use Rattle.fabric_ports.proofs.DeviceLaws.{switch_read}
use Rattle.fabric_ports.proofs.IdleLaws.{with_switch_mark, marks_of_devices, marked_read, unmarked_read}
use Rattle.fabric_ports.proofs.NodeLaws.{device_read}
use Rattle.fabric_ports.proofs.Rows.{as_many_firsts}
use Rattle.fabric_ports.proofs.StepEnds.{did_rest, row_read, woke_passed, passed_within, did_switch}
use Rattle.fabric_ports.proofs.fabric.Fabric.step.Goals as goal

pub returns-then-index : goal.returns-then-index
returns-then-index g c = λ s shows sent by.
    let at = slice_get_within c.args.self.now.devices.items c.args.node c.requires.switch.device
    c.requires.switch.stands in
    let marked = marked_read c.args.self.now.idle.switches.items c.from.result c.index.result.now
    (omega (arith, at, marks_of_devices shows, c.from.ensures)) c.index.ensures c.if-index.true in
    did_rest c.args.writer.now c.args.node shows sent
    (subst (IsMarkedAt c.args.self.now.idle.switches.items) c.from.ensures marked)

pub index-first-requires : goal.index-first-requires
index-first-requires g c =
    let at = slice_get_within c.args.self.now.devices.items c.args.node c.requires.switch.device
    c.requires.switch.stands in
    let many = as_many_firsts 0 c.args.self.now.devices.items c.args.self.now.firsts.items
    c.requires.shown.1.firsts in
    let same = c.from-2.ensures in
    let here : c.from-2.result < length c.args.self.now.firsts.items =
    omega (arith, at, many, same) in
    search rules

pub index_mut-registers-requires : goal.index_mut-registers-requires
index_mut-registers-requires g c =
    let at = slice_get_within c.args.self.now.devices.items c.args.node c.requires.switch.device
    c.requires.switch.stands in
    let same = c.from-3.ensures in
    let here : c.from-3.result < length c.args.self.now.devices.items = omega (arith, at, same) in
    search rules

pub step_from-requires-clause-within : goal.step_from-requires-clause-within
step_from-requires-clause-within g c =
    let row = row_read c.requires.shown.1 (device_read c.args.self.now.devices.items
    c.requires.switch.stands c.from-3.ensures c.index_mut-registers.ensures.value) c.from-2.ensures
    c.index-first.ensures in
    let same = ap (λ (l : List PortState). length l) c.deref_mut.ensures.value in
    omega (arith, row.1, same)

pub index_mut-requires : goal.index_mut-requires
index_mut-requires g c =
    let at = slice_get_within c.args.self.now.devices.items c.args.node c.requires.switch.device
    c.requires.switch.stands in
    let many = marks_of_devices c.requires.shown.1 in
    let same = c.from-in_default.ensures in
    let here : c.from-in_default.result < length c.args.self.now.idle.switches.items =
    omega (arith, at, many, same) in
    search rules

pub wake_going-requires : goal.wake_going-requires
wake_going-requires g c = λ place passed.
    let row = row_read c.requires.shown.1 (device_read c.args.self.now.devices.items
    c.requires.switch.stands c.from-3.ensures c.index_mut-registers.ensures.value) c.from-2.ensures
    c.index-first.ensures in
    let within = passed_within c.args.self.now c.index-first.result.now row.1
    c.deref_mut.ensures.value c.in-Some.ensures.goes place passed in
    omega (
      arith,
      row.1,
      within,
      c.args.self.now.ports.ok.0,
      c.len.ensures,
      c.if-prove.false,
    )

pub returns-in_default : goal.returns-in_default
returns-in_default g c = λ s shows sent by.
    let stands = device_read c.args.self.now.devices.items c.requires.switch.stands
    c.from-3.ensures c.index_mut-registers.ensures.value in
    let row = row_read shows stands c.from-2.ensures c.index-first.ensures in
    did_switch c.args.node None _ shows sent by (switch_read c.requires.switch stands) stands
    c.from-3.ensures row.0 row.1 c.deref_mut.ensures.value c.in_default.ensures.made
    c.in_default.ensures.going c.in_default.ensures.wrote refl
    (ap (with_switch_mark c.args.self.now.idle) c.from-in_default.ensures)

pub returns : goal.returns
returns g c = λ s shows sent by.
    let stands = device_read c.args.self.now.devices.items c.requires.switch.stands
    c.from-3.ensures c.index_mut-registers.ensures.value in
    let row = row_read shows stands c.from-2.ensures c.index-first.ensures in
    let at = slice_get_within c.args.self.now.devices.items c.args.node c.requires.switch.device
    c.requires.switch.stands in
    let unmarked = unmarked_read c.args.self.now.idle.switches.items c.from.result
    c.index.result.now (omega (arith, at, marks_of_devices shows, c.from.ensures)) c.index.ensures
    c.if-index.false in
    did_switch c.args.node (Some c.in-Some.going) c.wake_going.new.self shows sent by
    (switch_read c.requires.switch stands) stands c.from-3.ensures row.0 row.1
    c.deref_mut.ensures.value c.in-Some.ensures.made c.in-Some.ensures.going
    c.in-Some.ensures.wrote refl (
      subst (λ n. ¬ IsMarkedAt c.args.self.now.idle.switches.items n) c.from.ensures unmarked,
      woke_passed c.args.self.now c.index-first.result.now c.in-Some.going c.wake_going.new.self
          c.deref.ensures.value c.wake_going.ensures,
    )
