use Rattle.std.proofs.Common.{refl}
use Rattle.fabric_model.specs.Network.{port_of}
use Rattle.switch_core.specs.declared.endpoint.Collected.TheVariants as Collects
use Rattle.fabric_ports.proofs.CollectLaws.{did_collect}
use Rattle.fabric_ports.proofs.DeviceLaws.{kind_read}
use Rattle.fabric_ports.proofs.NodeLaws.{device_read, has_both, port_read}
use Rattle.fabric_ports.proofs.fabric.Fabric.collect.Goals as goal

pub endpoint_collect-requires : goal.endpoint_collect-requires
endpoint_collect-requires g c =
    kind_read c.requires.endpoint (device_read c.args.self.now.devices.items
    c.requires.endpoint.stands c.from.ensures c.index_mut-registers.ensures.value)

pub returns-in-Left : goal.returns-in-Left
returns-in-Left g c = λ s shows sent by.
    let packet = c.in-Left.packet in
    did_collect (Collects.Left packet) shows sent c.requires.endpoint
    (device_read c.args.self.now.devices.items c.requires.endpoint.stands c.from.ensures
    c.index_mut-registers.ensures.value) (port_read shows
    c.requires.endpoint c.place-place.ensures.place c.index_mut.ensures.value)
    (record {
      by_lists = c.in-Left.ensures.collected;
      face = c.in-Left.ensures.face;
      registers = c.in-Left.ensures.registers;
      same = c.in-Left.ensures.device;
      alike = c.in-Left.ensures.alike;
      forms = c.show_form.ensures;
    }) (has_both c.args.self.now (port_of c.args.node)
    c.endpoint_collect.new.registers c.endpoint_collect.new.port c.place-place.ensures.place
    c.from.ensures (c.deref.ensures.value, c.wake_port.ensures))
    refl c.write_leave.ensures

pub returns-in-Answered : goal.returns-in-Answered
returns-in-Answered g c = λ s shows sent by.
    let request = c.in-Answered.request in
    let response = c.in-Answered.response in
    did_collect (Collects.Answered request response) shows sent c.requires.endpoint
    (device_read c.args.self.now.devices.items c.requires.endpoint.stands c.from.ensures
    c.index_mut-registers.ensures.value) (port_read shows
    c.requires.endpoint c.place-place.ensures.place c.index_mut.ensures.value)
    (record {
      by_lists = c.in-Answered.ensures.collected;
      face = c.in-Answered.ensures.face;
      registers = c.in-Answered.ensures.registers;
      same = c.in-Answered.ensures.device;
      alike = c.in-Answered.ensures.alike;
      forms = (c.show_form-in-Answered.ensures, c.show_form-in-Answered-2.ensures);
    }) (has_both c.args.self.now (port_of c.args.node)
    c.endpoint_collect.new.registers c.endpoint_collect.new.port c.place-place.ensures.place
    c.from.ensures (c.deref.ensures.value, c.wake_port.ensures))
    refl c.write_answer.ensures

pub returns-in-Empty : goal.returns-in-Empty
returns-in-Empty g c = λ s shows sent by. did_collect Collects.Empty shows sent c.requires.endpoint
    (device_read c.args.self.now.devices.items c.requires.endpoint.stands c.from.ensures
    c.index_mut-registers.ensures.value) (port_read shows
    c.requires.endpoint c.place-place.ensures.place c.index_mut.ensures.value)
    (record {
      by_lists = c.in-Empty.ensures.collected;
      face = c.in-Empty.ensures.face;
      registers = c.in-Empty.ensures.registers;
      same = c.in-Empty.ensures.device;
      alike = c.in-Empty.ensures.alike;
      forms = tt;
    }) (has_both c.args.self.now (port_of c.args.node)
    c.endpoint_collect.new.registers c.endpoint_collect.new.port c.place-place.ensures.place
    c.from.ensures (c.deref.ensures.value, c.wake_port.ensures))
    refl c.write_lack.ensures

pub returns-in-Full : goal.returns-in-Full
returns-in-Full g c = λ s shows sent by. did_collect Collects.Full shows sent c.requires.endpoint
    (device_read c.args.self.now.devices.items c.requires.endpoint.stands c.from.ensures
    c.index_mut-registers.ensures.value) (port_read shows
    c.requires.endpoint c.place-place.ensures.place c.index_mut.ensures.value)
    (record {
      by_lists = c.in-Full.ensures.collected;
      face = c.in-Full.ensures.face;
      registers = c.in-Full.ensures.registers;
      same = c.in-Full.ensures.device;
      alike = c.in-Full.ensures.alike;
      forms = tt;
    }) (has_both c.args.self.now (port_of c.args.node)
    c.endpoint_collect.new.registers c.endpoint_collect.new.port c.place-place.ensures.place
    c.from.ensures (c.deref.ensures.value, c.wake_port.ensures))
    refl c.write_lack-in-Full.ensures
