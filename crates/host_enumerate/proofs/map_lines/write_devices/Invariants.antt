use Rattle.host_enumerate.proofs.Prelude.{take, flat_map, Writes, device_text}
use Rattle.host_enumerate.proofs.map_lines.write_devices.Given as goal

abbrev pub invariant-loop-device : goal.invariant-loop-device
invariant-loop-device g l =
    Writes l.initial.outbox l.outbox
    (flat_map device_text (take l.device-index l.devices))
