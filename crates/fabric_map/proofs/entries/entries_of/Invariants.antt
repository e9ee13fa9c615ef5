use Rattle.fabric_map.proofs.Prelude.{◌≡◌, take, flat_map, entries_at, given_ids}
use Rattle.fabric_map.proofs.entries.entries_of.Given as goal

abbrev pub invariant-loop-device : goal.invariant-loop-device
invariant-loop-device l =
    l.entries.items
    ≡ flat_map (entries_at l.devices (given_ids l.devices)) (take l.device-index l.devices)
