-- Walkers of a fabric.
use Rattle.std.specs.Prelude.{◌≡◌, ℕ, ◌+◌, ◌-◌, ◌^◌, min, true}
use Rattle.fabric_map.specs.Topology.{Topology}
use Rattle.fabric_map.specs.Numbered.{entries_of}
use Rattle.contest_machine.specs.declared.stages.Turn.{Turn}
use Rattle.contest_machine.specs.declared.stages.Turn.TheVariants.{Going, Waiting, Done, Lost}
use Rattle.contest_machine.specs.Machine as machines
use Rattle.host_contest.specs.declared.walker.Walker.{Walker}
use Rattle.host_contest.specs.Machines.{machine_of, machine_is_done}

-- a walker as the machine, whose host sees the fabric so
abbrev pub machine_in : Topology → Walker → machines.Walker
machine_in view walker = machine_of view walker.machine

-- the map of a walker that is done has the entries of its devices
abbrev pub HasEntries : Walker → Type 0
HasEntries walker = machine_is_done walker.machine ≡ true
    → walker.machine.map.entries.items ≡ entries_of walker.machine.map.devices.items

-- how many turns answered Going, with this one, up to the greatest count
abbrev pub going_after : ℕ → Turn → ℕ
going_after going Going = min (going + 1) (2 ^ 32 - 1)
going_after going Waiting = going
going_after going Done = going
going_after going Lost = going
