-- When a walker can make an access, and the state that it and the devices are in.
use Rattle.std.specs.Prelude.{◌<◌}
use Rattle.fabric_map.specs.Topology.{Topology, IsTopology}
use Rattle.fabric_map.specs.Routes.{AllRegisters}
use Rattle.contest_machine.specs.Machine.{State}
use Rattle.contest_machine.specs.Contest.{IsMine}
use Rattle.contest_machine.specs.Within.{WalkerIsWithin}
use Rattle.host_contest.specs.declared.machine.Machine.{Machine}
use Rattle.host_contest.specs.Machines.{machine_of}
use Rattle.host_contest.specs.Reaching.{AreLow}

abbrev pub state_in : Topology → AllRegisters → Machine → State
state_in view registers machine = record {
  walker = machine_of view machine;
  registers = registers;
}

-- The links join ports of devices, what the walker keeps bears its ID, its list and its paths are
-- no longer than they can be, and what it writes has an offset that a request can name.
pub record CanStep (view : Topology) (registers : AllRegisters) (machine : Machine) : Type 0 where
  pub topology : IsTopology view
  pub id : machine.id < 0xff
  pub mine : IsMine (machine_of view machine) registers
  pub within : WalkerIsWithin (machine_of view machine)
  pub low : AreLow machine.todo
