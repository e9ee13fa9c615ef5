-- Two hosts that are linked to each other: the least fabric that two contest.
use Rattle.std.specs.Prelude.{ℕ, true, List, [], ◌∷◌, ◌++◌}
use Rattle.maint_registers.specs.Devices.{Registers, new_endpoint}
use Rattle.fabric_map.specs.Plain.{topology_of, registers_of}
use Rattle.host_enumerate.specs.Examples.{pair_links}
use Rattle.link_watch.specs.declared.side.Side.{Side}
use Rattle.link_watch.specs.declared.side.Side.TheVariants.{A, B}
use Rattle.host_enumerate.specs.declared.maint.Access.TheVariants.{Read}
use Rattle.fabric_map.specs.declared.map.Kind.TheVariants.{Endpoint}
use Rattle.fabric_map.specs.declared.map.Device.{Device}
use Rattle.contest_machine.specs.declared.stages.Asked.{Asked}
use Rattle.contest_machine.specs.Machine.{Walker, State, new_walker, asked}
use Rattle.contest_machine.specs.Turns.{Both, after_turns}
use Rattle.contest_machine.specs.Locks.{walker_of}

-- an endpoint with a link, and a lock in it
abbrev pub endpoint_locked : ℕ → ℕ → Registers
endpoint_locked id lock = record (new_endpoint id true) { lock = lock }

-- the host of a node, with an ID, that has asked nothing yet
abbrev pub beginner : ℕ → ℕ → Walker
beginner host id =
    new_walker (topology_of (new_endpoint 5 true ∷ new_endpoint 7 true ∷ []) pair_links host) id

-- the hosts 5 and 7, the first of which has this lock
abbrev pub two_hosts : ℕ → Both
two_hosts lock = record {
  first = beginner 0 5;
  second = beginner 1 7;
  registers = registers_of (endpoint_locked 5 lock ∷ new_endpoint 7 true ∷ []);
}

-- four turns of the first, and three of the second
abbrev pub till_waiting : List Side
till_waiting = A ∷ B ∷ A ∷ B ∷ A ∷ B ∷ A ∷ []

-- five turns of each, in turn
abbrev pub five_each : List Side
five_each = A ∷ B ∷ A ∷ B ∷ A ∷ B ∷ A ∷ B ∷ A ∷ B ∷ []

-- and five more of the second
abbrev pub till_done : List Side
till_done = five_each ++ (B ∷ B ∷ B ∷ B ∷ B ∷ [])

-- The map of the host 7: it is the first. The other has the least ID that is free.
abbrev pub map_of_seven : List Device
map_of_seven =
    record { tag = 1; kind = Endpoint 7; path = [] }
    ∷ record { tag = 2; kind = Endpoint 0; path = 0 ∷ [] }
    ∷ []

-- the host 7 has taken in itself
abbrev pub host_waiting : Both
host_waiting = after_turns (two_hosts 0xffff) till_waiting

abbrev pub waiting_host : Walker
waiting_host = walker_of host_waiting B

-- it reads the lock of its neighbour
abbrev pub lock_asked : Asked
lock_asked = asked (0 ∷ []) (Read 0x68)

-- the host 5 and the registers of both, as nobody else makes an access
abbrev pub host_five_alone : ℕ → State
host_five_alone lock = record {
  walker = record (beginner 0 5) { begun = true };
  registers = (two_hosts lock).registers;
}

-- The map of the host 5: the other has the least ID that is free.
abbrev pub map_of_five : List Device
map_of_five =
    record { tag = 1; kind = Endpoint 5; path = [] }
    ∷ record { tag = 2; kind = Endpoint 0; path = 0 ∷ [] }
    ∷ []
