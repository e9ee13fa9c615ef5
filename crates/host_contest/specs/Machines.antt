-- What the code keeps of a walker, as the machine.
use Rattle.std.specs.Prelude.{ℕ, ◌++◌, ◌==◌, [], ◌∷◌, ◌&&◌, Bool, true, false, nat_lt, List, Option, Some, None, if◌then◌else◌}
use Rattle.fabric_map.specs.declared.map.Kind.{Kind}
use Rattle.fabric_map.specs.Topology.{Topology}
use Rattle.host_enumerate.specs.Underway.{met_as}
use Rattle.contest_machine.specs.declared.stages.PendingWrite.{PendingWrite}
use Rattle.contest_machine.specs.declared.stages.Tried.{Tried}
use Rattle.contest_machine.specs.declared.stages.Stage.{Stage}
use Rattle.contest_machine.specs.declared.stages.Stage.TheVariants.{Ask, Claim, Check, Test, Features, Information, Status, Free, Done, Lost}
use Rattle.contest_machine.specs.Machine.{Walker, home_set, port_after}
pub use Rattle.contest_machine.specs.Machine.{new_walker}
use Rattle.host_contest.specs.declared.machine.Machine.{Machine}

-- the walker, with the fabric as its host sees it
abbrev pub machine_of : Topology → Machine → Walker
machine_of view machine = record {
  view = view;
  id = machine.id;
  begun = machine.begun;
  devices = machine.map.devices.items;
  next = machine.next;
  path = machine.path;
  tried = machine.tried;
  todo = machine.todo;
  stage = machine.stage;
}

-- the device on its path is the next of its list
abbrev pub device_added : Walker → Kind → Walker
device_added w kind = record w { devices = w.devices ++ met_as w.devices kind w.path ∷ [] }

-- the switch on its path is to send packets home
abbrev pub with_home : Walker → ℕ → Walker
with_home w entry = record w { todo = home_set w.path w.id entry }

-- the port of a switch that is tried first
abbrev pub first_port : ℕ → ℕ
first_port entry = if entry == 0 then 1 else 0

-- and its ports are tried
abbrev pub with_tried : Walker → ℕ → ℕ → Walker
with_tried w ports entry = record w {
  tried = record { path = w.path; ports = ports; entry = entry; port = first_port entry } ∷ w.tried;
}

-- the port that is tried next, if the switch has it
abbrev pub port_left : Tried → Option ℕ
port_left top =
    if nat_lt (port_after top.entry top.port) top.ports
    then Some (port_after top.entry top.port)
    else None

-- nothing is left to be written
abbrev pub is_clear : List PendingWrite → Bool
is_clear [] = true
is_clear (p ∷ rest) = false

-- it asks nothing any more, and has numbered the fabric or not
abbrev pub is_last_stage : Stage → Bool
is_last_stage Ask = false
is_last_stage Claim = false
is_last_stage Check = false
is_last_stage Test = false
is_last_stage Features = false
is_last_stage Information = false
is_last_stage Status = false
is_last_stage Free = false
is_last_stage Done = true
is_last_stage Lost = true

abbrev pub is_numbered : Stage → Bool
is_numbered Ask = false
is_numbered Claim = false
is_numbered Check = false
is_numbered Test = false
is_numbered Features = false
is_numbered Information = false
is_numbered Status = false
is_numbered Free = false
is_numbered Done = true
is_numbered Lost = false

-- the walker has ended
abbrev pub has_ended : Machine → Bool
has_ended machine = is_last_stage machine.stage && is_clear machine.todo

-- and has numbered the fabric
abbrev pub machine_is_done : Machine → Bool
machine_is_done machine = is_numbered machine.stage && is_clear machine.todo
