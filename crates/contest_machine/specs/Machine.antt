-- A walker of a contested fabric as a machine: what it asks next, and what it does with the answer.
-- How an access travels is not said here. What is written is made a list at the read that decides
-- it, and is then written one access at a time.
use Rattle.std.specs.Prelude.{ℕ, zero, suc, ◌+◌, ◌*◌, ◌/◌, ◌%◌, ◌==◌, nat_lt, Bool, false, List, [], ◌∷◌, ◌++◌, length, flat_map, Option, Some, None, if◌then◌else◌}
use Rattle.fabric_script.specs.declared.ports.PortRef.{PortRef}
use Rattle.fabric_map.specs.declared.map.Kind.{Kind}
use Rattle.fabric_map.specs.declared.map.Kind.TheVariants.{Endpoint, Switch}
use Rattle.fabric_map.specs.declared.map.Device.{Device}
use Rattle.fabric_map.specs.Topology.{Topology, entered}
use Rattle.fabric_map.specs.Walked.{onward}
use Rattle.fabric_map.specs.Routes.{AllRegisters}
use Rattle.fabric_map.specs.Numbered.{paths_of, toward}
use Rattle.host_enumerate.specs.declared.maint.Access.{Access}
use Rattle.host_enumerate.specs.declared.maint.Access.TheVariants.{Read, Write}
use Rattle.host_enumerate.specs.Accesses.{answered, after_access}
use Rattle.host_enumerate.specs.Underway.{id_after, met_as}
use Rattle.contest_machine.specs.declared.stages.Asked.{Asked}
use Rattle.contest_machine.specs.declared.stages.PendingWrite.{PendingWrite}
use Rattle.contest_machine.specs.declared.stages.Tried.{Tried}
use Rattle.contest_machine.specs.declared.stages.Stage.{Stage}
use Rattle.contest_machine.specs.declared.stages.Stage.TheVariants.{Ask, Claim, Check, Test, Features, Information, Status, Free, Done, Lost}

-- `view` is the fabric as its host sees it. `devices` are those that were taken in, `next` is the
-- ID
-- that is given next. `path` is tried; `tried` are the switches on the way to it, the last first.
-- `begun` says that it has had a turn.
pub record Walker : Type 0 where
  pub view : Topology
  pub id : ℕ
  pub begun : Bool
  pub devices : List Device
  pub next : ℕ
  pub path : List ℕ
  pub tried : List Tried
  pub todo : List PendingWrite
  pub stage : Stage

-- a walker that has asked nothing yet
abbrev pub new_walker : Topology → ℕ → Walker
new_walker view id = record {
  view = view;
  id = id;
  begun = false;
  devices = [];
  next = 0;
  path = [];
  tried = [];
  todo = [];
  stage = Ask;
}

-- the device that is kept and not in the list yet
abbrev pub fresh : Stage → List ℕ → List (List ℕ)
fresh Ask path = []
fresh Claim path = []
fresh Check path = []
fresh Test path = []
fresh Features path = path ∷ []
fresh Information path = path ∷ []
fresh Status path = []
fresh Free path = []
fresh Done path = []
fresh Lost path = []

-- the paths of the devices that a walker keeps
abbrev pub kept : Walker → List (List ℕ)
kept w = paths_of w.devices ++ fresh w.stage w.path

abbrev pub write : List ℕ → ℕ → ℕ → PendingWrite
write path offset value = record { path = path; offset = offset; value = value }

-- the entry of a destination is set
abbrev pub entry_set : List ℕ → ℕ → ℕ → List PendingWrite
entry_set path id port = write path 0x70 id ∷ write path 0x74 port ∷ []

-- in a switch on a path, the entry of an ID is set to the port by which another path goes on
abbrev pub route_of : List ℕ → ℕ → Kind → Option ℕ → List PendingWrite
route_of at id (Endpoint given) port = []
route_of at id (Switch ports entry) None = []
route_of at id (Switch ports entry) (Some port) = entry_set at id port

abbrev pub route_pending : List ℕ → ℕ → Device → List PendingWrite
route_pending path id device = route_of device.path id device.kind (toward device.path path)

abbrev pub routes_to : List Device → List ℕ → ℕ → List PendingWrite
routes_to devices path id = flat_map (route_pending path id) devices

-- the entries of the IDs below a number, but the host's, are cleared
abbrev pub cleared_below : List ℕ → ℕ → ℕ → List PendingWrite
cleared_below path host_id zero = []
cleared_below path host_id (suc n) =
    cleared_below path host_id n ++ (if n == host_id then [] else entry_set path n 255)

abbrev pub home_set : List ℕ → ℕ → ℕ → List PendingWrite
home_set path host_id entry =
    write path 0x78 entry ∷ (cleared_below path host_id 63 ++ entry_set path host_id entry)

abbrev pub last_path : List Device → List ℕ
last_path [] = []
last_path (device ∷ []) = device.path
last_path (device ∷ second ∷ rest) = last_path (second ∷ rest)

abbrev pub but_last : List Device → List Device
but_last [] = []
but_last (device ∷ []) = []
but_last (device ∷ second ∷ rest) = device ∷ but_last (second ∷ rest)

-- the walker frees the last of these devices next, or has freed all
abbrev pub freeing : Walker → List Device → Walker
freeing w [] = record w { devices = []; tried = []; todo = []; stage = Lost }
freeing w (device ∷ rest) =
    record w {
      devices = device ∷ rest;
      tried = [];
      todo = routes_to (device ∷ rest) (last_path (device ∷ rest)) 255;
      stage = Free;
    }

-- the port after this one that is not the entry port
abbrev pub port_after : ℕ → ℕ → ℕ
port_after entry port = if port + 1 == entry then port + 2 else port + 1

-- the port that is tried is done, and so is a switch without another
abbrev pub gone_on : Walker → List Tried → Walker
gone_on w [] = record w { tried = []; stage = Done }
gone_on w (top ∷ rest) =
    if nat_lt (port_after top.entry top.port) top.ports
    then record w {
      tried = record top { port = port_after top.entry top.port } ∷ rest;
      stage = Status;
    }
    else gone_on w rest

-- The device is kept from now on. The host writes its own ID first.
abbrev pub own_id : ℕ → List ℕ → List PendingWrite
own_id id [] = write [] 0x60 (id * 0x10000) ∷ []
own_id id (port ∷ rest) = []

abbrev pub taken : Walker → Walker
taken w =
    record w {
      todo = own_id w.id w.path ++ write w.path 0x6c (length w.devices + 1) ∷ [];
      stage = Features;
    }

-- what a lock tells that is not the walker's own
abbrev pub judged : Walker → ℕ → Walker
judged w lock =
    if lock == 0xffff then record w { stage = Claim }
    else (if nat_lt w.id lock then freeing w w.devices else record w { stage = Ask })

-- an endpoint is taken in
abbrev pub numbered : Walker → List ℕ → Walker
numbered w [] =
    record w {
      devices = w.devices ++ met_as w.devices (Endpoint w.id) w.path ∷ [];
      path = 0 ∷ [];
      stage = Ask;
    }
numbered w (first ∷ rest) =
    gone_on (record w {
      devices = w.devices ++ met_as w.devices (Endpoint (id_after w.id w.next)) w.path ∷ [];
      next = id_after w.id w.next + 1;
      todo = write w.path 0x60 (id_after w.id w.next * 0x10000)
          ∷ routes_to w.devices w.path (id_after w.id w.next);
    }) w.tried

-- a switch is taken in
abbrev pub switch_set_up : Walker → ℕ → ℕ → Walker
switch_set_up w ports entry =
    record w {
      devices = w.devices ++ met_as w.devices (Switch ports entry) w.path ∷ [];
      todo = home_set w.path w.id entry;
      tried = record {
        path = w.path;
        ports = ports;
        entry = entry;
        port = (if entry == 0 then 1 else 0);
      }
          ∷ w.tried;
      stage = Status;
    }

-- the device behind a port is tried next
abbrev pub outward : Walker → List Tried → Walker
outward w [] = record w { stage = Done }
outward w (top ∷ rest) =
    record w {
      path = onward top.path top.port;
      todo = entry_set top.path 255 top.port;
      stage = Ask;
    }

abbrev pub asked : List ℕ → Access → Asked
asked path access = record { path = path; access = access }

abbrev pub status_asked : List Tried → Option Asked
status_asked [] = None
status_asked (top ∷ rest) = Some (asked top.path (Read (0x158 + 0x20 * top.port)))

abbrev pub wants_at : Walker → Stage → Option Asked
wants_at w Ask = Some (asked w.path (Read 0x68))
wants_at w Claim = Some (asked w.path (Write 0x68 w.id))
wants_at w Check = Some (asked w.path (Read 0x68))
wants_at w Test = Some (asked w.path (Read 0x6c))
wants_at w Features = Some (asked w.path (Read 0x10))
wants_at w Information = Some (asked w.path (Read 0x14))
wants_at w Status = status_asked w.tried
wants_at w Free = Some (asked (last_path w.devices) (Write 0x68 w.id))
wants_at w Done = None
wants_at w Lost = None

abbrev pub wants_with : Walker → List PendingWrite → Option Asked
wants_with w [] = wants_at w w.stage
wants_with w (p ∷ rest) = Some (asked p.path (Write p.offset p.value))

-- the next access of a walker, if it has not ended: the first write that is left, or by its stage
abbrev pub wants : Walker → Option Asked
wants w = wants_with w w.todo

abbrev pub told_at : Walker → ℕ → Stage → Walker
told_at w value Ask = if value == w.id then record w { stage = Test } else judged w value
told_at w value Claim = record w { stage = Check }
told_at w value Check = if value == w.id then taken w else judged w value
told_at w value Test = if value == 0 then taken w else gone_on w w.tried
told_at w value Features =
    if value / 0x10000000 % 2 == 1 then record w { stage = Information } else numbered w w.path
told_at w value Information = switch_set_up w (value / 0x100 % 0x100) (value % 0x100)
told_at w value Status = if value == 2 then outward w w.tried else gone_on w w.tried
told_at w value Free = freeing w (but_last w.devices)
told_at w value Done = w
told_at w value Lost = w

-- The host's own features are not read: once its writes are made, it is taken in.
abbrev pub settled : Walker → List PendingWrite → Stage → List ℕ → Walker
settled w [] Features [] = numbered (record w { todo = [] }) []
settled w rest stage path = record w { todo = rest }

abbrev pub told_with : Walker → ℕ → List PendingWrite → Walker
told_with w value [] = told_at w value w.stage
told_with w value (p ∷ rest) = settled w rest w.stage w.path

-- the walker after this answer
abbrev pub walker_told : Walker → ℕ → Walker
walker_told w value = told_with w value w.todo

-- a walker, and the registers of all devices
pub record State : Type 0 where
  pub walker : Walker
  pub registers : AllRegisters

-- the device that is reached answers
abbrev pub reached : Walker → AllRegisters → Asked → Option PortRef → State
reached w registers ask None = record { walker = w; registers = registers }
reached w registers ask (Some at) = record {
  walker = walker_told w (answered (registers at.node) at.port ask.access).answer.value;
  registers = after_access registers at ask.access;
}

-- what it asks is answered by the device to which its path leads
abbrev pub reaches : Walker → AllRegisters → Option Asked → State
reaches w registers None = record { walker = w; registers = registers }
reaches w registers (Some ask) = reached w registers ask (entered w.view ask.path)

-- One access, which the device on the path answers.
abbrev pub stepped : Walker → AllRegisters → State
stepped w registers = reaches w registers (wants w)
