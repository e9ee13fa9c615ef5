-- The packet of a switch that goes first, by where it stands and where it goes.
use Rattle.std.specs.Prelude.{◌≡◌, ◌<◌, ◌+◌, ℕ, Bool, true, min, List, length, Option, Some, None}
use Rattle.rio_packets.specs.Fields.{prio_of}
use Rattle.maint_registers.specs.Devices.{Registers}
use Rattle.maint_packets.specs.declared.next_hop.Next.{Next}
use Rattle.maint_packets.specs.declared.next_hop.Next.TheVariants.{Nowhere, RegisterUnit, Port}
use Rattle.maint_packets.specs.NextHops.{next_of}
use Rattle.switch_core.specs.declared.going.Going.{Going}
use Rattle.switch_core.specs.declared.switch.Step.{Step}
use Rattle.switch_core.specs.declared.switch.Step.TheVariants.{Moved, Dropped, Answered, Nothing}
use Rattle.switch_core.specs.Faces.{Face, face_at, head_of, has_room}
use Rattle.switch_core.specs.SwitchSteps.{step_at, step_of}

-- where the packet of a step stands, and where it goes
abbrev pub going_of : Step → Option Going
going_of (Moved from to packet) =
    Some (record { port = from; prio = prio_of packet; next = Port to })
going_of (Dropped from packet) =
    Some (record { port = from; prio = prio_of packet; next = Nowhere })
going_of (Answered port request response) =
    Some (record { port = port; prio = prio_of request; next = RegisterUnit })
going_of Nothing = None

-- whether there is room for what becomes of a packet of a priority, which came on a port
abbrev pub has_place_by : List Face → ℕ → ℕ → Next → Bool
has_place_by faces port prio Nowhere = true
has_place_by faces port prio RegisterUnit = has_room (face_at faces port) (min (prio + 1) 3)
has_place_by faces port prio (Port to) = has_room (face_at faces to) prio

abbrev pub has_place : List Face → Going → Bool
has_place faces going = has_place_by faces going.port going.prio going.next

-- the first packet of its priority at its port goes there
pub record GoingStands (device : Registers) (faces : List Face) (going : Going) : Type 0 where
  pub packet : List ℕ
  pub port : going.port < length faces
  pub prio : going.prio < 4
  pub held : head_of (face_at faces going.port) going.prio ≡ Some packet
  pub own : prio_of packet ≡ going.prio
  pub next : next_of device packet ≡ going.next
  pub to : (to : ℕ) → going.next ≡ Port to → to < length faces

-- it makes the step of the switch
pub record Goes (device : Registers) (faces : List Face) (going : Going) : Type 0 where
  pub stands : GoingStands device faces going
  pub step : step_at device faces going.prio going.port ≡ Some (step_of device faces)
