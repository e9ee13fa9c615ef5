-- The step of a switch: the first packet that can go, where it goes, and what it leaves (RapidIO
-- Interconnect
-- Specification 1.3, Part 3, routing; the order is this project's profile).
use Rattle.std.specs.Prelude.{ℕ, List, Option, Some, None, unwrap_or, if◌then◌else◌}
use Rattle.rio_packets.specs.Fields.{prio_of}
use Rattle.maint_registers.specs.Devices.{Registers}
use Rattle.maint_packets.specs.declared.next_hop.Next.{Next}
use Rattle.maint_packets.specs.declared.next_hop.Next.TheVariants.{Nowhere, RegisterUnit, Port}
use Rattle.maint_packets.specs.declared.request.Request.{Request}
use Rattle.maint_packets.specs.NextHops.{next_of, moved}
use Rattle.maint_packets.specs.Requests.{request_of}
use Rattle.maint_packets.specs.Responses.{response_bytes}
use Rattle.maint_packets.specs.Answers.{request_answered}
use Rattle.switch_core.specs.declared.switch.Step.{Step}
use Rattle.switch_core.specs.declared.switch.Step.TheVariants.{Moved, Dropped, Answered, Nothing}
use Rattle.switch_core.specs.Faces.{Face, face_at, head_of, has_room, taken_at, put_at}
use Rattle.switch_core.specs.Order.{least_first, greatest_first}

-- the registers answer a request, if the port on which it came has room for the response
abbrev pub answer_step : Registers → List Face → ℕ → List ℕ → Option Request → Option Step
answer_step device faces port packet None = None
answer_step device faces port packet (Some request) =
    let response = response_bytes (request_answered device request port).response in
    if has_room (face_at faces port) (prio_of response)
    then Some (Answered port packet response) else None

-- A packet that goes nowhere is dropped. One that goes to a port moves if there is room.
abbrev pub step_to : Registers → List Face → ℕ → List ℕ → Next → Option Step
step_to device faces port packet Nowhere = Some (Dropped port packet)
step_to device faces port packet RegisterUnit =
    answer_step device faces port packet (request_of packet)
step_to device faces port packet (Port to) =
    if has_room (face_at faces to) (prio_of packet) then Some (Moved port to packet) else None

abbrev pub step_of_head : Registers → List Face → ℕ → Option (List ℕ) → Option Step
step_of_head device faces port None = None
step_of_head device faces port (Some packet) =
    step_to device faces port packet (next_of device packet)

-- the step that the first packet of a priority at a port can make, if there is one and it can go
abbrev pub step_at : Registers → List Face → ℕ → ℕ → Option Step
step_at device faces prio port = step_of_head device faces port (head_of (face_at faces port) prio)

-- the first step that can be made: priorities from 3 down, and within each ports from 0 up
abbrev pub first_step : Registers → List Face → Option Step
first_step device faces =
    greatest_first (λ prio. least_first (step_at device faces prio) device.ports) 4

abbrev pub step_of : Registers → List Face → Step
step_of device faces = unwrap_or (first_step device faces) Nothing

-- what the ports have after a step
abbrev pub faces_after : List Face → Step → List Face
faces_after faces (Moved from to packet) =
    put_at (taken_at faces from (prio_of packet)) to (moved packet)
faces_after faces (Dropped from packet) = taken_at faces from (prio_of packet)
faces_after faces (Answered port request response) =
    put_at (taken_at faces port (prio_of request)) port response
faces_after faces Nothing = faces

abbrev pub answered_by : Registers → ℕ → Option Request → Registers
answered_by device port None = device
answered_by device port (Some request) = (request_answered device request port).device

-- the registers after a step, which only an answer can change
abbrev pub switch_after : Registers → Step → Registers
switch_after device (Answered port request response) = answered_by device port (request_of request)
switch_after device (Moved from to packet) = device
switch_after device (Dropped from packet) = device
switch_after device Nothing = device
