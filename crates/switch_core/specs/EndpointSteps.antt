-- What an endpoint sends and collects.
use Rattle.std.specs.Prelude.{ℕ, List, Option, Some, None, if◌then◌else◌}
use Rattle.rio_packets.specs.Fields.{prio_of}
use Rattle.maint_registers.specs.Devices.{Registers}
use Rattle.maint_packets.specs.declared.request.Request.{Request}
use Rattle.maint_packets.specs.Requests.{request_of}
use Rattle.maint_packets.specs.Responses.{response_bytes}
use Rattle.maint_packets.specs.Answers.{request_answered}
use Rattle.switch_core.specs.declared.endpoint.Sent.{Sent}
use Rattle.switch_core.specs.declared.endpoint.Sent.TheVariants.{Taken, Full as NoPlace}
use Rattle.switch_core.specs.declared.endpoint.Collected.{Collected}
use Rattle.switch_core.specs.declared.endpoint.Collected.TheVariants.{Left, Answered, Empty, Full}
use Rattle.switch_core.specs.Faces.{Face, head_of, has_room, without_head, with_packet}
use Rattle.switch_core.specs.Order.{greatest_first}

-- whether a packet is taken to be sent
abbrev pub sent_by : Face → List ℕ → Sent
sent_by face packet = if has_room face (prio_of packet) then Taken else NoPlace

abbrev pub after_sent : Face → List ℕ → Face
after_sent face packet = if has_room face (prio_of packet) then with_packet face packet else face

-- the first packet of the highest priority that has one
abbrev pub first_held : Face → Option (List ℕ)
first_held face = greatest_first (head_of face) 4

-- the registers answer a request, on the one port, if there is room for the response
abbrev pub collected_of : Registers → Face → List ℕ → Option Request → Collected
collected_of device face packet None = Left packet
collected_of device face packet (Some request) =
    let response = response_bytes (request_answered device request 0).response in
    if has_room face (prio_of response) then Answered packet response else Full

abbrev pub collected_head : Registers → Face → Option (List ℕ) → Collected
collected_head device face None = Empty
collected_head device face (Some packet) = collected_of device face packet (request_of packet)

-- A request is answered, whatever its destination and its hop count. Any other packet leaves.
abbrev pub collected : Registers → Face → Collected
collected device face = collected_head device face (first_held face)

-- the lists after it
abbrev pub face_after : Face → Collected → Face
face_after face (Left packet) = without_head face (prio_of packet)
face_after face (Answered request response) =
    with_packet (without_head face (prio_of request)) response
face_after face Empty = face
face_after face Full = face

abbrev pub answered_on_0 : Registers → Option Request → Registers
answered_on_0 device None = device
answered_on_0 device (Some request) = (request_answered device request 0).device

-- the registers after it, which only an answer can change
abbrev pub endpoint_after : Registers → Collected → Registers
endpoint_after device (Answered request response) = answered_on_0 device (request_of request)
endpoint_after device (Left packet) = device
endpoint_after device Empty = device
endpoint_after device Full = device
