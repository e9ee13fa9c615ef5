-- What an endpoint collects where its first packet is a request.
use Rattle.std.proofs.Common.{◌≡◌, ℕ, ◌+◌, min, true, false, Some, List, ap, sym, ◌∙◌, if◌then◌else◌}
use Rattle.maint_registers.specs.Devices.{Registers}
use Rattle.maint_packets.specs.declared.request.Request.{Request}
use Rattle.maint_packets.specs.Requests.{request_of}
use Rattle.maint_packets.specs.Responses.{response_bytes}
use Rattle.maint_packets.specs.Answers.{request_answered}
use Rattle.switch_core.specs.declared.endpoint.Collected.TheVariants.{Answered, Full}
use Rattle.switch_core.specs.Faces.{Face, has_room}
use Rattle.switch_core.specs.EndpointSteps.{first_held, collected_of, collected_head, collected}
use Rattle.switch_core.proofs.RequestLaws.{answer_prio}

module _ (device : Registers) (face : Face) (packet : List ℕ) (request : Request)
    (held : first_held face ≡ Some packet) (asks : request_of packet ≡ Some request) where
  collected-is : collected device face
      ≡ (if has_room face (min (request.prio + 1) 3) then Answered packet
      (response_bytes (request_answered device request 0).response) else Full)
  collected-is =
      ap (collected_head device face) held ∙ ap (collected_of device face packet) asks
      ∙ ap (λ prio. if has_room face prio then Answered packet
      (response_bytes (request_answered device request 0).response) else Full)
      (answer_prio device request 0)

  pub full : has_room face (min (request.prio + 1) 3) ≡ false → Full ≡ collected device face
  full none =
      sym (collected-is
      ∙ ap (λ b. if b
      then Answered packet (response_bytes (request_answered device request 0).response)
      else Full) none)

  pub answers : has_room face (min (request.prio + 1) 3) ≡ true
      → Answered packet (response_bytes (request_answered device request 0).response)
      ≡ collected device face
  answers room =
      sym (collected-is
      ∙ ap (λ b. if b
      then Answered packet (response_bytes (request_answered device request 0).response)
      else Full) room)
