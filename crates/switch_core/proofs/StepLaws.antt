-- The step of a first packet.
use Rattle.std.proofs.Common.{◌≡◌, ℕ, ◌+◌, min, true, false, Bool, Some, None, is_some, List, refl, sym, ap, ◌∙◌, if◌then◌else◌}
use Rattle.rio_packets.specs.Fields.{prio_of, is_request}
use Rattle.maint_registers.specs.Devices.{Registers}
use Rattle.maint_packets.specs.declared.next_hop.Next.{Next}
use Rattle.maint_packets.specs.declared.next_hop.Next.TheVariants.{RegisterUnit, Port}
use Rattle.maint_packets.specs.declared.request.Request.{Request}
use Rattle.maint_packets.specs.NextHops.{next_of}
use Rattle.maint_packets.specs.Requests.{request_of}
use Rattle.maint_packets.specs.Responses.{response_bytes}
use Rattle.maint_packets.specs.Answers.{request_answered}
use Rattle.switch_core.specs.declared.switch.Step.TheVariants.{Moved, Answered}
use Rattle.switch_core.specs.Faces.{Face, face_at, head_of, has_room}
use Rattle.switch_core.specs.SwitchSteps.{answer_step, step_to, step_of_head, step_at}
use Rattle.switch_core.proofs.RequestLaws.{request_prio, request_there, answer_prio}

is_some-if : {A : Type 0} (b : Bool) (x : A) → b ≡ is_some (if b then Some x else None)
is_some-if true x = refl
is_some-if false x = refl

module _ (device : Registers) (faces : List Face) (prio port : ℕ) (packet : List ℕ)
    (head : head_of (face_at faces port) prio ≡ Some packet) (same : prio_of packet ≡ prio) where
  -- the step goes by where the packet goes next
  pub step_at-next : (next : Next) → next_of device packet ≡ next → step_at device faces prio port
      ≡ step_to device faces port packet next
  step_at-next next is = ap (step_of_head device faces port) head
      ∙ ap (step_to device faces port packet) is

  -- a move needs room at the port that it goes to
  pub can_move : (to : ℕ) (room : Bool) → next_of device packet ≡ Port to → room
      ≡ has_room (face_at faces to) prio
      → room ≡ is_some (step_at device faces prio port)
  can_move to room next is =
      is ∙ ap (has_room (face_at faces to)) (sym same)
      ∙ is_some-if (has_room (face_at faces to) (prio_of packet)) (Moved port to packet)
      ∙ ap is_some (sym (step_at-next (Port to) next))

  -- the step of a request to the registers
  pub step_at-answer : (request : Request) → next_of device packet ≡ RegisterUnit
      → request_of packet ≡ Some request
      → step_at device faces prio port
      ≡ (if has_room (face_at faces port) (min (prio + 1) 3) then Some
      (Answered port packet (response_bytes (request_answered device request port).response))
      else None)
  step_at-answer request next is =
      let response = response_bytes (request_answered device request port).response in
      let its : prio_of response ≡ min (prio + 1) 3 =
      answer_prio device request port
      ∙ ap (λ n. min (n + 1) 3) (request_prio packet request is ∙ same) in
      step_at-next RegisterUnit next ∙ ap (answer_step device faces port packet) is
      ∙ ap (λ n. if has_room (face_at faces port) n then Some (Answered port packet response) else
      None) its

  -- an answer needs room for the response at the port on which the request came
  pub can_answer : (room : Bool) → next_of device packet ≡ RegisterUnit → is_request packet ≡ true
      → room ≡ has_room (face_at faces port) (min (prio + 1) 3) → room
      ≡ is_some (step_at device faces prio port)
  can_answer room next asks is =
      let found = request_there packet asks in
      let request = found.0 in
      is ∙ is_some-if (has_room (face_at faces port) (min (prio + 1) 3))
      (Answered port packet (response_bytes (request_answered device request port).response))
      ∙ ap is_some (sym (step_at-answer request next found.1))
