-- The packet that goes first, and the step that it makes.
use Rattle.std.proofs.Common.{◌≡◌, ℕ, true, false, Bool, Option, Some, None, IsSome, is_some, unwrap_or, List, refl, sym, ap, ◌∙◌, if◌then◌else◌}
use Rattle.rio_packets.specs.Fields.{prio_of, is_request}
use Rattle.maint_registers.specs.Devices.{Registers}
use Rattle.maint_packets.specs.declared.next_hop.Next.{Next}
use Rattle.maint_packets.specs.declared.next_hop.Next.TheVariants.{Nowhere, RegisterUnit, Port}
use Rattle.maint_packets.specs.declared.request.Request.{Request}
use Rattle.maint_packets.specs.NextHops.{is_foreign, is_at_end, next_of}
use Rattle.maint_packets.specs.Requests.{request_of}
use Rattle.maint_packets.specs.Responses.{response_bytes}
use Rattle.maint_packets.specs.Answers.{request_answered}
use Rattle.switch_core.specs.declared.going.Going.{Going}
use Rattle.switch_core.specs.declared.switch.Step.{Step}
use Rattle.switch_core.specs.declared.switch.Step.TheVariants.{Moved, Dropped, Answered, Nothing}
use Rattle.switch_core.specs.Faces.{Face, face_at, head_of, has_room}
use Rattle.switch_core.specs.SwitchSteps.{answer_step, step_to, step_at, first_step, step_of}
use Rattle.switch_core.specs.Goings.{going_of, has_place_by, Goes}
use Rattle.switch_core.proofs.StepLaws.{step_at-next, can_move, can_answer}

hops-by : (foreign ended request : Bool) (next : Next) (to : ℕ)
    → (if foreign then Nowhere
    else (if ended then (if request then RegisterUnit else Nowhere) else next)) ≡ Port to
    → ended ≡ false
hops-by true ended request next to is = absurd cc
hops-by false true true next to is = absurd cc
hops-by false true false next to is = absurd cc
hops-by false false request next to is = refl

-- a packet that goes to a port is not at the end of its hops
pub hops_left : (device : Registers) (packet : List ℕ) (to : ℕ) → next_of device packet ≡ Port to
    → is_at_end packet ≡ false
hops_left device packet to is =
    hops-by (is_foreign packet) (is_at_end packet) (is_request packet) _ to is

-- a packet can go if there is room for what becomes of it
pub can_go : (device : Registers) (faces : List Face) (prio port : ℕ) (packet : List ℕ)
    → head_of (face_at faces port) prio ≡ Some packet → prio_of packet ≡ prio
    → (next : Next) → next_of device packet ≡ next
    → (next ≡ RegisterUnit → is_request packet ≡ true)
    → has_place_by faces port prio next ≡ is_some (step_at device faces prio port)
can_go device faces prio port packet head same Nowhere is asks =
    ap is_some (sym (step_at-next device faces prio port packet head same Nowhere is))
can_go device faces prio port packet head same RegisterUnit is asks =
    can_answer device faces prio port packet head same _ is (asks refl) refl
can_go device faces prio port packet head same (Port to) is asks =
    can_move device faces prio port packet head same to _ is refl

-- ---- the first step

-- what is found first makes the step
pub makes_step : (device : Registers) (faces : List Face) (o : Option Step)
    → first_step device faces ≡ o → IsSome o → o ≡ Some (step_of device faces)
makes_step device faces None is some = cc
makes_step device faces (Some step) is some =
    ap (λ (p : Option Step). Some (unwrap_or p Nothing)) (sym is)

pub no_step : (device : Registers) (faces : List Face) → first_step device faces ≡ None
    → None ≡ going_of (step_of device faces)
no_step device faces is = ap (λ (p : Option Step). going_of (unwrap_or p Nothing)) (sym is)

pub inside : {A : Type 0} (a b : A) → Some a ≡ Some b → a ≡ b
inside a b e = cc

-- what is given under a test
under : {A : Type 0} (t : Bool) (x y : A) → (if t then Some x else None) ≡ Some y
    → (y ≡ x) × (t ≡ true)
under true x y e = (cc, refl)
under false x y e = absurd cc

abbrev response_to : Registers → ℕ → Request → List ℕ
response_to device port request = response_bytes (request_answered device request port).response

module _ (device : Registers) (faces : List Face) (going : Going) (goes : Goes device faces going)
    (packet : List ℕ) (held : head_of (face_at faces going.port) going.prio ≡ Some packet) where
  same : goes.stands.packet ≡ packet
  same = inside _ _ (sym goes.stands.held ∙ held)

  -- it has the priority of its list
  pub own_prio : prio_of packet ≡ going.prio
  own_prio = ap prio_of (sym same) ∙ goes.stands.own

  -- it goes by the registers
  pub goes_next : next_of device packet ≡ going.next
  goes_next = ap (next_of device) (sym same) ∙ goes.stands.next

  step-by : (next : Next) → going.next ≡ next
      → step_to device faces going.port packet next ≡ Some (step_of device faces)
  step-by next is =
      sym (step_at-next device faces going.prio going.port packet held own_prio next
      (goes_next ∙ is))
      ∙ goes.step

  pub dropped_is : going.next ≡ Nowhere → step_of device faces ≡ Dropped going.port packet
  dropped_is is = sym (inside _ _ (step-by Nowhere is))

  pub moved_is : (to : ℕ) → going.next ≡ Port to
      → (step_of device faces ≡ Moved going.port to packet)
      × (has_room (face_at faces to) (prio_of packet) ≡ true)
  moved_is to is =
      under (has_room (face_at faces to) (prio_of packet)) (Moved going.port to packet)
      (step_of device faces) (step-by (Port to) is)

  -- what goes to the registers is a request
  pub asks : going.next ≡ RegisterUnit → IsSome (request_of packet)
  asks is = by_request (request_of packet) (step-by RegisterUnit is)
    where
      by_request : (o : Option Request)
          → answer_step device faces going.port packet o ≡ Some (step_of device faces) → IsSome o
      by_request None e = absurd cc
      by_request (Some request) e = refl

  pub answered_is : (request : Request) → going.next ≡ RegisterUnit
      → request_of packet ≡ Some request
      → (step_of device faces ≡ Answered going.port packet (response_to device going.port request))
      × (has_room (face_at faces going.port) (prio_of (response_to device going.port request))
      ≡ true)
  answered_is request is asked =
      let response = response_to device going.port request in
      under (has_room (face_at faces going.port) (prio_of response))
      (Answered going.port packet response) (step_of device faces)
      (ap (answer_step device faces going.port packet) (sym asked) ∙ step-by RegisterUnit is)

  -- the step tells where its packet stood, and where it went
  pub going_is : Some going ≡ going_of (step_of device faces)
  going_is = by_next going.next refl
    where
      with_request : (o : Option Request) → request_of packet ≡ o → IsSome o
          → going.next ≡ RegisterUnit → Some going ≡ going_of (step_of device faces)
      with_request None e some is = cc
      with_request (Some request) e some is =
          sym (ap going_of (answered_is request is e).0
          ∙ (λ i. Some (record { port = going.port; prio = own_prio i; next = sym is i })))

      by_next : (next : Next) → going.next ≡ next → Some going ≡ going_of (step_of device faces)
      by_next Nowhere is =
          sym (ap going_of (dropped_is is)
          ∙ (λ i. Some (record { port = going.port; prio = own_prio i; next = sym is i })))
      by_next RegisterUnit is = with_request (request_of packet) refl (asks is) is
      by_next (Port to) is =
          sym (ap going_of (moved_is to is).0
          ∙ (λ i. Some (record { port = going.port; prio = own_prio i; next = sym is i })))
