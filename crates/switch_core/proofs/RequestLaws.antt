-- Requests at the front of a list, and the priority of their responses.
use Rattle.std.proofs.Common.{◌≡◌, ℕ, ◌+◌, ◌<◌, min, true, false, Bool, Option, Some, None, IsSome, List, [], ◌∷◌, slice_get, All, refl, sym, ap, arith, if◌then◌else◌}
use Rattle.rio_packets.specs.Hops.{closed, message_ended}
use Rattle.rio_packets.specs.Fields.{prio_of, is_request, body_of}
use Rattle.maint_registers.specs.Devices.{Registers}
use Rattle.maint_packets.specs.declared.request.Request.{Request}
use Rattle.maint_packets.specs.declared.response.Response.{Response}
use Rattle.maint_packets.specs.Requests.{request_in, request_of}
use Rattle.maint_packets.specs.Layout.{behind_ids}
use Rattle.maint_packets.specs.Responses.{response_bytes}
use Rattle.maint_packets.specs.Answers.{request_answered}
use Rattle.link_buffers.specs.Queues.{list_at}
use Rattle.link_port.specs.Faces.{AreLists}

-- the first packet of a list has the priority of the list
pub first_has_prio : (lists : List (List (List ℕ))) (prio : ℕ) (packet : List ℕ) → AreLists lists
    → prio < 4
    → slice_get (list_at lists prio) 0 ≡ Some packet → prio_of packet ≡ prio
first_has_prio lists prio packet are few is = by_list (list_at lists prio) (are.sorted prio few) is
  where
    by_list : (packets : List (List ℕ)) → All (λ p. prio_of p ≡ prio) packets → slice_get packets 0
        ≡ Some packet → prio_of packet ≡ prio
    by_list [] all is = cc
    by_list (x ∷ xs) all is = let first : prio_of x ≡ prio = all 0 [] (omega arith) in cc

-- a request has its packet's priority
pub request_prio : (packet : List ℕ) (request : Request) → request_of packet ≡ Some request
    → request.prio ≡ prio_of packet
request_prio packet request is = by_test (is_request packet) refl is
  where
    by_test : (t : Bool) → is_request packet ≡ t → request_of packet ≡ Some request → request.prio
        ≡ prio_of packet
    by_test true e h = let k = rw e at h in ap (λ (r : Request). r.prio) (sym (inside _ _ k))
      where
        inside : (a b : Request) → Some a ≡ Some b → a ≡ b
        inside a b e = cc
    by_test false e h = let k = rw e at h in absurd (none _ k)
      where
        none : (a : Request) → None ≡ Some a → ⊥
        none a e = cc

-- what is a request has one
pub request_there : (packet : List ℕ) → is_request packet ≡ true → (request : Request)
    × (request_of packet ≡ Some request)
request_there packet is = (request_in packet, rw is refl)

ended_prio : (large : Bool) (prio dest source : ℕ) (rest : List ℕ)
    → prio_of (message_ended large (body_of prio 8 large dest source rest)) ≡ prio
unfolding closed
ended_prio false prio dest source rest = omega arith
ended_prio true prio dest source rest = omega arith

response_bytes-prio : (response : Response) → prio_of (response_bytes response) ≡ response.prio
response_bytes-prio response =
    ended_prio response.large response.prio response.dest response.source
    (behind_ids (if response.write then 3 else 2) response.status response.tid response.hop 0
    response.words)

-- the priority of the response to a request
pub answer_prio : (device : Registers) (request : Request) (port : ℕ)
    → prio_of (response_bytes (request_answered device request port).response)
    ≡ min (request.prio + 1) 3
answer_prio device request port =
    response_bytes-prio (request_answered device request port).response

-- what is there
pub some_there : {A : Type 0} (o : Option A) → IsSome o → (x : A) × (o ≡ Some x)
some_there None h = cc
some_there (Some x) h = (x, refl)
