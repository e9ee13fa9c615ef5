-- Requests and responses as packets on their way.
use Rattle.fabric_ask.proofs.Prelude.{◌≡◌, ℕ, ◌+◌, ◌%◌, ◌<◌, ◌≤◌, min, Bool, true, false, List, ◌++◌, length, Option, Some, None, option_map, refl, ap, ◌∙◌, subst, arith, inl, inr, All, length-append, get_or_append_left, hop_of, closed, message_ended, IsBody, LinkForm, Passes, LinkForm-made, Registers, Read, Write, BadRead, BadWrite, Request, Response, response_of, IsResponseForm, response_body, response_bytes, status_fits, in_half, is_writing, accessed_by, words_read, request_answered, IsAfterMoves}
use Rattle.rio_packets.specs.Making.{made}
use Rattle.maint_registers.specs.Access.{value_at, written_at, access_status}
use Rattle.maint_packets.specs.declared.request.Op.{Op}
use Rattle.maint_packets.proofs.ResponseLaws.{read_back, is_bytes}
use Rattle.fabric_ask.proofs.OnWay.{hop_read}
use Rattle.fabric_ask.proofs.Lowering.{unhopped, anyhow, responses_same}

-- ---- what answers it

-- requests that differ in their hop counts alone are answered alike
pub answered_alike : (device : Registers) (first second : Request) (port : ℕ)
    → anyhow first ≡ anyhow second
    → request_answered device first port ≡ request_answered device second port
answered_alike device first second port same = ap (λ r. request_answered device r port) same

-- ---- a response

pub record IsBack (request : Request) (response : Response) : Type 0 where
  pub dest : response.dest ≡ request.source
  pub hop : response.hop ≡ 255
  pub prio : response.prio ≡ min (request.prio + 1) 3
  pub status : response.status < 16
  pub formed : IsResponseForm response.write response.status response.words

pub is_back : (device : Registers) (request : Request) (port : ℕ)
    → IsBack request (request_answered device request port).response
is_back device request port = record {
  dest = refl;
  hop = refl;
  prio = refl;
  status = status_fits (accessed_by device request.offset port request.op).value;
  formed = by_op request.op;
}
  where
    read : (o : Option ℕ)
        → IsResponseForm false (access_status o) (option_map (in_half request.offset) o)
    read None = refl
    read (Some value) = refl

    write : (o : Option Registers)
        → IsResponseForm true (access_status (option_map (λ next. 0) o)) None
    write None = inr refl
    write (Some next) = inl refl

    by_op : (op : Op) → IsResponseForm (is_writing op)
        (access_status (accessed_by device request.offset port op).value)
        (words_read request.offset op (accessed_by device request.offset port op).value)
    by_op Read = read (value_at device request.offset port)
    by_op (Write value) = write (written_at device request.offset value)
    by_op BadRead = refl
    by_op BadWrite = inr refl

-- ---- a response is read back

front_all : (P : ℕ → Type 0) (xs ys : List ℕ) → All P (xs ++ ys) → All P xs
front_all P xs ys all = λ i other below.
    let size = length-append xs ys in
    subst P (get_or_append_left xs ys other i below) (all i other (omega (arith, below, size)))

ended_range : (large : Bool) (message : List ℕ) → All (λ b. b < 256) (message_ended large message)
    → All (λ b. b < 256) message
unfolding closed
ended_range false message all = front_all (λ b. b < 256) message _ all
ended_range true message all =
    front_all (λ b. b < 256) message _ (front_all (λ b. b < 256) (closed message) _ all)

record Sizes (n : ℕ) : Type 0 where
  even : n % 2 ≡ 0
  least : 4 ≤ n
  most : n ≤ 272

module _ (response : Response) (passes : Passes (response_bytes response))
    (low : response.prio < 4) where
  abbrev body_size : Bool → Option (ℕ × ℕ) → ℕ
  body_size large words =
      length (response_body (record response { large = large; words = words }))

  sizes : (large : Bool) (words : Option (ℕ × ℕ)) → Sizes (body_size large words)
  sizes false None = record { even = refl; least = omega arith; most = omega arith }
  sizes false (Some two) = record { even = refl; least = omega arith; most = omega arith }
  sizes true None = record { even = refl; least = omega arith; most = omega arith }
  sizes true (Some two) = record { even = refl; least = omega arith; most = omega arith }

  is_body : IsBody (response_body response)
  is_body =
      let size = sizes response.large response.words in
      record {
        even = size.even;
        least = size.least;
        most = size.most;
        range = ended_range response.large (response_body response) passes.range;
        origin = omega arith;
      }

  pub read_again : IsResponseForm response.write response.status response.words
      → response_of (response_bytes response) ≡ Some response
  read_again formed =
      let body = response_body response in
      let form = LinkForm-made body is_body in
      read_back response (response_bytes response) low formed
      (subst (LinkForm body) (is_bytes response (made body) low form) form)

-- However often it moved on, it is read back with the hop count that is left.
pub moved_response : (response : Response) (packet : List ℕ) (n left : ℕ)
    → Passes (response_bytes response) → response.prio < 4
    → IsResponseForm response.write response.status response.words
    → IsAfterMoves (response_bytes response) n packet → hop_of packet ≡ Some left
    → response_of packet ≡ Some (record response { hop = left })
moved_response response packet n left passes low formed moves hop =
    by_found (response_of packet) refl
    (responses_same (response_bytes response) packet n moves
    ∙ ap (option_map unhopped) (read_again response passes low formed))
  where
    by_found : (found : Option Response) → response_of packet ≡ found
        → option_map unhopped found ≡ Some (unhopped response)
        → response_of packet ≡ Some (record response { hop = left })
    by_found None is same = absurd cc
    by_found (Some other) is same =
        let alike : unhopped other ≡ unhopped response = cc in
        let hops : other.hop ≡ left = hop_read packet other left is hop in
        is ∙ (λ i. Some (record (alike i) { hop = hops i }))
