-- An ask is answered where the walks of its request and of its response end.
use Rattle.std.proofs.Common.{◌≡◌, ◌≢◌, ℕ, zero, suc, ◌+◌, ◌<◌, ◌≤◌, Bool, true, false, List, [], ◌∷◌, ◌++◌, length, Option, Some, None, option_map, option_and_then, slice_get, refl, sym, ap, ◌∙◌, subst, arith, if◌then◌else◌, MatchBool, lt-ltb}
use Rattle.fabric_ask.proofs.Prelude.{prio_of, is_request, Registers, Request, Nowhere, RegisterUnit, request_of, response_bytes, RequestAnswered, request_answered, Edit, PortRef, walk, IsEndpoint, Item, Network, port_of, with_device, held, in_turn, response_at, device_after, item_of, IsAfterMoves, sent_by, few_prio, seen, Seen, TraceLine, Made, IsCollect, seen-append, IsGood, made_keeps, Held, Waits, IsOnly, IsClear, IsEndpointIn, IsLaid, Final, Fell, WasHeard, HasLeft, FinalAt, AtHost, NotHost, after_request, hops_left, holds_some, AskRounds, topology_of, registers_of, CollectsNothing, IsOn, HasCome}
use Rattle.fabric_ask.proofs.Serving.{first_only}
use Rattle.fabric_ask.proofs.Passing.{turn_some}
use Rattle.fabric_ask.proofs.Uncollected.{never-append, never_by, made_endpoint}
use Rattle.fabric_ask.proofs.Losing.{clear_rounds}
use Rattle.fabric_ask.proofs.Walking.{next_ends}
use Rattle.fabric_ask.proofs.Traveling.{travels, nothing_holds}
use Rattle.fabric_ask.proofs.OnWay.{asks}
use Rattle.fabric_ask.proofs.Lowering.{anyhow, moves_same}
use Rattle.fabric_ask.proofs.Packets.{answered_alike}

-- ---- the request at its device

-- The request came to a device, which answered it.
pub record IsHeard (host rounds : ℕ) (s : Seen) (lines : List TraceLine) (at : PortRef)
    (request : Request) (device : Registers) : Type 0 where
  pub front : List TraceLine
  pub rest : List TraceLine
  pub whole : lines ≡ front ++ rest
  pub made : Made s front
  pub nothing : CollectsNothing host front
  pub still : (seen s front).undetected ≡ None
  pub links : (seen s front).network.links ≡ s.network.links
  pub item : Item
  pub response : item.now ≡ response_bytes (request_answered device request at.port).response
  pub only : IsOnly (seen s front).network (Waits at) item
  pub registers : (seen s front).network.registers ≡ after_request s.network.registers at request
  pub rounds_left : ℕ
  pub noise_left : List Edit
  pub enough : rounds ≤ rounds_left + 256
  pub more : AskRounds host rounds_left noise_left (seen s front) rest

some_back : (o : Option Request) (request : Request) → option_map anyhow o ≡ Some (anyhow request)
    → (other : Request) × ((o ≡ Some other) × (anyhow other ≡ anyhow request))
some_back None request is = absurd cc
some_back (Some other) request is = (other, (refl, cc))

response_there : (net : Network) (q : PortRef) (packet response : List ℕ) (device : Registers)
    (request : Request) → slice_get net.registers q.node ≡ Some device
    → request_of packet ≡ Some request → response_at net q packet ≡ Some response
    → response ≡ response_bytes (request_answered device request q.port).response
response_there net q packet response device request stands is answer =
    let own : response_at net q packet ≡ Some
    (response_bytes (request_answered device request q.port).response) =
    ap (option_and_then (λ (d : Registers). option_map
    (λ (r : Request). response_bytes (request_answered d r q.port).response) (request_of packet)))
    stands
    ∙ ap (option_map (λ (r : Request). response_bytes (request_answered device r q.port).response))
    is in
    let both : Some response
    ≡ Some (response_bytes (request_answered device request q.port).response) =
    sym answer ∙ own in
    cc

same_change : (devices : List Registers) (n : ℕ) (first second : Registers → Registers)
    → ((device : Registers) → first device ≡ second device)
    → with_device devices n first ≡ with_device
    devices n second
same_change [] n first second same = refl
same_change (x ∷ devices) zero first second same = ap (λ (d : Registers). d ∷ devices) (same x)
same_change (x ∷ devices) (suc n) first second same =
    ap (λ (l : List Registers). x ∷ l) (same_change devices n first second same)

module _ (host rounds : ℕ) (s : Seen) (lines : List TraceLine) (at : PortRef) (item : Item)
    (request : Request) (device : Registers) (is : request_of item.now ≡ Some request)
    (stands : slice_get s.network.registers at.node ≡ Some device)
    (away : at.node ≢ host) (low : request.hop < 256)
    (left : ℕ) (a : HasCome host rounds request.dest request.hop left s lines at item) where
  same : (option_map anyhow (request_of a.passed.now) ≡ option_map anyhow (request_of item.now))
      × (is_request a.passed.now ≡ is_request item.now)
  same = moves_same item.now a.passed.now a.moves a.same_packet

  asked : is_request a.passed.now ≡ true
  asked = same.1 ∙ asks item.now request is

  other : (o : Request) × ((request_of a.passed.now ≡ Some o) × (anyhow o ≡ anyhow request))
  other = some_back (request_of a.passed.now) request (same.0 ∙ ap (option_map anyhow) is)

  by_final : Final a.mid at a.passed left (seen s a.front).network
      → IsHeard host rounds s lines at request device
  by_final (Fell none next clear regs) =
      let sent = sent_by a.mid at.node a.passed.now Nowhere next in
      let ends = next_ends sent.device a.passed.now request.dest
      (subst (IsOn a.passed.now request.dest) none a.on) in
      absurd (not_none (is_request a.passed.now) asked (sym ends ∙ sent.sends))
    where
      not_none : (b : Bool) → b ≡ true → (if b then RegisterUnit else Nowhere) ≡ Nowhere → ⊥
      not_none true holds_some none = absurd cc
      not_none false holds_some none = absurd cc
  by_final (HasLeft endpoint not clear regs) = let bad : true ≡ false = sym asked ∙ not in absurd cc
  by_final (WasHeard response answer only regs) =
      let known : slice_get a.mid.registers at.node ≡ Some device =
      ap (λ (r : List Registers). slice_get r at.node) a.registers ∙ stands in
      let alike : request_answered device other.0 at.port
      ≡ request_answered device request at.port =
      answered_alike device other.0 request at.port other.1.1 in
      record {
        front = a.front;
        rest = a.rest;
        whole = a.whole;
        made = a.made;
        nothing = a.nothing;
        still = a.still;
        links = a.links;
        item = item_of a.mid at response;
        response = response_there a.mid at a.passed.now response device other.0 known other.1.0
            answer ∙ ap (λ (x : RequestAnswered). response_bytes x.response) alike;
        only = only;
        registers = regs ∙ ap (λ (r : List Registers). with_device r at.node
            (device_after at.port (request_of a.passed.now))) a.registers
            ∙ same_change s.network.registers at.node _ _
            (λ d. ap (λ (o : Option Request). device_after at.port o d) other.1.0
            ∙ ap (λ (x : RequestAnswered). x.device)
            (answered_alike d other.0 request at.port other.1.1));
        rounds_left = a.rounds_left;
        noise_left = a.noise_left;
        enough = (let e = a.enough in let h = a.hops_are in omega (arith, e, h, low));
        more = subst (λ b. MatchBool b (IsCollect (seen s a.front).network host a.rest)
            (AskRounds host a.rounds_left a.noise_left (seen s a.front) a.rest))
            (nothing_holds host (seen s a.front) only.received) a.more;
      }

  pub is_heard : IsHeard host rounds s lines at request device
  is_heard = by_place a.final
    where
      by_place : FinalAt host a.mid at a.passed left (seen s a.front).network
          → IsHeard host rounds s lines at request device
      by_place (AtHost here only regs) = absurd (away here)
      by_place (NotHost apart final) = by_final final

-- ---- the response at the host

-- registers answer requests alone
none_answers : (net : Network) (q : PortRef) (packet : List ℕ) → is_request packet ≡ false
    → response_at net q packet ≡ None
none_answers net q packet is = by_device (slice_get net.registers q.node)
  where
    none : request_of packet ≡ None
    none = rw is refl

    by_device : (o : Option Registers) → option_and_then (λ (d : Registers). option_map
        (λ (r : Request). response_bytes (request_answered d r q.port).response)
        (request_of packet)) o
        ≡ None
    by_device None = refl
    by_device (Some device) =
        ap (option_map
        (λ (r : Request). response_bytes (request_answered device r q.port).response)) none

-- The response came to the host, and only the host's collecting is left.
pub record IsHome (host dest left : ℕ) (s : Seen) (lines : List TraceLine) (packet : List ℕ)
    : Type 0 where
  pub front : List TraceLine
  pub rest : List TraceLine
  pub whole : lines ≡ front ++ rest
  pub made : Made s front
  pub nothing : CollectsNothing host front
  pub still : (seen s front).undetected ≡ None
  pub item : Item
  pub moves : ℕ
  pub same_packet : IsAfterMoves packet moves item.now
  pub on : IsOn item.now dest left
  pub only : IsOnly (seen s front).network (Held (port_of host)) item
  pub registers : (seen s front).network.registers ≡ s.network.registers
  pub more : IsCollect (seen s front).network host rest

pub holds_it : (host : ℕ) (t : Seen) (item : Item) → IsOnly t.network (Held (port_of host)) item
    → prio_of item.now < 4 → holds_some host t ≡ true
holds_it host t item only few = lt-ltb 0 (held t.network (port_of host)) some
  where
    some : 0 < held t.network (port_of host)
    some = by_prio (prio_of item.now) few (first_only t.network (port_of host) item only)
      where
        by_prio : (r : ℕ) → r < 4 → t.network.received (port_of host) r ≡ item ∷ []
            → 0 < length (in_turn (t.network.received (port_of host)))
        by_prio r low is = turn_some (t.network.received (port_of host)) r low
            (subst (λ (l : List Item). 0 < length l) (sym is) (omega arith))

-- It travels by the tables as the answer left them.
module _ (host dest : ℕ) (regs : List Registers) (links : List (PortRef × PortRef))
    (laid : IsLaid regs links host) where
  pub comes_home : (rounds : ℕ) (noise : List Edit) (s : Seen) (lines : List TraceLine)
      (at : PortRef) (item : Item) → 255 < rounds → IsGood s → s.undetected ≡ None
      → s.network.registers ≡ regs → s.network.links ≡ links → IsOnly s.network (Waits at) item
      → IsOn item.now dest 255
      → walk (topology_of regs links host) (registers_of regs) dest 255 at ≡ Some (port_of host)
      → AskRounds host rounds noise s lines → (seen s lines).undetected ≡ None
      → IsHome host dest (hops_left (topology_of regs links host) (registers_of regs) dest 255 at)
      s lines item.now
  comes_home rounds noise s lines at item below good none same_regs same_links only on ends
      rounds_are still = by_place a.final
    where
      a : HasCome host rounds dest 255 (hops_left (topology_of regs links host) (registers_of regs)
          dest 255 at) s lines (port_of host) item
      a = travels host dest regs links laid 255 rounds noise s lines at (port_of host) item below
          good none same_regs same_links only on ends rounds_are still

      by_place : FinalAt host a.mid (port_of host) a.passed (hops_left
          (topology_of regs links host) (registers_of regs) dest 255 at) (seen s a.front).network
          → IsHome host dest (hops_left (topology_of regs links host) (registers_of regs) dest 255
          at) s lines item.now
      by_place (NotHost apart final) = absurd (apart refl)
      by_place (AtHost here there same) = record {
        front = a.front;
        rest = a.rest;
        whole = a.whole;
        made = a.made;
        nothing = a.nothing;
        still = a.still;
        item = a.passed;
        moves = a.moves;
        same_packet = a.same_packet;
        on = a.on;
        only = there;
        registers = same ∙ a.registers;
        more = subst (λ b. MatchBool b (IsCollect (seen s a.front).network host a.rest)
            (AskRounds host a.rounds_left a.noise_left (seen s a.front) a.rest))
            (holds_it host (seen s a.front) a.passed there (few_prio a.passed.now a.on.passes))
            a.more;
      }

  -- a response that comes to another device is not collected by the host
  pub lost_response : (rounds : ℕ) (noise : List Edit) (s : Seen) (lines : List TraceLine)
      (at end : PortRef) (item : Item) → 255 < rounds → IsGood s → s.undetected ≡ None
      → s.network.registers ≡ regs → s.network.links ≡ links → IsOnly s.network (Waits at) item
      → IsOn item.now dest 255 → is_request item.now ≡ false
      → walk (topology_of regs links host) (registers_of regs) dest 255 at ≡ Some end
      → end.node ≢ host → AskRounds host rounds noise s lines → (seen s lines).undetected ≡ None
      → CollectsNothing host lines
  lost_response rounds noise s lines at end item below good none same_regs same_links only on
      not_asked ends away rounds_are still = by_place a.final
    where
      a : HasCome host rounds dest 255 (hops_left (topology_of regs links host) (registers_of regs)
          dest 255 at) s lines end item
      a = travels host dest regs links laid 255 rounds noise s lines at end item below good none
          same_regs same_links only on ends rounds_are still

      no_response : response_at a.mid end a.passed.now ≡ None
      no_response = none_answers a.mid end a.passed.now
          ((moves_same item.now a.passed.now a.moves a.same_packet).1 ∙ not_asked)

      behind : (seen (seen s a.front) a.rest).undetected ≡ None
      behind = sym (ap (λ (x : Seen). x.undetected) (seen-append s a.front a.rest))
          ∙ ap (λ (l : List TraceLine). (seen s l).undetected) (sym a.whole) ∙ still

      by_clear : IsClear (seen s a.front).network → CollectsNothing host lines
      by_clear clear =
          let t = seen s a.front in
          let more : AskRounds host a.rounds_left a.noise_left t a.rest =
          subst (λ b. MatchBool b (IsCollect t.network host a.rest)
          (AskRounds host a.rounds_left a.noise_left t a.rest))
          (nothing_holds host t clear.received) a.more in
          let endpoint : IsEndpoint t.network host =
          made_endpoint host s a.front good a.made
          (subst (λ r. IsEndpointIn r host) (sym same_regs) laid.host_is) in
          never_by host a.whole (never-append host a.front a.rest a.nothing
          (clear_rounds host a.rounds_left a.noise_left t a.rest (made_keeps good a.made).good
          a.still endpoint clear more behind).nothing)

      by_place : FinalAt host a.mid end a.passed (hops_left (topology_of regs links host)
          (registers_of regs) dest 255 at) (seen s a.front).network → CollectsNothing host lines
      by_place (AtHost here only2 same) = absurd (away here)
      by_place (NotHost apart (Fell hops next clear same)) = by_clear clear
      by_place (NotHost apart (HasLeft endpoint not clear same)) = by_clear clear
      by_place (NotHost apart (WasHeard response answer only2 same)) =
          let bad : None ≡ Some response = sym no_response ∙ answer in absurd cc
