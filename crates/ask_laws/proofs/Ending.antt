-- The packet of an ask comes to an end: as a request, or as the response to it.
use Rattle.ask_laws.proofs.Prelude.{◌≡◌, ℕ, ◌<◌, Bool, true, false, List, [], ◌∷◌, Option, Some, None, option_and_then, option_map, slice_get, if◌then◌else◌, refl, sym, ap, ◌∙◌, subst, arith, prio_of, is_request, Registers, PortRef, Network, peer_in, port_of, with_device, device_after, response_at, Take, AtNode, item_of, few_prio, Full, Stepped, Lacked, seen_line, seen, Seen, made_keeps, AskRounds, most_rounds, IsLaid, Waits, IsOnly, IsOn, split, AsksEndSomewhere}
use Rattle.std.specs.List.{AllByRecursion}
use Rattle.rio_packets.proofs.FormLaws.{Passes-from_form}
use Rattle.maint_registers.specs.Within.{IsWithin}
use Rattle.maint_packets.specs.Answers.{request_answered}
use Rattle.maint_packets.specs.Requests.{request_of, request_body}
use Rattle.maint_packets.specs.Responses.{response_bytes}
use Rattle.maint_packets.specs.declared.request.Request.{Request}
use Rattle.maint_packets.proofs.AnswerLaws.{responses_pass}
use Rattle.fabric_model.proofs.Forms.{device_at}
use Rattle.fabric_trace.specs.Blocks.{Asks}
use Rattle.fabric_trace.specs.Parts.{Made, PartSteps}
use Rattle.fabric_trace.proofs.Parts.Making.{one_part, made_by}
use Rattle.fabric_trace.proofs.Traces.Existing.{good_of}
use Rattle.fabric_ask.specs.Answered.{after_request}
use Rattle.fabric_ask.proofs.Hosting.{has_room_out}
use Rattle.fabric_ask.proofs.Laying.{laid_heard}
use Rattle.fabric_ask.proofs.OnWay.{asks, on_request, on_response, response_asks}
use Rattle.fabric_ask.proofs.Packets.{is_back, read_again}
use Rattle.fabric_ask.proofs.Serving.{put_only}
use Rattle.ask_laws.proofs.Rounds.{ended_behind, Heard, goes_on}

-- ---- the response

-- registers answer requests alone
none_answers : (net : Network) (q : PortRef) (packet : List ℕ) → is_request packet ≡ false
    → response_at net q packet ≡ None
none_answers net q packet is = by (slice_get net.registers q.node)
  where
    none : request_of packet ≡ None
    none = rw is refl

    by : (o : Option Registers) → option_and_then (λ (d : Registers). option_map
        (λ (r : Request). response_bytes (request_answered d r q.port).response)
        (request_of packet)) o ≡ None
    by None = refl
    by (Some device) =
        ap (option_map
        (λ (r : Request). response_bytes (request_answered device r q.port).response)) none

-- who answered: a device, to a request
record IsAnsweredBy (net : Network) (q : PortRef) (packet response : List ℕ) : Type 0 where
  device : Registers
  stands : slice_get net.registers q.node ≡ Some device
  request : Request
  asked : request_of packet ≡ Some request
  response_is : response ≡ response_bytes (request_answered device request q.port).response

answered_by : (net : Network) (q : PortRef) (packet response : List ℕ)
    → response_at net q packet ≡ Some response → IsAnsweredBy net q packet response
answered_by net q packet response answer = by (slice_get net.registers q.node) refl answer
  where
    by_request : (device : Registers) (o : Option Request)
        → slice_get net.registers q.node ≡ Some device → request_of packet ≡ o
        → option_map (λ (r : Request). response_bytes (request_answered device r q.port).response)
        o ≡ Some response → IsAnsweredBy net q packet response
    by_request device None stands asked is = absurd cc
    by_request device (Some request) stands asked is = record {
      device = device;
      stands = stands;
      request = request;
      asked = asked;
      response_is = cc;
    }

    by : (o : Option Registers) → slice_get net.registers q.node ≡ o
        → option_and_then (λ (d : Registers). option_map
        (λ (r : Request). response_bytes (request_answered d r q.port).response)
        (request_of packet)) o ≡ Some response
        → IsAnsweredBy net q packet response
    by None stands is = absurd cc
    by (Some device) stands is = by_request device (request_of packet) stands refl is

-- a port that has a link is one of sixteen
port_low : (host : ℕ) (regs : List Registers) (links : List (PortRef × PortRef))
    → IsLaid regs links host → AllByRecursion IsWithin regs → (q p : PortRef)
    → peer_in links q ≡ Some p → q.port < 256
port_low host regs links laid within q p peer =
    let port = laid.ports q p peer in
    let below = port.below in
    let most = (device_at regs q.node port.device port.stands within).ports in
    omega (arith, below, most)

-- a response has no answer
none_heard : (host : ℕ) (regs : List Registers) (links : List (PortRef × PortRef))
    → Heard host 0 false regs links
none_heard host regs links k left t rest q p mid packet response item enough good none same
    same_links peer passes unasked answer now only regs_same rounds still =
    let never = none_answers mid q packet unasked in absurd (cc (never, answer))

-- a device has answered the request
request_heard : (host : ℕ) (regs : List Registers) (links : List (PortRef × PortRef))
    → IsLaid regs links host → AllByRecursion IsWithin regs → Heard host 256 true regs links
request_heard host regs links laid within k left t rest q p mid packet response item enough good
    none same same_links peer passes request_is answer now only regs_same rounds still =
    let by = answered_by mid q packet response answer in
    let request = by.request in
    let stands : slice_get regs q.node ≡ Some by.device =
    subst (λ (r : List Registers). slice_get r q.node ≡ Some by.device) same by.stands in
    let own = (request_answered by.device request q.port).response in
    let back = is_back by.device request q.port in
    let prio = back.prio in
    let own_low : own.prio < 4 = omega (arith, prio) in
    let in_range = device_at regs q.node by.device stands within in
    let own_passes = responses_pass by.device packet request q.port in_range
    (port_low host regs links laid within q p peer) passes by.asked in
    let read = read_again own own_passes own_low back.formed in
    let on = on_response (response_bytes own) own own_passes read in
    let other = after_request regs q request in
    let is : item.now ≡ response_bytes own = now ∙ by.response_is in
    let same_now : t.network.registers ≡ other =
    regs_same ∙ (ap (λ (r : List Registers). with_device r q.node
    (device_after q.port (request_of packet))) same
    ∙ ap (λ (o : Option Request). with_device regs q.node (device_after q.port o)) by.asked) in
    goes_on host request.source 0 false other links (laid_heard regs links host q request laid)
    (none_heard host other links) 255 k left t rest q item (omega (arith, enough)) (record {
      good = good;
      none = none;
      same_regs = same_now;
      same_links = same_links;
      rounds_are = rounds;
      still = still;
    }) only (subst (λ (x : List ℕ). IsOn x request.source 255) (sym is) (record {
      passes = on.passes;
      maintenance = on.maintenance;
      goal = on.goal ∙ ap Some back.dest;
      hop = on.hop ∙ ap Some back.hop;
    })) (ap is_request is ∙ response_asks (response_bytes own) own read)

-- ---- the ask

pub asks_end : AsksEndSomewhere
asks_end host request noise s lines ready none clear laid low reads ask still =
    let good = good_of ready in
    let parts = split (Asks s host request) (AskRounds host most_rounds noise) s lines ask still in
    let packet = parts.own.packet in
    let passes = Passes-from_form (request_body request) packet parts.own.form in
    let asked = reads packet parts.own.form in
    let room = has_room_out s.network (port_of host) (prio_of packet) clear in
    let first_is : parts.first ≡ Stepped (AtNode (Take host packet)) ∷ [] =
    parts.own.lines ∙ ap (λ (b : Bool). if b then Stepped (AtNode (Take host packet)) ∷ []
    else Lacked Full ∷ []) room in
    let made_first : Made s parts.first = made_by first_is (one_part
    (PartSteps (Take host packet) (parts.own.endpoint, passes, room) (few_prio packet passes)
    refl)) in
    let t = seen s parts.first in
    let t_is : t ≡ seen_line s (Stepped (AtNode (Take host packet))) = ap (seen s) first_is in
    let item = item_of s.network (port_of host) packet in
    let put = put_only s.network (port_of host) (prio_of packet) (item ∷ []) item clear refl refl in
    let waits : IsOnly t.network (Waits (port_of host)) item =
    subst (λ (x : Seen). IsOnly x.network (Waits (port_of host)) item) (sym t_is)
    (record { received = put.received; waiting = put.waiting; lent = put.lent }) in
    let t_links = ap (λ (x : Seen). x.network.links) t_is in
    ended_behind host s parts.first parts.rest lines parts.whole t_links
    (goes_on host request.dest 256 true s.network.registers s.network.links laid
    (request_heard host s.network.registers s.network.links laid ready.formed.registers)
    request.hop most_rounds noise t parts.rest (port_of host) item (omega (arith, low)) (record {
      good = (made_keeps good made_first).good;
      none = parts.still;
      same_regs = ap (λ (x : Seen). x.network.registers) t_is;
      same_links = t_links;
      rounds_are = parts.more;
      still = sym (ap (λ (x : Seen). x.undetected) parts.after) ∙ still;
    }) waits (on_request packet request passes asked) (asks packet request asked))
