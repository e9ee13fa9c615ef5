-- An endpoint and the one packet.
use Rattle.fabric_ask.proofs.Prelude.{◌≡◌, ℕ, zero, suc, ◌+◌, ◌<◌, ◌≤◌, ◌==◌, ◌||◌, Bool, true, false, List, [], ◌∷◌, ◌++◌, Option, Some, None, slice_get, refl, sym, ap, ◌∙◌, subst, arith, if◌then◌else◌, MatchBool, append-nil, map, filter, length, nat_lt, ⊤, prio_of, is_request, Passes, Registers, is_switch, Request, request_of, response_bytes, request_answered, Collected, Face, head_of, has_room, first_held, collected_of, collected_head, collected, PortRef, Item, Network, port_of, IsEndpoint, Step, Leave, Answer, AtNode, ByDevice, Needs, IsFirst, without_first, after, few_prio, seen_line, seen, Seen, Full, Empty, TraceLine, Stepped, Lacked, Made, Joined, face_in, collect_lines, HasResponseForm, IsCollect, lists_in, queue, CollectNeeds, collect_needs, head_held, list_at, greatest_first-is, IsGood, good_by_priority, made_keeps, by_test, block_made, Held, IsOnly, IsClear, HandledAs, GoesOut, CollectsAll, CollectNodes, CollectRests, CollectStops, CollectGoes}
use Rattle.switch_core.specs.declared.endpoint.Collected.TheVariants as Collects
use Rattle.fabric_script.specs.declared.lines.Line.TheVariants.{Collect}
use Rattle.fabric_ask.proofs.Alone.{none_first}
use Rattle.fabric_ask.proofs.Crossing.{split, HasRun}
use Rattle.fabric_ask.proofs.Serving.{is_one, cleared, becomes_answer, head_is, greatest-none}
use Rattle.fabric_ask.proofs.Handling.{NoneHeld, none_held, run_of, nothing_by}

-- ---- a step that is made

pub data Makes (net : Network) (node : ℕ) (step : Step) : Type 0 where
  Leaving : (packet : List ℕ) → step ≡ AtNode (Leave node packet)
      → Needs net (AtNode (Leave node packet)) → Makes net node step
  Answering : (packet response : List ℕ) → step ≡ ByDevice (Answer (port_of node) packet response)
      → Needs net (ByDevice (Answer (port_of node) packet response)) → Makes net node step

makes_by : (net : Network) (node : ℕ) (made : Collected) (step : Step) → HasResponseForm made
    → CollectNeeds net node made → Stepped step ∷ [] ≡ collect_lines node made → Makes net node step
makes_by net node (Collects.Left packet) step form needs is =
    let same : step ≡ AtNode (Leave node packet) = cc in Leaving packet same needs.1
makes_by net node (Collects.Answered request response) step form needs is =
    let same : step ≡ ByDevice (Answer (port_of node) request response) = cc in
    Answering request response same (needs form)
makes_by net node Collects.Empty step form needs is = absurd cc
makes_by net node Collects.Full step form needs is = absurd cc

pub collect_makes : (s : Seen) (node : ℕ) (step : Step) → IsGood s
    → IsCollect s.network node (Stepped step ∷ []) → Makes s.network node step
collect_makes s node step good is =
    makes_by s.network node (collected is.device (face_in s.network (port_of node))) step is.form
    (collect_needs s.network node is.device (good_by_priority good) is.stands is.endpoint)
    is.lines

makes_first : (net : Network) (node : ℕ) (step : Step) → Makes net node step → (packet : List ℕ)
    × IsFirst net (port_of node) packet
makes_first net node step (Leaving packet is needs) = (packet, needs.1)
makes_first net node step (Answering packet response is needs) = (packet, needs.0)

becomes_leave : (net : Network) (node : ℕ) (packet : List ℕ) (q : PortRef) (item : Item)
    → IsOnly net (Held q) item → Needs net (AtNode (Leave node packet))
    → HandledAs net q item (after net (AtNode (Leave node packet)))
becomes_leave net node packet q item only needs =
    let one = is_one net q (port_of node) item packet only needs.1 in
    let endpoint : IsEndpoint net q.node = subst (λ (p : PortRef). IsEndpoint net p.node) one.0
    needs.0 in
    let other : is_request item.now ≡ false = subst (λ p. is_request p ≡ false) one.1 needs.2 in
    let clear : IsClear (without_first net (port_of node) (prio_of packet)) =
    subst (λ (p : PortRef). IsClear (without_first net p (prio_of packet))) (sym one.0)
    (subst (λ p. IsClear (without_first net q (prio_of p))) (sym one.1)
    (cleared net q item only)) in
    GoesOut endpoint other clear refl

pub makes_becomes : (net : Network) (node : ℕ) (step : Step) (q : PortRef) (item : Item)
    → IsOnly net (Held q) item → Makes net node step → HandledAs net q item (after net step)
makes_becomes net node step q item only (Leaving packet is needs) =
    subst (λ x. HandledAs net q item (after net x)) (sym is)
    (becomes_leave net node packet q item only needs)
makes_becomes net node step q item only (Answering packet response is needs) =
    let one = is_one net q (port_of node) item packet only needs.0 in
    let same : Answer q item.now response ≡ Answer (port_of node) packet response =
    λ i. Answer (sym one.0 i) (sym one.1 i) response in
    subst (λ x. HandledAs net q item (after net x)) (sym is)
    (subst (λ x. HandledAs net q item (after net (ByDevice x))) same
    (becomes_answer net q item response only
    (subst (λ x. Needs net (ByDevice x)) (sym same) needs)))

-- ---- an endpoint that rests

pub is_empty : (node : ℕ) (made : Collected) → Lacked Empty ∷ [] ≡ collect_lines node made
    → made ≡ Collects.Empty
is_empty node Collects.Empty is = refl
is_empty node _ is = absurd cc

pub none_first_held : (device : Registers) (face : Face) → collected device face ≡ Collects.Empty
    → first_held face ≡ None
none_first_held device face is = by_head (first_held face) refl is
  where
    by_room : (room : Bool) (request response : List ℕ)
        → (if room then Collects.Answered request response else Collects.Full) ≡ Collects.Empty → ⊥
    by_room true request response is = absurd cc
    by_room false request response is = absurd cc

    by_request : (packet : List ℕ) (asks : Option Request)
        → collected_of device face packet asks ≡ Collects.Empty → ⊥
    by_request packet None is = absurd cc
    by_request packet (Some request) is =
        by_room (has_room face
        (prio_of (response_bytes (request_answered device request 0).response)))
        packet (response_bytes (request_answered device request 0).response) is

    by_head : (head : Option (List ℕ)) → first_held face ≡ head
        → collected_head device face head ≡ Collects.Empty → first_held face ≡ None
    by_head None here is = here
    by_head (Some packet) here is = absurd (by_request packet (request_of packet) is)

pub endpoint_rests : (net : Network) (node : ℕ) (q : PortRef) (item : Item)
    → IsOnly net (Held q) item → prio_of item.now < 4 → q ≡ port_of node
    → IsCollect net node (Lacked Empty ∷ []) → ⊥
endpoint_rests net node q item only few here is =
    let face = face_in net (port_of node) in
    let none = none_first_held is.device face (is_empty node _ is.lines) in
    let empty = greatest-none (head_of face) 4 (prio_of item.now) none few in
    let head : head_of face (prio_of item.now) ≡ Some item.now =
    ap (λ p. head_of (face_in net p) (prio_of item.now)) (sym here)
    ∙ head_is net q item only few in
    absurd (cc (empty, head))

-- ---- an endpoint that has no room

-- a packet is held, and some priority has no room
pub record IsFull (face : Face) : Type 0 where
  pub packet : List ℕ
  pub held : first_held face ≡ Some packet
  pub prio : ℕ
  pub none : has_room face prio ≡ false

is_full : (node : ℕ) (made : Collected) → Lacked Full ∷ [] ≡ collect_lines node made
    → made ≡ Collects.Full
is_full node (Collects.Left packet) is = absurd cc
is_full node (Collects.Answered request response) is = absurd cc
is_full node Collects.Empty is = absurd cc
is_full node Collects.Full is = refl

full_held : (device : Registers) (face : Face) → collected device face ≡ Collects.Full → IsFull face
full_held device face is = by_head (first_held face) refl is
  where
    by_room : (packet : List ℕ) (r : ℕ) (room : Bool) (request response : List ℕ)
        → first_held face ≡ Some packet → has_room face r ≡ room
        → (if room then Collects.Answered request response else Collects.Full) ≡ Collects.Full
        → IsFull face
    by_room packet r true request response held room is = absurd cc
    by_room packet r false request response held room is =
        record { packet = packet; held = held; prio = r; none = room }

    by_request : (packet : List ℕ) (asks : Option Request) → first_held face ≡ Some packet
        → collected_of device face packet asks ≡ Collects.Full → IsFull face
    by_request packet None held is = absurd cc
    by_request packet (Some request) held is =
        let response = response_bytes (request_answered device request 0).response in
        by_room packet (prio_of response) (has_room face (prio_of response)) packet response held
        refl is

    by_head : (head : Option (List ℕ)) → first_held face ≡ head
        → collected_head device face head ≡ Collects.Full → IsFull face
    by_head None here is = absurd cc
    by_head (Some packet) here is = by_request packet (request_of packet) here is

pub full_is : (net : Network) (node : ℕ) → IsCollect net node (Lacked Full ∷ [])
    → IsFull (face_in net (port_of node))
full_is net node is = full_held is.device (face_in net (port_of node)) (is_full node _ is.lines)

-- then a packet is first there
full_first : (s : Seen) (node : ℕ) → IsGood s → IsCollect s.network node (Lacked Full ∷ [])
    → (packet : List ℕ) × IsFirst s.network (port_of node) packet
full_first s node good is =
    let full = full_is s.network node is in
    let at = greatest_first-is (head_of (face_in s.network (port_of node))) 4 full.packet full.held
    in (
      full.packet,
      (head_held s.network (port_of node) at.0 full.packet (good_by_priority good)
          at.2).first,
    )

no_lane : (lanes : ℕ → List Item) (r : ℕ) → ((k : ℕ) → lanes k ≡ [])
    → list_at (lists_in lanes) r ≡ []
no_lane lanes zero none = ap (map (λ (item : Item). item.now)) (none 0)
no_lane lanes (suc zero) none = ap (map (λ (item : Item). item.now)) (none 1)
no_lane lanes (suc (suc zero)) none = ap (map (λ (item : Item). item.now)) (none 2)
no_lane lanes (suc (suc (suc zero))) none = ap (map (λ (item : Item). item.now)) (none 3)
no_lane lanes (suc (suc (suc (suc r)))) none = refl

-- where nothing waits there is room
not_full : (net : Network) (node : ℕ) → ((r : ℕ) → net.waiting (port_of node) r ≡ [])
    → net.lent (port_of node) ≡ [] → IsCollect net node (Lacked Full ∷ []) → ⊥
not_full net node waiting lent is =
    let full = full_is net node is in
    let queued : list_at (lists_in (queue net (port_of node))) full.prio ≡ [] =
    no_lane (queue net (port_of node)) full.prio
    (λ k i. filter (λ item. prio_of item.now == k) (lent i) ++ waiting k i) in
    let room : has_room (face_in net (port_of node)) full.prio ≡ true =
    ap (λ (l : List (List ℕ)). nat_lt (length l) 16) queued in
    let bad : true ≡ false = sym room ∙ full.none in absurd cc

-- ---- one endpoint

pub collect_lines_made : (s : Seen) (node : ℕ) (block : List TraceLine) → IsGood s
    → s.undetected ≡ None → IsCollect s.network node block → Made s block
collect_lines_made s node block good none is = block_made (Collect node) s block good none is

pub collects_none : (s : Seen) (node : ℕ) (lines : List TraceLine) → IsGood s → NoneHeld s.network
    → CollectsAll s node lines → lines ≡ []
collects_none s node lines good none (CollectRests move is) = is
collects_none s node lines good none (CollectStops move is) =
    let first = full_first s node good move in
    absurd (none_first _ first.0 (none (port_of node) (prio_of first.0)) first.1)
collects_none s node lines good none (CollectGoes step rest move is more) =
    let first = makes_first s.network node step (collect_makes s node step good move) in
    absurd (none_first _ first.0 (none (port_of node) (prio_of first.0)) first.1)

pub collects_other : (s : Seen) (node : ℕ) (lines : List TraceLine) (q : PortRef) (item : Item)
    → IsGood s → IsOnly s.network (Held q) item → (q ≡ port_of node → ⊥) → CollectsAll s node lines
    → lines ≡ []
collects_other s node lines q item good only other (CollectRests move is) = is
collects_other s node lines q item good only other (CollectStops move is) =
    let first = full_first s node good move in
    absurd (other (sym (is_one s.network q (port_of node) item first.0 only first.1).0))
collects_other s node lines q item good only other (CollectGoes step rest move is more) =
    let first = makes_first s.network node step (collect_makes s node step good move) in
    absurd (other (sym (is_one s.network q (port_of node) item first.0 only first.1).0))

collects_own : (s : Seen) (node : ℕ) (lines : List TraceLine) (q : PortRef) (item : Item) → IsGood s
    → s.undetected ≡ None → IsOnly s.network (Held q) item → Passes item.now → q ≡ port_of node
    → CollectsAll s node lines → HasRun s lines (HandledAs s.network q item)
collects_own s node lines q item good still only passes here (CollectRests move is) =
    absurd (endpoint_rests s.network node q item only (few_prio item.now passes) here move)
collects_own s node lines q item good still only passes here (CollectStops move is) =
    absurd (not_full s.network node (only.waiting (port_of node)) (only.lent (port_of node)) move)
collects_own s node lines q item good still only passes here
    (CollectGoes step rest move is more) =
    let one = collect_lines_made s node (Stepped step ∷ []) good still move in
    let kept = made_keeps good one in
    let t = seen_line s (Stepped step) in
    let becomes = makes_becomes s.network node step q item only
    (collect_makes s node step good move) in
    let none = collects_none t node rest kept.good (none_held s.network t.network q item becomes)
    more in
    let whole : lines ≡ Stepped step ∷ [] = is ∙ ap (λ (l : List TraceLine). Stepped step ∷ l) none
    in
    subst (λ l. HasRun s l (HandledAs s.network q item)) (sym whole)
    (run_of s (Stepped step ∷ []) (HandledAs s.network q item) good one becomes)

-- ---- all endpoints but the host

pub collect_quiet : (host : ℕ) (devices : List Registers) (k : ℕ) (s : Seen)
    (lines : List TraceLine)
    → ((node : ℕ) (own : List TraceLine) → k ≤ node → (node == host) ≡ false
    → CollectsAll s node own → own ≡ []) → CollectNodes host k devices s lines
    → (seen s lines).undetected ≡ None → lines ≡ []
collect_quiet host [] k s lines quiet collects still = collects
collect_quiet host (device ∷ devices) k s lines quiet collects still =
    by_both (is_switch device) (k == host) refl collects
    (λ rest above more behind. collect_quiet host devices (suc k) s rest
    (λ node own below. quiet node own (omega (arith, below))) more behind)
  where
    by_both : (kind own : Bool) → (k == host) ≡ own
        → MatchBool (kind || own) (CollectNodes host (suc k) devices s lines)
        (Joined (CollectsAll s k) (CollectNodes host (suc k) devices) s lines)
        → ((rest : List TraceLine) → ⊤ → CollectNodes host (suc k) devices s rest
        → (seen s rest).undetected ≡ None → rest ≡ []) → lines ≡ []
    by_both true own is more again = again lines tt more still
    by_both false true is more again = again lines tt more still
    by_both false false is joined again =
        let parts = split (CollectsAll s k) (CollectNodes host (suc k) devices) s lines joined still
        in
        let first = quiet k parts.first (omega arith) is parts.own in
        let here : seen s parts.first ≡ s = ap (seen s) first in
        nothing_by parts.first parts.rest lines parts.whole first
        (again parts.rest tt (subst (λ x. CollectNodes host (suc k) devices x parts.rest) here
        parts.more)
        (sym (ap (λ (x : Seen). x.undetected) (parts.after ∙ ap (λ x. seen x parts.rest) here))
        ∙ still))

-- The endpoint that has received the packet collects it, and no other has anything to collect.
pub collect_endpoint : (host n : ℕ) (devices : List Registers) (k : ℕ) (s : Seen)
    (lines : List TraceLine) (q : PortRef) (item : Item) (device : Registers)
    → slice_get devices n ≡ Some device → is_switch device ≡ false → q.node ≡ n + k
    → (q.node == host) ≡ false
    → IsGood s → s.undetected ≡ None → IsOnly s.network (Held q) item → Passes item.now
    → q ≡ port_of q.node → CollectNodes host k devices s lines
    → (seen s lines).undetected ≡ None → HasRun s lines (HandledAs s.network q item)
collect_endpoint host n [] k s lines q item device stands kind here away good none only passes port
    collects still = absurd cc
collect_endpoint host zero (head ∷ devices) k s lines q item device stands kind here away good none
    only passes port collects still =
    let it : head ≡ device = cc in
    let node : q.node ≡ k = omega (arith, here) in
    let tests : (is_switch head || (k == host)) ≡ false =
    (λ i. is_switch (it i) || (sym node i == host)) ∙ (λ i. kind i || away i) in
    let joined : Joined (CollectsAll s k) (CollectNodes host (suc k) devices) s lines =
    subst (λ b. MatchBool b (CollectNodes host (suc k) devices s lines)
    (Joined (CollectsAll s k) (CollectNodes host (suc k) devices) s lines)) tests collects in
    let parts = split (CollectsAll s k) (CollectNodes host (suc k) devices) s lines joined still in
    let own = collects_own s k parts.first q item good none only passes (port ∙ ap port_of node)
    parts.own in
    let rest = collect_quiet host devices (suc k) (seen s parts.first) parts.rest
    (λ other more above apart. collects_none (seen s parts.first) other more own.good
    (none_held s.network (seen s parts.first).network q item own.is)) parts.more
    (sym (ap (λ (x : Seen). x.undetected) parts.after) ∙ still) in
    subst (λ l. HasRun s l (HandledAs s.network q item))
    (sym (parts.whole ∙ ap (λ (l : List TraceLine). parts.first ++ l) rest
    ∙ append-nil parts.first)) own
collect_endpoint host (suc n) (head ∷ devices) k s lines q item device stands kind here away good
    none only passes port collects still =
    by_test (is_switch head || (k == host))
    (λ more. collect_endpoint host n devices (suc k) s lines q item device stands kind
    (omega (arith, here)) away good none only passes port more still)
    (λ joined.
    let parts = split (CollectsAll s k) (CollectNodes host (suc k) devices) s lines joined still in
    let first = collects_other s k parts.first q item good only (λ same. let node : q.node ≡ k =
    ap (λ (p : PortRef). p.node) same in omega (arith, here, node)) parts.own in
    let there : seen s parts.first ≡ s = ap (seen s) first in
    let lines_are : lines ≡ parts.rest = parts.whole ∙ ap (λ (l : List TraceLine). l ++ parts.rest)
    first in
    subst (λ l. HasRun s l (HandledAs s.network q item)) (sym lines_are)
    (collect_endpoint host n devices (suc k) s parts.rest q item device stands kind
    (omega (arith, here)) away good none only passes port
    (subst (λ x. CollectNodes host (suc k) devices x parts.rest) there parts.more)
    (ap (λ (l : List TraceLine). (seen s l).undetected) (sym lines_are) ∙ still))) collects
