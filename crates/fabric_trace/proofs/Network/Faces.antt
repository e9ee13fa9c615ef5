-- What a switch or an endpoint does by the lists of its ports is a step of the network that has
-- what it needs.
use Rattle.fabric_trace.proofs.Prelude.{◌≡◌, inl, inr, ℕ, zero, suc, ◌+◌, ◌<◌, ◌==◌, ◌&&◌, nat_lt, Bool, true, false, List, [], ◌∷◌, filter, length, Option, Some, None, option_map, option_and_then, slice_get, refl, sym, ap, ◌∙◌, subst, arith, if◌then◌else◌, length-append, ⊤, AllByRecursion, and_parts, nat_tests, length-map, prio_of, dest_of, is_request, Passes, list_at, Registers, is_switch, Next, Nowhere, RegisterUnit, Port, Request, is_foreign, is_at_end, to_port, next_of, request_of, response_bytes, request_answered, Moved, Dropped, Answered, Nothing, Collected, Face, face_at, head_of, has_room, answer_step, step_to, step_of, first_held, collected_of, collected_head, collected, first_step_by, greatest_first-is, PortRef, ByPriority, Item, Network, port_of, first_packet, to_send, room_out, IsEndpoint, IsSwitch, next_at, response_at, few_prio, face_in, faces_from, faces_in, lists_in, queue}
use Rattle.maint_registers.specs.Routes.{port_named, next_port}
use Rattle.switch_core.specs.declared.switch.Step as switch
use Rattle.switch_core.specs.declared.endpoint.Collected.TheVariants as Collects
use Rattle.switch_core.proofs.RequestLaws.{request_there}
use Rattle.fabric_model.specs.Steps.{Leave, Move, Drop, Answer, AtNode, ByDevice, Needs, IsFirst}
use Rattle.fabric_trace.proofs.Network.Lanes.{first_is, lane_at, has_lane}

-- ---- the lists of a port

pub first_prio : (items : List Item) (r : ℕ) (packet : List ℕ)
    → AllByRecursion (λ item. prio_of item.now ≡ r) items → first_packet items ≡ Some packet
    → prio_of packet ≡ r
first_prio [] r packet all is = absurd cc
first_prio (item ∷ items) r packet all is =
    let same : item.now ≡ packet = cc
    in
    ap prio_of (sym same) ∙ all.0

-- A packet that is the first of a list: it has one of four priorities, and is the first that the
-- port has received of its own.
pub record IsHeld (net : Network) (p : PortRef) (packet : List ℕ) : Type 0 where
  pub few : prio_of packet < 4
  pub first : IsFirst net p packet

pub head_held : (net : Network) (p : PortRef) (r : ℕ) (packet : List ℕ) → ByPriority net
    → head_of (face_in net p) r ≡ Some packet → IsHeld net p packet
head_held net p r packet by is =
    let few = has_lane (net.received p) r packet is in
    let first =
    first_is (net.received p r) packet
    (sym (ap (λ (l : List (List ℕ)). slice_get l 0) (lane_at (net.received p) r few)) ∙ is)
    in
    let prio = first_prio (net.received p r) r packet (by.received p r) first in
    record {
      few = omega (arith, few, prio);
      first = subst (λ q. first_packet (net.received p q) ≡ Some packet) (sym prio) first;
    }

-- there is room in the lists if there is in the network
pub room_is : (net : Network) (p : PortRef) (r : ℕ) → r < 4 → room_out net p r
    ≡ has_room (face_in net p) r
room_is net p r few =
    let lent = filter (λ item. prio_of item.now == r) (net.lent p) in
    let at = ap length (lane_at (queue net p) r few) in
    let packets = length-map (queue net p r) (λ (item : Item). item.now) in
    let both = length-append lent (net.waiting p r) in
    let same : to_send net p r ≡ length (list_at (lists_in (queue net p)) r) =
    omega (arith, at, packets, both) in
    ap (λ n. nat_lt n 16) same

face_from : (net : Network) (node port n i : ℕ) → i < n → face_at (faces_from net node port n) i
    ≡ face_in net (record { node = node; port = port + i })
face_from net node port zero i below = absurd (omega arith)
face_from net node port (suc n) zero below =
    let same : port ≡ port + 0 = omega arith
    in
    ap (λ k. face_in net (record { node = node; port = k })) same
face_from net node port (suc n) (suc i) below =
    let same : suc port + i ≡ port + suc i = omega arith in
    face_from net node (suc port) n i (omega arith)
    ∙ ap (λ k. face_in net (record { node = node; port = k })) same

-- the lists at a place are those of the port there
pub face_is : (net : Network) (node : ℕ) (device : Registers) (i : ℕ) → i < device.ports
    → face_at (faces_in net node device) i ≡ face_in net (record { node = node; port = i })
face_is net node device i below =
    let same : 0 + i ≡ i = omega arith in
    face_from net node 0 device.ports i below
    ∙ ap (λ k. face_in net (record { node = node; port = k })) same

-- ---- the registers

pub kind_is : (net : Network) (node : ℕ) (device : Registers) (kind : Bool)
    → slice_get net.registers node ≡ Some device
    → option_map is_switch (slice_get net.registers node) ≡ Some kind → is_switch device ≡ kind
kind_is net node device kind stands is =
    let same : Some (is_switch device) ≡ Some kind = sym (ap (option_map is_switch) stands) ∙ is
    in
    cc

pub next_is : (net : Network) (node : ℕ) (device : Registers) (packet : List ℕ)
    → slice_get net.registers node ≡ Some device → IsSwitch net node → next_at net node packet
    ≡ Some (next_of device packet)
next_is net node device packet stands kind =
    ap (option_and_then (λ (d : Registers). if is_switch d then Some (next_of d packet) else None))
    stands
    ∙ ap (λ k. if k then Some (next_of device packet) else None)
    (kind_is net node device true stands kind)

pub response_is : (net : Network) (p : PortRef) (device : Registers) (packet : List ℕ)
    (request : Request) → slice_get net.registers p.node ≡ Some device → request_of packet
    ≡ Some request
    → response_at net p packet
    ≡ Some (response_bytes (request_answered device request p.port).response)
response_is net p device packet request stands asks =
    ap (option_and_then
    (λ (d : Registers).
    option_map (λ (r : Request). response_bytes (request_answered d r p.port).response)
    (request_of packet))) stands
    ∙ ap (option_map (λ (r : Request). response_bytes (request_answered device r p.port).response))
    asks

-- the port to which a packet goes is one of the device
pub port_there : (device : Registers) (packet : List ℕ) (to : ℕ) → next_of device packet ≡ Port to
    → to
    < device.ports
port_there device packet to is = by_tests (is_foreign packet) (is_at_end packet) (is_request packet)
    is
  where
    of_some : (test : Bool) (n : ℕ) → (test ≡ true → n < device.ports)
        → to_port (if test then Some n else None) ≡ Port to → to < device.ports
    of_some true n below is =
        let same : n ≡ to = cc
        in
        subst (λ k. k < device.ports) same (below refl)
    of_some false n below is = absurd cc

    of_dest : (dest : Option ℕ) → to_port (option_and_then (next_port device) dest) ≡ Port to
        → to < device.ports
    of_dest None is = absurd cc
    of_dest (Some dest) is =
        of_some (is_switch device && nat_lt (port_named device dest) device.ports)
        (port_named device dest)
        (λ both. let less = (and_parts (is_switch device)
        (nat_lt (port_named device dest) device.ports) both).1 in grind (arith, nat_tests, less))
        is

    by_tests : (foreign end request : Bool)
        → (if foreign then Nowhere else
        (if end then (if request then RegisterUnit else Nowhere) else to_port
        (option_and_then (next_port device) (dest_of packet)))) ≡ Port to → to < device.ports
    by_tests true end request is = absurd cc
    by_tests false true true is = absurd cc
    by_tests false true false is = absurd cc
    by_tests false false request is = of_dest (dest_of packet) is

-- ---- a switch

-- what the network needs for a step of a switch
abbrev pub StepNeeds : Network → ℕ → switch.Step → Type 0
StepNeeds net node (Moved from to packet) =
    Needs net
    (ByDevice
    (Move (record { node = node; port = from }) (record { node = node; port = to }) packet))
StepNeeds net node (Dropped from packet) =
    Needs net (ByDevice (Drop (record { node = node; port = from }) packet))
StepNeeds net node (Answered port request response) = Passes response
    → Needs net (ByDevice (Answer (record { node = node; port = port }) request response))
StepNeeds net node Nothing = ⊤

-- what is made if a test holds
pub if_some : {X : Type 0} (test : Bool) (x y : X) → (if test then Some x else None) ≡ Some y
    → (test ≡ true) × (x ≡ y)
if_some true x y is = (refl, cc)
if_some false x y is = absurd cc

module _ (net : Network) (node : ℕ) (device : Registers) (by : ByPriority net)
    (stands : slice_get net.registers node ≡ Some device) (kind : IsSwitch net node) where
  answer_needs : (port : ℕ) (packet : List ℕ) (asks : Option Request) (step : switch.Step) → port
      < device.ports → IsHeld net (record { node = node; port = port }) packet
      → next_of device packet ≡ RegisterUnit → request_of packet ≡ asks
      → answer_step device (faces_in net node device) port packet asks ≡ Some step
      → StepNeeds net node step
  answer_needs port packet None step there held next asks is = absurd cc
  answer_needs port packet (Some request) step there held next asks is =
      let p : PortRef = record { node = node; port = port } in
      let response = response_bytes (request_answered device request port).response in
      let made = if_some (has_room (face_at (faces_in net node device) port) (prio_of response))
      (Answered port packet response) step is in
      subst (StepNeeds net node) made.1
      (λ form. (
        held.first,
        inr (next_is net node device packet stands kind ∙ ap Some next),
        response_is net p device packet request stands asks,
        form,
        room_is net p (prio_of response) (few_prio response form)
            ∙ ap (λ (f : Face). has_room f (prio_of response))
            (sym (face_is net node device port there)) ∙ made.0,
      ))

  to_needs : (port : ℕ) (packet : List ℕ) (next : Next) (step : switch.Step) → port < device.ports
      → IsHeld net (record { node = node; port = port }) packet
      → next_of device packet ≡ next → step_to device (faces_in net node device) port packet next
      ≡ Some step → StepNeeds net node step
  to_needs port packet Nowhere step there held next is =
      let same : Dropped port packet ≡ step = cc in
      subst (StepNeeds net node) same
      (held.first, next_is net node device packet stands kind ∙ ap Some next)
  to_needs port packet RegisterUnit step there held next is =
      answer_needs port packet (request_of packet) step there held next refl is
  to_needs port packet (Port to) step there held next is =
      let q : PortRef = record { node = node; port = to } in
      let made = if_some (has_room (face_at (faces_in net node device) to) (prio_of packet))
      (Moved port to packet) step is in
      subst (StepNeeds net node) made.1 (
        refl,
        held.first,
        next_is net node device packet stands kind ∙ ap Some next,
        room_is net q (prio_of packet) held.few ∙ ap (λ (f : Face). has_room f (prio_of packet))
            (sym (face_is net node device to (port_there device packet to next))) ∙ made.0,
      )

  -- a switch's step has what it needs
  pub step_needs : StepNeeds net node (step_of device (faces_in net node device))
  step_needs = first_step_by (StepNeeds net node) device (faces_in net node device) tt
      (λ port r packet step there head is.
      let p : PortRef = record { node = node; port = port } in
      let own : head_of (face_in net p) r ≡ Some packet =
      ap (λ (f : Face). head_of f r) (sym (face_is net node device port there)) ∙ head in
      to_needs port packet (next_of device packet) step there (head_held net p r packet by own) refl
      is)

-- ---- an endpoint

-- what the network needs for what an endpoint collects
abbrev pub CollectNeeds : Network → ℕ → Collected → Type 0
CollectNeeds net node (Collects.Left packet) = (prio_of packet < 4)
    × Needs net (AtNode (Leave node packet))
CollectNeeds net node (Collects.Answered request response) = Passes response
    → Needs net (ByDevice (Answer (port_of node) request response))
CollectNeeds net node Collects.Empty = ⊤
CollectNeeds net node Collects.Full = ⊤

pub not_asked : (packet : List ℕ) → request_of packet ≡ None → is_request packet ≡ false
not_asked packet none = by_test (is_request packet) refl
  where
    by_test : (asks : Bool) → is_request packet ≡ asks → is_request packet ≡ false
    by_test true is = let found = request_there packet is in absurd (cc (none, found.1))
    by_test false is = is

module _ (net : Network) (node : ℕ) (device : Registers) (by : ByPriority net)
    (stands : slice_get net.registers node ≡ Some device) (endpoint : IsEndpoint net node) where
  answers_need : (packet : List ℕ) (request : Request) (room : Bool)
      → IsHeld net (port_of node) packet → request_of packet ≡ Some request
      → has_room (face_in net (port_of node))
      (prio_of (response_bytes (request_answered device request 0).response)) ≡ room
      → CollectNeeds net node
      (if room then Collects.Answered packet
      (response_bytes (request_answered device request 0).response) else Collects.Full)
  answers_need packet request true held asks room = λ form.
      let response = response_bytes (request_answered device request 0).response in (
        held.first,
        inl endpoint,
        response_is net (port_of node) device packet request stands asks,
        form,
        room_is net (port_of node) (prio_of response) (few_prio response form) ∙ room,
      )
  answers_need packet request false held asks room = tt

  packet_needs : (packet : List ℕ) (asks : Option Request) → IsHeld net (port_of node) packet
      → request_of packet ≡ asks
      → CollectNeeds net node (collected_of device (face_in net (port_of node)) packet asks)
  packet_needs packet None held asks = (held.few, (endpoint, held.first, not_asked packet asks))
  packet_needs packet (Some request) held asks =
      answers_need packet request
      (has_room (face_in net (port_of node))
      (prio_of (response_bytes (request_answered device request 0).response))) held asks refl

  held_needs : (head : Option (List ℕ)) → first_held (face_in net (port_of node)) ≡ head
      → CollectNeeds net node (collected_head device (face_in net (port_of node)) head)
  held_needs None is = tt
  held_needs (Some packet) is =
      let at = greatest_first-is (head_of (face_in net (port_of node))) 4 packet is in
      packet_needs packet (request_of packet) (head_held net (port_of node) at.0 packet by at.2)
      refl

  -- what an endpoint collects has what it needs
  pub collect_needs : CollectNeeds net node (collected device (face_in net (port_of node)))
  collect_needs = held_needs (first_held (face_in net (port_of node))) refl
