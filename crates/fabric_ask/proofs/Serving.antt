-- A switch and the one packet.
use Rattle.fabric_ask.proofs.Prelude.{◌≡◌, ℕ, zero, suc, ◌+◌, ◌<◌, ◌==◌, ◌&&◌, nat_lt, Bool, true, false, List, [], ◌∷◌, ◌++◌, map, filter, length, Option, Some, None, slice_get, unwrap_or, refl, sym, ap, ◌∙◌, subst, arith, inl, inr, if◌then◌else◌, ⊤, and_parts, cases_eq, prio_of, is_request, dest_of, Passes, Registers, next_port, Next, Nowhere, RegisterUnit, Port, Request, is_foreign, is_at_end, to_port, next_of, request_of, response_bytes, request_answered, Face, face_at, head_of, has_room, least_first, greatest_first, least_first-is, greatest_first-is, least_first-found, greatest_first-found, greatest_first-passed, PortRef, port_at, Item, Network, same_port, to_send, DeviceStep, Move, Drop, Answer, ByDevice, Needs, IsFirst, behind_first, only_first, moved_item, item_of, without_first, with_waiting, after, port_by, moves_on, named_goes, sent_by, port_is, Seen, NoStep, Stepped, Lacked, face_in, faces_in, step_lines, ResponseHasForm, IsMove, room_is, face_is, port_there, StepNeeds, step_needs, IsGood, good_by_priority, lane_at, option_and_then, Spot, Held, Waits, alone, IsOnly, IsClear}
use Rattle.switch_core.specs.declared.switch.Step as switch
use Rattle.switch_core.specs.declared.switch.Step.TheVariants.{Moved, Dropped, Answered, Nothing}
use Rattle.switch_core.specs.SwitchSteps.{answer_step, step_to, step_of_head, step_at, first_step, step_of}
use Rattle.switch_core.proofs.RequestLaws.{request_there, answer_prio}
use Rattle.fabric_ask.specs.Course.{IsDevicePort, HandledAs, Moves, Falls, IsHeard}
use Rattle.fabric_ask.proofs.Alone.{first_in, chosen, and_refl, gone}

-- ---- what steps make of the one packet

-- the packet is taken away
pub cleared : (net : Network) (q : PortRef) (item : Item) → IsOnly net (Held q) item
    → IsClear (without_first net q (prio_of item.now))
cleared net q item only = record {
  received = λ c s. gone (same_port c q && (s == prio_of item.now)) _ _ behind
      (λ other. only.received c s ∙ ap (λ b. alone b item) other);
  waiting = only.waiting;
  lent = only.lent;
}
  where
    behind : behind_first (net.received q (prio_of item.now)) ≡ []
    behind = ap behind_first (only.received q (prio_of item.now)
        ∙ ap (λ b. alone b item) (and_refl q (prio_of item.now)))

-- an item is put where nothing is
pub put_only : (net : Network) (q : PortRef) (r : ℕ) (items : List Item) (item : Item) → IsClear net
    → items ≡ item ∷ [] → r ≡ prio_of item.now → IsOnly (with_waiting net q r items) (Waits q) item
put_only net q r items item clear one prio = record {
  received = clear.received;
  waiting = λ c s. chosen (same_port c q && (s == r)) _ _ item (λ i. clear.waiting q r i ++ one i)
      (clear.waiting c s) ∙ ap (λ k. alone (same_port c q && (s == k)) item) prio;
  lent = clear.lent;
}

-- the same with other registers, and one more number given out
again : (net : Network) (spot : Spot) (item : Item) (given : ℕ) (devices : List Registers)
    → IsOnly net spot item → IsOnly (record net { given = given; registers = devices }) spot item
again net spot item given devices only =
    record { received = only.received; waiting = only.waiting; lent = only.lent }

-- the packet that a step takes is the one
pub is_one : (net : Network) (q p : PortRef) (item : Item) (packet : List ℕ)
    → IsOnly net (Held q) item → IsFirst net p packet → (p ≡ q) × (packet ≡ item.now)
is_one net q p item packet only first =
    let there = first_in (net.received p (prio_of packet))
    (same_port p q && (prio_of packet == prio_of item.now)) item packet
    (only.received p (prio_of packet)) first in (
      port_is p q (and_parts (same_port p q) (prio_of packet == prio_of item.now) there.0).0,
      sym
          there.1,
    )

pub first_only : (net : Network) (q : PortRef) (item : Item) → IsOnly net (Held q) item
    → net.received q (prio_of item.now) ≡ item ∷ []
first_only net q item only = only.received q (prio_of item.now)
    ∙ ap (λ b. alone b item) (and_refl q (prio_of item.now))

becomes_move : (net : Network) (q to : PortRef) (item : Item) → IsOnly net (Held q) item
    → Passes item.now → Needs net (ByDevice (Move q to item.now))
    → HandledAs net q item (after net (ByDevice (Move q to item.now)))
becomes_move net q to item only passes needs =
    let sent = sent_by net q.node item.now (Port to.port) needs.2 in
    let on = moves_on item.now passes (named_goes sent.device item.now to.port sent.sends) in
    let here : to ≡ port_at q.node to.port = λ i. record { node = needs.0 i; port = to.port } in
    let first : only_first (map moved_item (net.received q (prio_of item.now))) ≡ moved_item item ∷
    [] = ap (λ (l : List Item). only_first (map moved_item l)) (first_only net q item only) in
    Moves to.port needs.2 (subst (λ x. IsOnly (after net (ByDevice (Move q to item.now))) (Waits x)
    (moved_item item)) here
    (put_only (without_first net q (prio_of item.now)) to (prio_of item.now) _ (moved_item item)
    (cleared net q item only) first (sym on.prio))) refl

becomes_drop : (net : Network) (q : PortRef) (item : Item) → IsOnly net (Held q) item
    → Needs net (ByDevice (Drop q item.now))
    → HandledAs net q item (after net (ByDevice (Drop q item.now)))
becomes_drop net q item only needs = Falls needs.1 (cleared net q item only) refl

pub becomes_answer : (net : Network) (q : PortRef) (item : Item) (response : List ℕ)
    → IsOnly net (Held q) item → Needs net (ByDevice (Answer q item.now response))
    → HandledAs net q item (after net (ByDevice (Answer q item.now response)))
becomes_answer net q item response only needs =
    let put = put_only (without_first net q (prio_of item.now)) q (prio_of response)
    (item_of net q response ∷ []) (item_of net q response) (cleared net q item only) refl refl
    in
    IsHeard response needs.1 needs.2 (record {
      received = put.received;
      waiting = put.waiting;
      lent = put.lent;
    }) refl

-- what a step of a device makes of it
pub device_becomes : (net : Network) (q : PortRef) (item : Item) (step : DeviceStep)
    → IsOnly net (Held q) item → Passes item.now → Needs net (ByDevice step)
    → HandledAs net q item (after net (ByDevice step))
device_becomes net q item (Move p to packet) only passes needs =
    let one = is_one net q p item packet only needs.1 in
    subst (λ x. HandledAs net q item (after net (ByDevice x)))
    (λ i. Move (sym one.0 i) to (sym one.1 i))
    (becomes_move net q to item only passes
    (subst (λ x. Needs net (ByDevice x)) (λ i. Move (one.0 i) to (one.1 i)) needs))
device_becomes net q item (Drop p packet) only passes needs =
    let one = is_one net q p item packet only needs.0 in
    subst (λ x. HandledAs net q item (after net (ByDevice x)))
    (λ i. Drop (sym one.0 i) (sym one.1 i))
    (becomes_drop net q item only (subst (λ x. Needs net (ByDevice x))
    (λ i. Drop (one.0 i) (one.1 i)) needs))
device_becomes net q item (Answer p packet response) only passes needs =
    let one = is_one net q p item packet only needs.0 in
    subst (λ x. HandledAs net q item (after net (ByDevice x)))
    (λ i. Answer (sym one.0 i) (sym one.1 i) response)
    (becomes_answer net q item response only
    (subst (λ x. Needs net (ByDevice x)) (λ i. Answer (one.0 i) (one.1 i) response) needs))

-- the port of a step has received something
pub step_first : (net : Network) (step : DeviceStep) → Needs net (ByDevice step) → (packet : List ℕ)
    × IsFirst net (port_by step) packet
step_first net (Move p to packet) needs = (packet, needs.1)
step_first net (Drop p packet) needs = (packet, needs.0)
step_first net (Answer p packet response) needs = (packet, needs.0)

-- ---- a move that is made

pub record IsMade (net : Network) (node : ℕ) (step : DeviceStep) : Type 0 where
  pub needs : Needs net (ByDevice step)
  pub here : (port_by step).node ≡ node

move_made_by : (s : Seen) (node : ℕ) (made : switch.Step) (step : DeviceStep) → ResponseHasForm made
    → StepNeeds s.network node made → Stepped (ByDevice step) ∷ [] ≡ step_lines node made
    → IsMade s.network node step
move_made_by s node (Moved from to packet) step form needs is =
    let same : step ≡ Move (port_at node from) (port_at node to) packet = cc in
    subst (IsMade s.network node) (sym same) (record { needs = needs; here = refl })
move_made_by s node (Dropped from packet) step form needs is =
    let same : step ≡ Drop (port_at node from) packet = cc in
    subst (IsMade s.network node) (sym same) (record { needs = needs; here = refl })
move_made_by s node (Answered port request response) step form needs is =
    let same : step ≡ Answer (port_at node port) request response = cc in
    subst (IsMade s.network node) (sym same) (record { needs = needs form; here = refl })
move_made_by s node Nothing step form needs is = absurd cc

pub move_is : (s : Seen) (node : ℕ) (step : DeviceStep) → IsGood s
    → IsMove s.network node (Stepped (ByDevice step) ∷ []) → IsMade s.network node step
move_is s node step good move =
    move_made_by s node (step_of move.device (faces_in s.network node move.device)) step move.form
    (step_needs s.network node move.device (good_by_priority good) move.stands move.switch)
    move.lines

-- ---- a switch that holds the packet does not rest

no_step : (node : ℕ) (made : switch.Step) → Lacked NoStep ∷ [] ≡ step_lines node made
    → made ≡ Nothing
no_step node (Moved from to packet) is = absurd cc
no_step node (Dropped from packet) is = absurd cc
no_step node (Answered port request response) is = absurd cc
no_step node Nothing is = refl

pub greatest-none : {X : Type 0} (answer : ℕ → Option X) (n m : ℕ) → greatest_first answer n ≡ None
    → m < n → answer m ≡ None
greatest-none answer zero m none below = absurd (omega arith)
greatest-none answer (suc n) m none below = by_last (answer n) refl (greatest-none answer n m)
  where
    by_last : (o : Option _) → answer n ≡ o
        → (greatest_first answer n ≡ None → m < n → answer m ≡ None) → answer m ≡ None
    by_last (Some x) is more = absurd (cc
        (none, greatest_first-found answer n (suc n) x (omega arith) is))
    by_last None is more =
        elim (cases_eq m n) [
          | inl same ↦ ap answer same ∙ is
          | inr other ↦ more (sym (greatest_first-passed answer n (suc n) (omega arith) is) ∙ none)
              (omega arith)
        ]

least-some : {X : Type 0} (answer : ℕ → Option X) (n : ℕ) (x : X) → least_first answer n ≡ Some x
    → least_first answer (suc n) ≡ Some x
unfolding least_first
least-some answer n x is = rw is refl

least-none : {X : Type 0} (answer : ℕ → Option X) (n m : ℕ) → least_first answer n ≡ None → m < n
    → answer m ≡ None
least-none answer zero m none below = absurd (omega arith)
least-none answer (suc n) m none below =
    by_before (least_first answer n) refl (least-none answer n m)
  where
    found : (x : _) → least_first answer n ≡ Some x → least_first answer (suc n) ≡ Some x
    found x is = least-some answer n x is

    by_last : (o : Option _) → answer n ≡ o → least_first answer n ≡ None
        → (m < n → answer m ≡ None) → answer m ≡ None
    by_last (Some x) is before more = absurd
        (cc (none, least_first-found answer (suc n) n x (omega arith) before is))
    by_last None is before more =
        elim (cases_eq m n) [
          | inl same ↦ ap answer same ∙ is
          | inr other ↦ more (omega arith)
        ]

    by_before : (o : Option _) → least_first answer n ≡ o
        → (least_first answer n ≡ None → m < n → answer m ≡ None) → answer m ≡ None
    by_before (Some x) is more = absurd (cc (none, found x is))
    by_before None is more = by_last (answer n) refl is (more is)

-- a step that may be made is one
unfoldable IsSome_step : Option switch.Step → Type 0
IsSome_step None = ⊤
IsSome_step (Some Nothing) = ⊥
IsSome_step (Some (Moved from to packet)) = ⊤
IsSome_step (Some (Dropped from packet)) = ⊤
IsSome_step (Some (Answered port request response)) = ⊤

module _ (device : Registers) (faces : List Face) where
  if_step : (test : Bool) (made : switch.Step) → IsSome_step (Some made)
      → IsSome_step (if test then Some made else None)
  unfolding IsSome_step
  if_step true made is = is
  if_step false made is = tt

  answer_some : (port : ℕ) (packet : List ℕ) (asks : Option Request)
      → IsSome_step (answer_step device faces port packet asks)
  unfolding IsSome_step
  answer_some port packet None = tt
  answer_some port packet (Some request) =
      let response = response_bytes (request_answered device request port).response in
      if_step (has_room (face_at faces port) (prio_of response)) (Answered port packet response) tt

  to_some : (port : ℕ) (packet : List ℕ) (next : Next)
      → IsSome_step (step_to device faces port packet next)
  unfolding IsSome_step
  to_some port packet Nowhere = tt
  to_some port packet RegisterUnit = answer_some port packet (request_of packet)
  to_some port packet (Port to) = if_step (has_room (face_at faces to) (prio_of packet))
      (Moved port to packet) tt

  head_some : (port : ℕ) (head : Option (List ℕ))
      → IsSome_step (step_of_head device faces port head)
  unfolding IsSome_step
  head_some port None = tt
  head_some port (Some packet) = to_some port packet (next_of device packet)

  first_none : step_of device faces ≡ Nothing → first_step device faces ≡ None
  unfolding IsSome_step
  first_none is = by_found (first_step device faces) refl is
    where
      by_found : (found : Option switch.Step) → first_step device faces ≡ found
          → unwrap_or found Nothing ≡ Nothing → first_step device faces ≡ None
      by_found None here nothing = here
      by_found (Some step) here nothing =
          let of_prio = greatest_first-is (λ prio. least_first (step_at device faces prio)
          device.ports) 4 step here in
          let at = least_first-is (step_at device faces of_prio.0) device.ports step of_prio.2 in
          let same : step_at device faces of_prio.0 at.0 ≡ Some Nothing = at.2 ∙ ap Some nothing in
          absurd (subst IsSome_step same (head_some at.0 (head_of (face_at faces at.0) of_prio.0)))

  none_at : (prio port : ℕ) → first_step device faces ≡ None → prio < 4 → port < device.ports
      → step_at device faces prio port ≡ None
  none_at prio port none few below =
      least-none (step_at device faces prio) device.ports port
      (greatest-none (λ r. least_first (step_at device faces r) device.ports) 4 prio none few)
      below

-- a packet that goes to the registers is a request
is_asked : (device : Registers) (packet : List ℕ) → next_of device packet ≡ RegisterUnit
    → is_request packet ≡ true
is_asked device packet is = by_tests (is_foreign packet) (is_at_end packet) (is_request packet)
    (option_and_then (next_port device) (dest_of packet)) is
  where
    by_tests : (foreign end request : Bool) (port : Option ℕ)
        → (if foreign then Nowhere else (if end then (if request then RegisterUnit else Nowhere)
        else to_port port)) ≡ RegisterUnit → request ≡ true
    by_tests true end request port is = absurd cc
    by_tests false true true port is = refl
    by_tests false true false port is = absurd cc
    by_tests false false request None is = absurd cc
    by_tests false false request (Some port) is = absurd cc

-- where nothing waits there is room
pub has_place : (net : Network) (p q : PortRef) (item : Item) (r : ℕ) → IsOnly net (Held q) item
    → r < 4 → has_room (face_in net p) r ≡ true
has_place net p q item r only few = sym (room_is net p r few) ∙ ap (λ n. nat_lt n 16) none
  where
    none : to_send net p r ≡ 0
    none = λ i. length (only.waiting p r i) + length
        (filter (λ item. prio_of item.now == r) (only.lent p i))

-- the packet is the head of its list
pub head_is : (net : Network) (q : PortRef) (item : Item) → IsOnly net (Held q) item
    → prio_of item.now < 4 → head_of (face_in net q) (prio_of item.now) ≡ Some item.now
head_is net q item only few =
    ap (λ (l : List (List ℕ)). slice_get l 0) (lane_at (net.received q) (prio_of item.now) few)
    ∙ ap (λ (l : List Item). slice_get (map (λ (x : Item). x.now) l) 0) (first_only net q item only)

some_not : (test : Bool) (made : switch.Step) → test ≡ true
    → (if test then Some made else None) ≡ None → ⊥
some_not true made holds_some none = absurd cc
some_not false made holds_some none = absurd cc

module _ (net : Network) (node : ℕ) (q : PortRef) (item : Item) (device : Registers)
    (only : IsOnly net (Held q) item) (few : prio_of item.now < 4) (here : q.node ≡ node)
    (below : q.port < device.ports) where
  same_port_here : port_at node q.port ≡ q
  same_port_here = λ i. record { node = sym here i; port = q.port }

  own_face : face_at (faces_in net node device) q.port ≡ face_in net q
  own_face = face_is net node device q.port below ∙ ap (face_in net) same_port_here

  goes_not : (next : Next) → next_of device item.now ≡ next
      → step_to device (faces_in net node device) q.port item.now next ≡ None → ⊥
  goes_not Nowhere is none = absurd cc
  goes_not (Port to) is none =
      let room : has_room (face_at (faces_in net node device) to) (prio_of item.now) ≡ true =
      ap (λ (f : Face). has_room f (prio_of item.now))
      (face_is net node device to (port_there device item.now to is))
      ∙ has_place net (port_at node to) q item (prio_of item.now) only few in
      some_not (has_room (face_at (faces_in net node device) to) (prio_of item.now))
      (Moved q.port to item.now) room none
  goes_not RegisterUnit is none = by_request (request_of item.now)
      (request_there item.now (is_asked device item.now is)).1 none
    where
      by_request : (asks : Option Request) → {request : Request} → asks ≡ Some request
          → answer_step device (faces_in net node device) q.port item.now asks ≡ None → ⊥
      by_request None asks none = absurd cc
      by_request (Some request) asks none =
          let response = response_bytes (request_answered device request q.port).response in
          let prio = answer_prio device request q.port in
          let low : prio_of response < 4 = omega (arith, prio) in
          let room : has_room (face_at (faces_in net node device) q.port)
          (prio_of response) ≡ true =
          ap (λ (f : Face). has_room f (prio_of response)) own_face
          ∙ has_place net q q item (prio_of response) only low in
          some_not (has_room (face_at (faces_in net node device) q.port) (prio_of response))
          (Answered q.port item.now response) room none

  pub rests_not : step_of device (faces_in net node device) ≡ Nothing → ⊥
  rests_not is =
      let none = none_at device (faces_in net node device) (prio_of item.now) q.port
      (first_none device (faces_in net node device) is) few below in
      let head : head_of (face_at (faces_in net node device) q.port) (prio_of item.now) ≡ Some
      item.now = ap (λ (f : Face). head_of f (prio_of item.now)) own_face
      ∙ head_is net q item only few in
      goes_not (next_of device item.now) refl
      (sym (ap (step_of_head device (faces_in net node device) q.port) head) ∙ none)

-- A switch that rests does not hold it.
pub switch_rests : (net : Network) (node : ℕ) (q : PortRef) (item : Item) → IsOnly net (Held q) item
    → prio_of item.now < 4 → IsDevicePort net.registers q → q.node ≡ node
    → IsMove net node (Lacked NoStep ∷ []) → ⊥
switch_rests net node q item only few port here move =
    rests_not net node q item move.device only few here
    (subst (λ (d : Registers). q.port < d.ports) same port.below) (no_step node _ move.lines)
  where
    some_is : (o : Option Registers) (x y : Registers) → o ≡ Some x → o ≡ Some y → x ≡ y
    some_is None x y first second = absurd cc
    some_is (Some z) x y first second = cc

    same : port.device ≡ move.device
    same = some_is (slice_get net.registers q.node) port.device move.device port.stands
        (ap (slice_get net.registers) here ∙ move.stands)
