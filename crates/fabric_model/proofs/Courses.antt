-- The course of a flow: the places that its items pass, one after another, while the routes of its
-- destination stand.
use Rattle.fabric_model.proofs.Prelude.{◌≡◌, ◌⊎◌, inl, inr, ℕ, zero, suc, ◌+◌, ◌==◌, Bool, true, false, List, Option, Some, None, option_map, refl, sym, ap, ◌∙◌, subst, arith, option_and_then, prio_of, ftype_of, dest_of, hop_of, Passes, is_switch, next_port, Next, Nowhere, RegisterUnit, Port, PortRef, Item, Network, port_of, peer_in, switch_at, route_at, End, EndLeft, EndDropped, EndAnswered, ItemPlace, ReceivedAt, WaitingAt, Over, AreProper, SameCourse}
use Rattle.fabric_model.proofs.Peers.{peer_back}
use Rattle.fabric_model.proofs.Boards.{Allowed, Crosses, Turns, Leaves, Falls, IsHeard, Along}
use Rattle.fabric_model.proofs.Moving.{Key, key_of, moved_key, moves_on, named_goes, by_key, Agrees, next_agrees, SentBy, sent_by}

-- What the way of a flow depends on: the links, which nodes are switches, and the route of the one
-- destination.
pub record Chart : Type 0 where
  pub links : List (PortRef × PortRef)
  pub switch : ℕ → Option Bool
  pub route : ℕ → Option ℕ

abbrev pub chart_of : Option ℕ → Network → Chart
chart_of dest net = record { links = net.links; switch = switch_at net; route = route_at net dest }

-- a port of a node
abbrev port_at : ℕ → ℕ → PortRef
port_at n port = record { node = n; port = port }

-- a place, and what is known there of the packet
pub record Spot : Type 0 where
  pub place : ItemPlace
  pub key : Key

-- over the link
abbrev over_link : Option PortRef → PortRef → ℕ → Key → Spot
over_link None p r key = record { place = WaitingAt p r; key = key }
over_link (Some q) p r key = record { place = ReceivedAt q r; key = key }

-- to the port that was named, or dropped
abbrev to_named : Option ℕ → ℕ → ℕ → Key → Spot
to_named None n r key = record { place = Over EndDropped; key = key }
to_named (Some port) n r key = record { place = WaitingAt (port_at n port) r; key = moved_key key }

-- on at a switch, and out of the fabric at an endpoint
abbrev pub at_node : Option Bool → Option ℕ → ℕ → ℕ → Key → Spot
at_node None route n r key = record { place = Over EndLeft; key = key }
at_node (Some false) route n r key = record { place = Over EndLeft; key = key }
at_node (Some true) route n r key = to_named (by_key key.eight key.hop route) n r key

-- the next place
abbrev pub onward : Chart → Key → ItemPlace → Spot
onward chart key (WaitingAt p r) = over_link (peer_in chart.links p) p r key
onward chart key (ReceivedAt p r) = at_node (chart.switch p.node) (chart.route p.node) p.node r key
onward chart key (Over e) = record { place = Over e; key = key }

-- the place after so many
abbrev pub course : Chart → Spot → ℕ → Spot
course chart spot zero = spot
course chart spot (suc n) = onward chart (course chart spot n).key (course chart spot n).place

-- An item stands where its course says, or was answered where the course ends.
pub data Fits : ItemPlace → ItemPlace → Type 0 where
  Stands : (place : ItemPlace) → Fits place place
  Ends : (e : End) → Fits (Over EndAnswered) (Over e)

-- An item at a place of its course that is no end stands there.
pub fits_open : (a b : ItemPlace) → Fits a b → ((e : End) → b ≡ Over e → ⊥) → a ≡ b
fits_open a b (Stands place) goes_on = refl
fits_open a b (Ends e) goes_on = absurd (goes_on e refl)

pub fits_from : (a b : ItemPlace) → Fits a b → ((e : End) → a ≡ Over e → ⊥) → b ≡ a
fits_from a b (Stands place) goes_on = refl
fits_from a b (Ends e) goes_on = absurd (goes_on EndAnswered refl)

pub fits_same : (a b : ItemPlace) → a ≡ b → Fits a b
fits_same a b same = subst (Fits a) same (Stands a)

-- what has left by its course has left, or was answered
pub fits_left : (a : ItemPlace) → Fits a (Over EndLeft) → (a ≡ Over EndLeft)
    ⊎ (a ≡ Over EndAnswered)
fits_left a (Stands place) = inl refl
fits_left a (Ends e) = inr refl

-- where a course is over, it stays
pub course_ends : (chart : Chart) (spot : Spot) (i more : ℕ) (e : End) → (course chart spot i).place
    ≡ Over e → (course chart spot (more + i)).place ≡ Over e
course_ends chart spot i zero e is =
    let none : i ≡ zero + i = omega arith in
    subst (λ k. (course chart spot k).place ≡ Over e) none is
course_ends chart spot i (suc more) e is =
    let further : suc (more + i) ≡ suc more + i = omega arith in
    subst (λ k. (course chart spot k).place ≡ Over e) further
    (ap (λ place. (onward chart (course chart spot (more + i)).key place).place)
    (course_ends chart spot i more e is))

-- What is allowed is the next place of a course.
pub record IsNext (spot : Spot) (to : ItemPlace) (packet : List ℕ) : Type 0 where
  pub fits : Fits to spot.place
  pub key : key_of packet ≡ spot.key

by_spot : {to : ItemPlace} {packet : List ℕ} (spot other : Spot) → spot ≡ other
    → IsNext other to packet
    → IsNext spot to packet
by_spot {to} {packet} spot other same next = subst (λ s. IsNext s to packet) (sym same) next

-- a switch sends a packet by its route and what is known of the packet
module _ (net : Network) (n : ℕ) (packet : List ℕ) (next : Next) (s : SentBy net n packet next)
  where
    is_switch_here : switch_at net n ≡ Some true
    is_switch_here = ap (option_map is_switch) s.known ∙ ap Some s.switch

    route_here : route_at net (dest_of packet) n ≡ option_and_then (next_port s.device)
        (dest_of packet)
    route_here =
        ap (λ o. option_and_then (λ d. option_and_then (λ device. next_port device d) o)
        (dest_of packet)) s.known

    sends : Agrees (by_key (ftype_of packet == 8) (hop_of packet) (route_at net (dest_of packet) n))
        next
    sends = subst
        (Agrees (by_key (ftype_of packet == 8) (hop_of packet) (route_at net (dest_of packet) n)))
        s.sends (rw route_here (next_agrees s.device packet))

    spot_here : (r : ℕ) → at_node (switch_at net n) (route_at net (dest_of packet) n) n r
        (key_of packet)
        ≡ to_named (by_key (ftype_of packet == 8) (hop_of packet) (route_at net (dest_of packet) n))
        n
        r (key_of packet)
    spot_here r = ap (λ o. at_node o (route_at net (dest_of packet) n) n r (key_of packet))
        is_switch_here

agrees_port : (o : Option ℕ) (n : ℕ) → Agrees o (Port n) → o ≡ Some n
agrees_port None n is = absurd is
agrees_port (Some m) n is = ap Some is

agrees_none : (o : Option ℕ) (next : Next) → Agrees o next → ((n : ℕ) → next ≡ Port n → ⊥) → o
    ≡ None
agrees_none None next is apart = refl
agrees_none (Some m) Nowhere is apart = absurd is
agrees_none (Some m) RegisterUnit is apart = absurd is
agrees_none (Some m) (Port n) is apart = absurd (apart n refl)

-- where a switch names no port
not_named : (net : Network) (p : PortRef) (r : ℕ) (packet : List ℕ) (next : Next) (to : ItemPlace)
    → SentBy net p.node packet next → ((n : ℕ) → next ≡ Port n → ⊥) → Fits to (Over EndDropped)
    → IsNext (onward (chart_of (dest_of packet) net) (key_of packet) (ReceivedAt p r)) to packet
not_named net p r packet next to s apart fits =
    let none = agrees_none _ next (sends net p.node packet next s) apart in
    by_spot _ (record { place = Over EndDropped; key = key_of packet })
    (spot_here net p.node packet next s r ∙ ap (λ o. to_named o p.node r (key_of packet)) none)
    (record { fits = fits; key = refl })

-- at an endpoint
at_endpoint : (net : Network) (p : PortRef) (r : ℕ) (dest : Option ℕ) (packet : List ℕ)
    (to : ItemPlace)
    → switch_at net p.node ≡ Some false → Fits to (Over EndLeft)
    → IsNext (onward (chart_of dest net) (key_of packet) (ReceivedAt p r)) to packet
at_endpoint net p r dest packet to endpoint fits =
    by_spot _ (record { place = Over EndLeft; key = key_of packet })
    (ap (λ o. at_node o (route_at net dest p.node) p.node r (key_of packet)) endpoint)
    (record { fits = fits; key = refl })

-- what is allowed is the next place
pub allowed_next : (net : Network) (from to : ItemPlace) (item moved : Item) → AreProper net.links
    → Passes item.now → Allowed net from to item moved
    → IsNext (onward (chart_of (dest_of item.now) net) (key_of item.now) from) to moved.now
allowed_next net from to item moved proper passes (Crosses p q r item2 peer) =
    by_spot _ (record { place = ReceivedAt q r; key = key_of item.now })
    (ap (λ o. over_link o p r (key_of item.now)) (peer_back net.links p q proper peer))
    (record { fits = Stands (ReceivedAt q r); key = refl })
allowed_next net from to item moved2 proper passes (Turns p q item2 same named) =
    let s = sent_by net p.node item.now (Port q.port) named in
    let on = moves_on item.now passes (named_goes s.device item.now q.port s.sends) in
    let some = agrees_port _ q.port (sends net p.node item.now (Port q.port) s) in
    let here : port_at p.node q.port ≡ q = λ i. record { node = sym same i; port = q.port } in
    by_spot _
    (record {
      place = WaitingAt (port_at p.node q.port) (prio_of item.now);
      key = moved_key (key_of item.now);
    })
    (spot_here net p.node item.now (Port q.port) s (prio_of item.now)
    ∙ ap (λ o. to_named o p.node (prio_of item.now) (key_of item.now)) some)
    (record {
      fits = subst (λ x. Fits (WaitingAt q (prio_of item.now)) (WaitingAt x (prio_of item.now)))
          (sym here) (Stands (WaitingAt q (prio_of item.now)));
      key = on.key;
    })
allowed_next net from to item moved proper passes (Leaves n item2 endpoint other) =
    at_endpoint net (port_of n) (prio_of item.now) (dest_of item.now) item.now (Over EndLeft)
    endpoint
    (Stands (Over EndLeft))
allowed_next net from to item moved proper passes (Falls p item2 named) =
    not_named net p (prio_of item.now) item.now Nowhere (Over EndDropped)
    (sent_by net p.node item.now Nowhere named) (λ n e. absurd (cc)) (Stands (Over EndDropped))
allowed_next net from to item moved proper passes (IsHeard p item2 (inl endpoint)) =
    at_endpoint net p (prio_of item.now) (dest_of item.now) item.now (Over EndAnswered) endpoint
    (Ends EndLeft)
allowed_next net from to item moved proper passes (IsHeard p item2 (inr named)) =
    not_named net p (prio_of item.now) item.now RegisterUnit (Over EndAnswered)
    (sent_by net p.node item.now RegisterUnit named) (λ n e. absurd (cc)) (Ends EndDropped)

-- ---- items of one course

-- an item goes the way of what it was
pub course_back : (x item moved : Item) → Along item moved → SameCourse x moved → SameCourse x item
course_back x item moved along same = record {
  port = same.port ∙ along.port;
  dest = same.dest ∙ ap dest_of along.taken;
  priority = same.priority ∙ ap prio_of along.taken;
  maintenance = same.maintenance ∙ ap (λ p. ftype_of p == 8) along.taken;
  hop = same.hop ∙ ap hop_of along.taken;
}

-- and is what it was on that way
pub course_forth : (x item moved : Item) → Along item moved → SameCourse x item → SameCourse x moved
course_forth x item moved along same = record {
  port = same.port ∙ sym along.port;
  dest = same.dest ∙ ap dest_of (sym along.taken);
  priority = same.priority ∙ ap prio_of (sym along.taken);
  maintenance = same.maintenance ∙ ap (λ p. ftype_of p == 8) (sym along.taken);
  hop = same.hop ∙ ap hop_of (sym along.taken);
}
