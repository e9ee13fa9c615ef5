-- Steps between the queues of a link are legal steps of the network, which move nothing elsewhere.
use Rattle.fabric_trace.proofs.Prelude.{◌≡◌, ℕ, ◌+◌, ◌-◌, ◌<◌, false, nat_lt, List, [], ◌∷◌, ◌++◌, map, drop, slice_get, slice_set, Some, refl, sym, ap, ◌∙◌, subst, prio_of, appended, popped, Note, Side, A, B, Move, Held, Freed, Queues, queues_round, NeedsFirst, first_moved, NeedsAt, moved_at, Walks, PortRef, Network, same_port, with_lane, with_lent, first_packet, Hold, Free, Step, Linked, Needs, behind_first, only_first, after_hold, after, after_all, LegalFrom, ArePeers, apart_back, steps_of, packets_in, lists_in, port_at_side, lines_of, queues_in}
use Rattle.link_watch.specs.declared.note.Note.TheVariants as Notes
use Rattle.link_machine.specs.Queues as link
use Rattle.link_machine.specs.Queues.Walks.{WalkEnds, WalkGoes}
use Rattle.fabric_trace.proofs.Network.Lanes.{packets-append, first_is, only_is, behind_is, lane_at, has_lane, counted, lists_set, lane_other, lent_own, lent_other}

-- a port has the same lists in both networks
pub record AreSame (net next : Network) (c : PortRef) : Type 0 where
  pub received : next.received c ≡ net.received c
  pub waiting : next.waiting c ≡ net.waiting c
  pub lent : next.lent c ≡ net.lent c
  pub buffers : next.buffers c ≡ net.buffers c
  pub tells : next.tells c ≡ net.tells c

pub same_on : {net mid end : Network} {c : PortRef} → AreSame net mid c → AreSame mid end c
    → AreSame net end c
same_on first next = record {
  received = next.received ∙ first.received;
  waiting = next.waiting ∙ first.waiting;
  lent = next.lent ∙ first.lent;
  buffers = next.buffers ∙ first.buffers;
  tells = next.tells ∙ first.tells;
}

-- so do all ports but these two, and the links are the same
pub record AreElsewhere (net next : Network) (a b : PortRef) : Type 0 where
  pub links : next.links ≡ net.links
  pub others : (c : PortRef) → same_port c a ≡ false → same_port c b ≡ false → AreSame net next c

elsewhere_on : {net mid end : Network} {a b : PortRef} → AreElsewhere net mid a b
    → AreElsewhere mid end a b → AreElsewhere net end a b
elsewhere_on first next = record {
  links = next.links ∙ first.links;
  others = λ c x y. same_on (first.others c x y) (next.others c x y);
}

pub elsewhere_round : {net next : Network} {a b : PortRef} → AreElsewhere net next a b
    → AreElsewhere net next b a
elsewhere_round e = record { links = e.links; others = λ c x y. e.others c y x }

pub peers_round : {links : List (PortRef × PortRef)} {a b : PortRef} → ArePeers links a b
    → ArePeers links b a
peers_round {links} {a} {b} peers =
    record { apart = apart_back a b peers.apart; there = peers.back; back = peers.there }

-- ---- one step

-- what a step of the first port does to the network
pub record IsMoved (net : Network) (a b : PortRef) (step : Step) (end : Queues) : Type 0 where
  pub needs : Needs net step
  pub queues : queues_in (after net step) a b ≡ end
  pub elsewhere : AreElsewhere net (after net step) a b

-- a network with a packet moved from the peer's lane
abbrev held_at : Network → PortRef → PortRef → ℕ → Network
held_at net a b r = after_hold net a (Some b) r

held_queues : (net : Network) (a b : PortRef) (packet : List ℕ) → same_port a b ≡ false
    → prio_of packet < 4
    → first_packet (net.waiting b (prio_of packet)) ≡ Some packet
    → queues_in (held_at net a b (prio_of packet)) a b
    ≡ first_moved (Held packet) (queues_in net a b)
held_queues net a b packet apart few first =
    let r = prio_of packet in
    let one = only_is (net.waiting b r) packet first in
    let lent_a =
    ap packets_in (lent_other net.lent b (net.lent b ++ only_first (net.waiting b r)) a apart) in
    let waiting_a =
    ap lists_in (lane_other net.waiting b r (behind_first (net.waiting b r)) a apart) in
    let received_a : lists_in
    (with_lane net.received a r (net.received a r ++ only_first (net.waiting b r)) a)
    ≡ appended (lists_in (net.received a)) r packet =
    lists_set net.received a r (net.received a r ++ only_first (net.waiting b r)) few
    ∙ ap (slice_set (lists_in (net.received a)) r)
    (packets-append (net.received a r) (only_first (net.waiting b r))
    ∙ (λ i. sym (lane_at (net.received a) r few) i ++ one i)) in
    let lent_b : packets_in (with_lent net.lent b (net.lent b ++ only_first (net.waiting b r)) b)
    ≡ packets_in (net.lent b) ++ packet ∷ [] =
    ap packets_in (lent_own net.lent b (net.lent b ++ only_first (net.waiting b r)))
    ∙ packets-append (net.lent b) (only_first (net.waiting b r))
    ∙ ap (λ (l : List (List ℕ)). packets_in (net.lent b) ++ l) one in
    let waiting_b : lists_in (with_lane net.waiting b r (behind_first (net.waiting b r)) b)
    ≡ popped (lists_in (net.waiting b)) r =
    lists_set net.waiting b r (behind_first (net.waiting b r)) few
    ∙ ap (slice_set (lists_in (net.waiting b)) r)
    (behind_is (net.waiting b r) ∙ ap (drop 1) (sym (lane_at (net.waiting b) r few))) in
    let received_b =
    ap lists_in (lane_other net.received a r (net.received a r ++ only_first (net.waiting b r)) b
    (apart_back a b apart)) in
    λ i. record {
      lent_a = lent_a i;
      waiting_a = waiting_a i;
      received_a = record { lists = received_a i; buffers = net.buffers a };
      lent_b = lent_b i;
      waiting_b = waiting_b i;
      received_b = record { lists = received_b i; buffers = net.buffers b };
    }

held_elsewhere : (net : Network) (a b : PortRef) (r : ℕ) → AreElsewhere net (held_at net a b r) a b
held_elsewhere net a b r = record {
  links = refl;
  others = λ c x y. record {
    received = lane_other net.received a r (net.received a r ++ only_first (net.waiting b r)) c x;
    waiting = lane_other net.waiting b r (behind_first (net.waiting b r)) c y;
    lent = lent_other net.lent b (net.lent b ++ only_first (net.waiting b r)) c y;
    buffers = refl;
    tells = refl;
  };
}

held_moved : (net : Network) (a b : PortRef) (packet : List ℕ) → ArePeers net.links a b
    → NeedsFirst (Held packet) (queues_in net a b)
    → IsMoved net a b (Linked (Hold a packet)) (first_moved (Held packet) (queues_in net a b))
held_moved net a b packet peers needs =
    let r = prio_of packet in
    let few = has_lane (net.waiting b) r packet needs.0 in
    let first =
    first_is (net.waiting b r) packet
    (ap (λ (l : List (List ℕ)). slice_get l 0) (sym (lane_at (net.waiting b) r few)) ∙ needs.0) in
    let there = ap (λ o. after_hold net a o r) peers.there in
    let room =
    ap (λ n. nat_lt (n + (3 - r)) (net.buffers a)) (sym (counted (net.received a))) ∙ needs.1 in
    record {
      needs = (b, peers.there, first, room);
      queues = ap (λ (n : Network). queues_in n a b) there
          ∙ held_queues net a b packet peers.apart few first;
      elsewhere =
          subst (λ (n : Network). AreElsewhere net n a b) (sym there) (held_elsewhere net a b r);
    }

freed_moved : (net : Network) (a b : PortRef) (packet : List ℕ) → ArePeers net.links a b
    → NeedsFirst (Freed packet) (queues_in net a b)
    → IsMoved net a b (Linked (Free a packet)) (first_moved (Freed packet) (queues_in net a b))
freed_moved net a b packet peers needs =
    let lent_a =
    ap packets_in (lent_own net.lent a (behind_first (net.lent a))) ∙ behind_is (net.lent a) in
    let lent_b =
    ap packets_in (lent_other net.lent a (behind_first (net.lent a)) b
    (apart_back a b peers.apart)) in
    record {
      needs = first_is (net.lent a) packet needs;
      queues = λ i. record (queues_in net a b) { lent_a = lent_a i; lent_b = lent_b i };
      elsewhere = record {
        links = refl;
        others = λ c x y. record {
          received = refl;
          waiting = refl;
          lent = lent_other net.lent a (behind_first (net.lent a)) c x;
          buffers = refl;
          tells = refl;
        };
      };
    }

-- ---- many steps

-- a step between the queues, as one of the network
abbrev pub step_of : PortRef → PortRef → Side → Move → Step
step_of a b side (Held packet) = Linked (Hold (port_at_side a b side) packet)
step_of a b side (Freed packet) = Linked (Free (port_at_side a b side) packet)

abbrev pub net_steps : PortRef → PortRef → List link.PortStep → List Step
net_steps a b steps = map (λ step. step_of a b step.side step.move) steps

moved_first : (net : Network) (a b : PortRef) (move : Move) → ArePeers net.links a b
    → NeedsFirst move (queues_in net a b)
    → IsMoved net a b (step_of a b A move) (first_moved move (queues_in net a b))
moved_first net a b (Held packet) peers needs = held_moved net a b packet peers needs
moved_first net a b (Freed packet) peers needs = freed_moved net a b packet peers needs

round_step : (a b : PortRef) (move : Move) → step_of b a A move ≡ step_of a b B move
round_step a b (Held packet) = refl
round_step a b (Freed packet) = refl

moved_side : (net : Network) (a b : PortRef) (side : Side) (move : Move) → ArePeers net.links a b
    → NeedsAt side move (queues_in net a b)
    → IsMoved net a b (step_of a b side move) (moved_at side move (queues_in net a b))
moved_side net a b A move peers needs = moved_first net a b move peers needs
moved_side net a b B move peers needs =
    let does = moved_first net b a move (peers_round peers) needs in
    subst (λ (step : Step). IsMoved net a b step (moved_at B move (queues_in net a b)))
    (round_step a b move) (record {
      needs = does.needs;
      queues = ap queues_round does.queues;
      elsewhere = elsewhere_round does.elsewhere;
    })

-- What steps do to the network: they are legal, lead the queues of the link to these, and move
-- nothing elsewhere.
pub record AreLed (net : Network) (steps : List Step) (a b : PortRef) (end : Queues) : Type 0 where
  pub legal : LegalFrom net steps (after_all net steps)
  pub queues : queues_in (after_all net steps) a b ≡ end
  pub elsewhere : AreElsewhere net (after_all net steps) a b

same_here : (net : Network) (c : PortRef) → AreSame net net c
same_here net c =
    record { received = refl; waiting = refl; lent = refl; buffers = refl; tells = refl }

pub elsewhere_here : (net : Network) (a b : PortRef) → AreElsewhere net net a b
elsewhere_here net a b = record { links = refl; others = λ c x y. same_here net c }

pub walks_led : {q end : Queues} {steps : List link.PortStep} → Walks q steps end
    → (net : Network) (a b : PortRef) → q ≡ queues_in net a b → ArePeers net.links a b
    → AreLed net (net_steps a b steps) a b end
walks_led WalkEnds net a b is peers =
    record { legal = refl; queues = sym is; elsewhere = elsewhere_here net a b }
walks_led (WalkGoes side move needs walk) net a b is peers =
    let does = moved_side net a b side move peers (subst (NeedsAt side move) is needs) in
    let more =
    walks_led walk (after net (step_of a b side move)) a b
    (ap (moved_at side move) is ∙ sym does.queues)
    (subst (λ (l : List (PortRef × PortRef)). ArePeers l a b) (sym does.elsewhere.links) peers) in
    record {
      legal = (does.needs, more.legal);
      queues = more.queues;
      elsewhere = elsewhere_on does.elsewhere more.elsewhere;
    }

-- the steps of the lines of notes
pub steps_said : (a b : PortRef) (notes : List Note)
    → steps_of (lines_of a b notes) ≡ net_steps a b (link.note_steps notes)
steps_said a b [] = refl
steps_said a b (Notes.Hold side packet ∷ notes) =
    ap (λ (steps : List Step). Linked (Hold (port_at_side a b side) packet) ∷ steps)
    (steps_said a b notes)
steps_said a b (Notes.Free side packet ∷ notes) =
    ap (λ (steps : List Step). Linked (Free (port_at_side a b side) packet) ∷ steps)
    (steps_said a b notes)
steps_said a b (_ ∷ notes) = steps_said a b notes
