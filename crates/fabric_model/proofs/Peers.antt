-- In proper links the peer of a port's peer is the port. Links that join free ports one by one are
-- proper.
use Rattle.fabric_model.proofs.Prelude.{◌≡◌, Bool, true, false, List, [], ◌∷◌, ◌++◌, Option, Some, None, ap, subst, refl, cond, false_from_ne_true, PortRef, same_port, peer_in, link_in, AreProper}
pub use Rattle.fabric_script.proofs.PeerLaws.{port_is, same_port-refl}

pub apart_back : (p q : PortRef) → same_port p q ≡ false → same_port q p ≡ false
apart_back p q apart = false_from_ne_true (same_port q p) (λ same.
    let turned : same_port p q ≡ true = subst (λ x. same_port x q ≡ true) (port_is q p same)
    (same_port-refl q) in
    absurd (cc))

-- a port without a link is not one that has a peer
pub unlinked_apart : (links : List (PortRef × PortRef)) (a p q : PortRef) → peer_in links a ≡ None
    → peer_in links p ≡ Some q → same_port a p ≡ false
unlinked_apart links a p q none some = false_from_ne_true (same_port a p) (λ same.
    let alike = ap (peer_in links) (port_is a p same) in
    absurd (cc))

peer_step : (a b p q : PortRef) (links : List (PortRef × PortRef)) → same_port a b ≡ false
    → peer_in links a ≡ None → peer_in links b ≡ None
    → (peer_in links q ≡ Some p → peer_in links p ≡ Some q) → (s t : Bool) → same_port a q ≡ s
    → same_port b q ≡ t → cond s (Some b) (cond t (Some a) (peer_in links q)) ≡ Some p
    → peer_in ((a, b) ∷ links) p ≡ Some q
peer_step a b p q links apart no_a no_b back true t is_a is_b peer =
    let there : b ≡ p = cc in
    let here = port_is a q is_a in
    subst (λ x. peer_in ((a, b) ∷ links) x ≡ Some q) there
    (rw (apart, same_port-refl b) (ap Some here))
peer_step a b p q links apart no_a no_b back false true is_a is_b peer =
    let there : a ≡ p = cc in
    let here = port_is b q is_b in
    subst (λ x. peer_in ((a, b) ∷ links) x ≡ Some q) there (rw (same_port-refl a) (ap Some here))
peer_step a b p q links apart no_a no_b back false false is_a is_b peer =
    rw (unlinked_apart links a p q no_a (back peer), unlinked_apart links b p q no_b (back peer))
    (back peer)

pub peer_back : (links : List (PortRef × PortRef)) (p q : PortRef) → AreProper links
    → peer_in links q ≡ Some p → peer_in links p ≡ Some q
peer_back [] p q proper peer = absurd (cc)
peer_back (link ∷ links) p q proper peer =
    peer_step link.0 link.1 p q links proper.0 proper.1 proper.2 (peer_back links p q proper.3)
    (same_port link.0 q) (same_port link.1 q) refl refl peer

-- The ends of a port's link are each other's peers, and two ports.
pub record ArePeers (links : List (PortRef × PortRef)) (p q : PortRef) : Type 0 where
  pub apart : same_port p q ≡ false
  pub there : peer_in links p ≡ Some q
  pub back : peer_in links q ≡ Some p

own_link : (a b : PortRef) (links : List (PortRef × PortRef)) → same_port a b ≡ false
    → ArePeers ((a, b) ∷ links) a b
own_link a b links apart = record {
  apart = apart;
  there = rw (same_port-refl a) refl;
  back = rw (apart, same_port-refl b) refl;
}

later_link : (a b p q : PortRef) (links : List (PortRef × PortRef)) → peer_in links a ≡ None
    → peer_in links b ≡ None → ArePeers links p q → ArePeers ((a, b) ∷ links) p q
later_link a b p q links no_a no_b peers = record {
  apart = peers.apart;
  there = rw
      (unlinked_apart links a p q no_a peers.there, unlinked_apart links b p q no_b peers.there)
      peers.there;
  back = rw (unlinked_apart links a q p no_a peers.back, unlinked_apart links b q p no_b peers.back)
      peers.back;
}

pub link_peers : (links : List (PortRef × PortRef)) (p : PortRef) (link : PortRef × PortRef)
    → AreProper links → link_in links p ≡ Some link → ArePeers links link.0 link.1
link_peers [] p link proper found = absurd (cc)
link_peers (head ∷ links) p link proper found = go (same_port head.0 p) (same_port head.1 p) found
    (λ later. link_peers links p link proper.3 later)
  where
    own : head ≡ link → ArePeers (head ∷ links) link.0 link.1
    own same = subst (λ (x : PortRef × PortRef). ArePeers (head ∷ links) x.0 x.1) same
        (own_link head.0 head.1 links proper.0)

    go : (s t : Bool) → cond s (Some head) (cond t (Some head) (link_in links p)) ≡ Some link
        → (link_in links p ≡ Some link → ArePeers links link.0 link.1)
        → ArePeers (head ∷ links) link.0 link.1
    go true t is later = own (cc)
    go false true is later = own (cc)
    go false false is later = later_link head.0 head.1 link.0 link.1 links proper.1 proper.2
        (later is)

none_parts : (s t : Bool) (x y : PortRef) (o : Option PortRef) → cond s (Some x) (cond t (Some y) o)
    ≡ None → (s ≡ false) × (t ≡ false) × (o ≡ None)
none_parts true t x y o none = absurd (cc)
none_parts false true x y o none = absurd (cc)
none_parts false false x y o none = (refl, refl, none)

unlinked-append : (links : List (PortRef × PortRef)) (a b p : PortRef) → peer_in links p ≡ None
    → same_port a p ≡ false → same_port b p ≡ false → peer_in (links ++ (a, b) ∷ []) p ≡ None
unlinked-append [] a b p none not_a not_b = rw (not_a, not_b)
unlinked-append (link ∷ links) a b p none not_a not_b =
    let parts = none_parts (same_port link.0 p) (same_port link.1 p) link.1 link.0 (peer_in links p)
    none in
    rw (parts.0, parts.1) (unlinked-append links a b p parts.2 not_a not_b)

pub AreProper-append : (links : List (PortRef × PortRef)) (a b : PortRef) → AreProper links
    → same_port a b ≡ false → peer_in links a ≡ None → peer_in links b ≡ None
    → AreProper (links ++ (a, b) ∷ [])
AreProper-append [] a b proper apart no_a no_b = (apart, refl, refl, tt)
AreProper-append (link ∷ links) a b proper apart no_a no_b =
    let of_a = none_parts (same_port link.0 a) (same_port link.1 a) link.1 link.0 (peer_in links a)
    no_a in
    let of_b = none_parts (same_port link.0 b) (same_port link.1 b) link.1 link.0 (peer_in links b)
    no_b in (
      proper.0,
      unlinked-append links a b link.0 proper.1 (apart_back link.0 a of_a.0)
          (apart_back link.0 b of_b.0),
      unlinked-append links a b link.1 proper.2 (apart_back link.1 a of_a.1)
          (apart_back link.1 b of_b.1),
      AreProper-append links a b proper.3 apart of_a.2 of_b.2,
    )

-- a table of peers names no two: what is found there is one
pub some_is : {X : Type 0} (o : Option X) (x y : X) → o ≡ Some x → o ≡ Some y → x ≡ y
some_is None x y first second = absurd cc
some_is (Some z) x y first second = cc
