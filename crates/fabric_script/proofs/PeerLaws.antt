-- Ports that are the same, and ports with a link.
use Rattle.std.proofs.Common.{◌≡◌, ◌||◌, Bool, true, false, eqb, List, [], ◌∷◌, ◌++◌, Some, None, is_some, if◌then◌else◌, refl}
use Rattle.std.proofs.lemmas.Bool.{and_parts, eqb-true, eq-eqb, and_from}
use Rattle.fabric_script.specs.declared.ports.PortRef.{PortRef}
use Rattle.fabric_script.specs.Known.{same_port, is_linked}
use Rattle.fabric_script.specs.Peers.{peer_in}

pub port_is : (p q : PortRef) → same_port p q ≡ true → p ≡ q
port_is p q same =
    let parts = and_parts (eqb p.node q.node) (eqb p.port q.port) same in
    let node = eqb-true p.node q.node parts.0 in
    let port = eqb-true p.port q.port parts.1 in
    λ i. record { node = node i; port = port i }

pub same_port-refl : (p : PortRef) → same_port p p ≡ true
same_port-refl p =
    and_from (eqb p.node p.node) (eqb p.port p.port) (eq-eqb p.node p.node refl)
    (eq-eqb p.port p.port refl)

-- a port has a peer if a link has it as an end
pub peer-linked : (links : List (PortRef × PortRef)) (p : PortRef)
    → is_some (peer_in links p) ≡ is_linked links p
peer-linked [] p = refl
peer-linked (link ∷ links) p =
    go (same_port link.0 p) (same_port link.1 p) (peer-linked links p)
  where
    go : (s t : Bool) → is_some (peer_in links p) ≡ is_linked links p
        → is_some (if s then Some link.1 else (if t then Some link.0 else peer_in links p))
        ≡ ((s || t) || is_linked links p)
    go true t later = refl
    go false true later = refl
    go false false later = later

-- one more link leaves the peers that there are
pub peer-before : (links : List (PortRef × PortRef)) (link : PortRef × PortRef) (p q : PortRef)
    → peer_in links p ≡ Some q → peer_in (links ++ link ∷ []) p ≡ Some q
peer-before [] link p q is = absurd (cc)
peer-before (first ∷ links) link p q is =
    go (same_port first.0 p) (same_port first.1 p) is (peer-before links link p q)
  where
    go : (s t : Bool)
        → (if s then Some first.1 else (if t then Some first.0 else peer_in links p)) ≡ Some q
        → (peer_in links p ≡ Some q → peer_in (links ++ link ∷ []) p ≡ Some q)
        → (if s then Some first.1
        else (if t then Some first.0 else peer_in (links ++ link ∷ []) p)) ≡ Some q
    go true t is later = is
    go false true is later = is
    go false false is later = later is

-- and gives its ends theirs
pub peer-behind : (links : List (PortRef × PortRef)) (link : PortRef × PortRef) (p : PortRef)
    → peer_in links p ≡ None → peer_in (links ++ link ∷ []) p ≡ peer_in (link ∷ []) p
peer-behind [] link p is = refl
peer-behind (first ∷ links) link p is =
    go (same_port first.0 p) (same_port first.1 p) is (peer-behind links link p)
  where
    go : (s t : Bool)
        → (if s then Some first.1 else (if t then Some first.0 else peer_in links p)) ≡ None
        → (peer_in links p ≡ None → peer_in (links ++ link ∷ []) p ≡ peer_in (link ∷ []) p)
        → (if s then Some first.1
        else (if t then Some first.0 else peer_in (links ++ link ∷ []) p)) ≡ peer_in (link ∷ []) p
    go true t is later = absurd (cc)
    go false true is later = absurd (cc)
    go false false is later = later is
