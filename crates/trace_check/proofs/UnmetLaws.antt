-- The first need of a step that is not met.
use Rattle.std.proofs.Common.{◌≡◌, ℕ, Bool, true, false, List, Option, Some, None, MatchOption, is_some, if◌then◌else◌, option_and_then, slice_get, refl, sym, ap, ◌∙◌, arith}
use Rattle.std.proofs.lemmas.Option.{slice_get-get_or}
use Rattle.rio_packets.specs.Fields.{is_request, prio_of}
use Rattle.maint_packets.specs.declared.request.Request.{Request}
use Rattle.maint_packets.specs.Requests.{request_in, request_of}
use Rattle.fabric_script.specs.declared.ports.PortRef.{PortRef}
use Rattle.fabric_model.specs.Network.{first_packet, Network, peer_in, port_of}
use Rattle.fabric_model.specs.Steps.{Answer, AtNode, ByDevice, Drop, Hold, Leave, Linked, Move, Take}
use Rattle.trace_check.specs.declared.links.Links.{Links}
use Rattle.trace_check.specs.declared.unmet.Unmet.{Unmet}
use Rattle.trace_check.specs.declared.unmet.Unmet.TheVariants as U
use Rattle.trace_check.specs.Networks.{AreKeptLinks}
use Rattle.trace_check.specs.Tables.{IsIn, table_place}
use Rattle.trace_check.specs.Unmet.{first_at_peer, IsBehind, IsFew, IsFull, IsUnmetNeed}
use Rattle.trace_check.proofs.TableLaws.{place_within}

pub match_map : {A P Q : Type 0} {F G : A → Type 0} (o : Option A) → MatchOption o P F → (P → Q)
    → ((x : A) → F x → G x) → MatchOption o Q G
match_map None none on each = on none
match_map (Some x) some on each = each x some

-- ---- the peer

module _ {nodes : ℕ} {links : List (PortRef × PortRef)} {kept : Links} where
  pub peer_there : (p peer : PortRef) → AreKeptLinks nodes links kept → IsIn nodes p
      → peer_in links p ≡ Some peer → slice_get kept.peers.items (table_place p) ≡ Some (Some peer)
  peer_there p peer are is_in there =
      let within = place_within is_in in
      let size = are.peers.size in
      let read = slice_get-get_or kept.peers.items (table_place p) None
      (omega (arith, within, size)) in
      read ∙ ap Some (are.peers.at p _ is_in read ∙ there)

  pub no_peer : (p : PortRef) → AreKeptLinks nodes links kept → IsIn nodes p
      → ((peer : PortRef) → slice_get kept.peers.items (table_place p) ≡ Some (Some peer) → ⊥)
      → peer_in links p ≡ None
  no_peer p are is_in none = by_peer (peer_in links p) refl
    where
      by_peer : (o : Option PortRef) → peer_in links p ≡ o → o ≡ None
      by_peer None is = refl
      by_peer (Some peer) is = absurd (none peer (peer_there p peer are is_in is))

pub first_with_peer : (net : Network) (q p : PortRef) (prio : ℕ) → peer_in net.links q ≡ Some p
    → first_at_peer net q prio ≡ first_packet (net.waiting p prio)
first_with_peer net q p prio there =
    ap (λ o. option_and_then (λ x. first_packet (net.waiting x prio)) o) there

pub none_with_peer : (net : Network) (q : PortRef) (prio : ℕ) → peer_in net.links q ≡ None
    → first_at_peer net q prio ≡ None
none_with_peer net q prio none =
    ap (λ o. option_and_then (λ x. first_packet (net.waiting x prio)) o) none

-- the packet that is first at the peer
pub first_by_peer : (net : Network) (q : PortRef) (packet : List ℕ)
    → first_at_peer net q (prio_of packet) ≡ Some packet
    → (p : PortRef) × (peer_in net.links q ≡ Some p)
    × (first_packet (net.waiting p (prio_of packet)) ≡ Some packet)
first_by_peer net q packet is = by_peer (peer_in net.links q) refl
  where
    by_peer : (o : Option PortRef) → peer_in net.links q ≡ o
        → (p : PortRef) × (peer_in net.links q ≡ Some p)
        × (first_packet (net.waiting p (prio_of packet)) ≡ Some packet)
    by_peer None none = absurd (cc (is, none_with_peer net q (prio_of packet) none))
    by_peer (Some p) there =
        (p, there, sym (first_with_peer net q p (prio_of packet) there) ∙ is)

-- ---- what one step needs of what others need

pub few_held : (net : Network) (q : PortRef) (packet : List ℕ) (unmet : Unmet)
    → IsFew net q (prio_of packet) unmet → IsUnmetNeed net (Linked (Hold q packet)) unmet
few_held net q packet (U.Buffers free all prio needed) is = is
few_held net q packet _ is = absurd is

pub full_taken : (net : Network) (n : ℕ) (packet : List ℕ) (unmet : Unmet)
    → IsFull net (port_of n) packet unmet → IsUnmetNeed net (AtNode (Take n packet)) unmet
full_taken net n packet (U.Place prio) is = is
full_taken net n packet _ is = absurd is

pub behind_left : (net : Network) (n : ℕ) (packet : List ℕ) (unmet : Unmet)
    → IsBehind net (port_of n) packet unmet → IsUnmetNeed net (AtNode (Leave n packet)) unmet
behind_left net n packet (U.Held prio first) is = is
behind_left net n packet _ is = absurd is

pub behind_moved : (net : Network) (p q : PortRef) (packet : List ℕ) (unmet : Unmet)
    → IsBehind net p packet unmet → IsUnmetNeed net (ByDevice (Move p q packet)) unmet
behind_moved net p q packet (U.Held prio first) is = is
behind_moved net p q packet _ is = absurd is

pub full_moved : (net : Network) (p q : PortRef) (packet : List ℕ) (unmet : Unmet)
    → IsFull net q packet unmet → IsUnmetNeed net (ByDevice (Move p q packet)) unmet
full_moved net p q packet (U.Place prio) is = is
full_moved net p q packet _ is = absurd is

pub behind_dropped : (net : Network) (p : PortRef) (packet : List ℕ) (unmet : Unmet)
    → IsBehind net p packet unmet → IsUnmetNeed net (ByDevice (Drop p packet)) unmet
behind_dropped net p packet (U.Held prio first) is = is
behind_dropped net p packet _ is = absurd is

pub behind_answered : (net : Network) (p : PortRef) (packet response : List ℕ) (unmet : Unmet)
    → IsBehind net p packet unmet → IsUnmetNeed net (ByDevice (Answer p packet response)) unmet
behind_answered net p packet response (U.Held prio first) is = is
behind_answered net p packet response _ is = absurd is

pub full_answered : (net : Network) (p : PortRef) (packet response : List ℕ) (unmet : Unmet)
    → IsFull net p response unmet → IsUnmetNeed net (ByDevice (Answer p packet response)) unmet
full_answered net p packet response (U.Place prio) is = is
full_answered net p packet response _ is = absurd is

-- ---- requests

pub asked_some : (packet : List ℕ) (found : Option Request) → found ≡ request_of packet
    → is_some found ≡ true → is_request packet ≡ true
asked_some packet found is some = by_test (is_request packet) refl
  where
    by_test : (asks : Bool) → is_request packet ≡ asks → is_request packet ≡ true
    by_test true asks = asks
    by_test false asks =
        let none : request_of packet ≡ None
        = ap (λ b. if b then Some (request_in packet) else None) asks in
        absurd (cc (some, ap is_some (is ∙ none)))
