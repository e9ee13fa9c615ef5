-- In a run no node takes a maintenance packet, so nothing is answered and no register changes.
use Rattle.io_law.proofs.Prelude.{◌≡◌, ℕ, Bool, true, false, ◌&&◌, eqb, List, [], ◌∷◌, ◌++◌, map, Option, Some, None, refl, sym, ap, ◌∙◌, subst, if◌then◌else◌, AllByRecursion, slice_get, option_map, option_and_then, prio_of, ftype_of, is_maintenance, ne_eqb, Registers, PortRef, Item, Lanes, Network, same_port, port_of, peer_in, first_packet, with_lane, route_at, Hold, Free, Takes, Leave, Move, Drop, Answer, Step, Linked, AtNode, ByDevice, Needs, only_first, behind_first, moved_item, item_of, after_hold, without_first, after, LegalFrom, RoutesStand, IsEmptyNetwork, is_answer, all-append}
use Rattle.maint_packets.specs.Answers.{request_answered}
use Rattle.rio_packets.specs.Hops.{lowered}
use Rattle.maint_packets.specs.Requests.{request_of}
use Rattle.maint_packets.specs.Responses.{response_bytes}
use Rattle.fabric_model.specs.Serving.{response_at}
use Rattle.fabric_model.proofs.Tables.{registers_stay}

-- ---- networks without maintenance packets

abbrev pub IsPlain : List ℕ → Type 0
IsPlain packet = ftype_of packet ≡ 8 → ⊥

abbrev ArePlain : List Item → Type 0
ArePlain items = AllByRecursion (λ item. IsPlain item.now) items

-- all that it holds is plain
pub record HoldsPlain (net : Network) : Type 0 where
  pub received : (p : PortRef) (r : ℕ) → ArePlain (net.received p r)
  pub waiting : (p : PortRef) (r : ℕ) → ArePlain (net.waiting p r)

-- and all that a step takes
abbrev pub TakesPlain : Step → Type 0
TakesPlain (AtNode (Takes n packet)) = IsPlain packet
TakesPlain _ = Unit {0}

plain_front : (items : List Item) → ArePlain items → ArePlain (only_first items)
plain_front [] all = tt
plain_front (item ∷ items) all = (all.0, tt)

plain_rest : (items : List Item) → ArePlain items → ArePlain (behind_first items)
plain_rest [] all = tt
plain_rest (item ∷ items) all = all.1

pub not_maintenance : (packet : List ℕ) → IsPlain packet → is_maintenance packet ≡ false
not_maintenance packet plain = rw (ne_eqb (ftype_of packet) 8 plain) refl

plain_moved : (items : List Item) → ArePlain items → ArePlain (only_first (map moved_item items))
plain_moved [] all = tt
plain_moved (item ∷ items) all = (
  subst IsPlain
      (sym (ap (λ b. if b then lowered item.now else item.now) (not_maintenance item.now all.0)))
      all.0,
  tt,
)

plain_both : (xs ys : List Item) → ArePlain xs → ArePlain ys → ArePlain (xs ++ ys)
plain_both xs ys = all-append (λ item. IsPlain item.now) xs ys

plain_lane : (lanes : Lanes) (p : PortRef) (r : ℕ) (items : List Item) → ArePlain items
    → ((q : PortRef) (s : ℕ) → ArePlain (lanes q s)) → (q : PortRef) (s : ℕ)
    → ArePlain (with_lane lanes p r items q s)
plain_lane lanes p r items own others q s = by (same_port q p && eqb s r)
  where
    by : (here : Bool) → ArePlain (if here then items else lanes q s)
    by true = own
    by false = others q s

plain_without : (net : Network) (p : PortRef) (r : ℕ) → HoldsPlain net
    → HoldsPlain (without_first net p r)
plain_without net p r plain = record {
  received = plain_lane net.received p r (behind_first (net.received p r))
      (plain_rest (net.received p r) (plain.received p r)) plain.received;
  waiting = plain.waiting;
}

-- ---- no step is an answer

first_plain : (items : List Item) (packet : List ℕ) → first_packet items ≡ Some packet
    → ArePlain items → IsPlain packet
first_plain [] packet first all = absurd cc
first_plain (item ∷ items) packet first all =
    let same : item.now ≡ packet = cc in subst IsPlain same all.0

no_response : (net : Network) (p : PortRef) (packet response : List ℕ) → IsPlain packet
    → response_at net p packet ≡ Some response → ⊥
no_response net p packet response plain is =
    by (slice_get net.registers p.node)
    (sym (ap (λ o. option_and_then (λ d. option_map
    (λ r. response_bytes (request_answered d r p.port).response) o) (slice_get net.registers
    p.node))
    none) ∙ is)
  where
    none : request_of packet ≡ None
    none = rw (not_maintenance packet plain) refl

    by : (o : Option Registers)
        → option_and_then (λ d. option_map
        (λ r. response_bytes (request_answered d r p.port).response) None) o ≡ Some response → ⊥
    by None is = absurd cc
    by (Some device) is = absurd cc

pub no_answer : (net : Network) (step : Step) → Needs net step → HoldsPlain net
    → is_answer step ≡ false
no_answer net (Linked (Hold q packet)) needs plain = refl
no_answer net (Linked (Free p packet)) needs plain = refl
no_answer net (AtNode (Takes n packet)) needs plain = refl
no_answer net (AtNode (Leave n packet)) needs plain = refl
no_answer net (ByDevice (Move p q packet)) needs plain = refl
no_answer net (ByDevice (Drop p packet)) needs plain = refl
no_answer net (ByDevice (Answer p packet response)) needs plain =
    absurd (no_response net p packet response
    (first_plain (net.received p (prio_of packet)) packet needs.0
    (plain.received p (prio_of packet))) needs.2)

plain_after : (net : Network) (step : Step) → Needs net step → TakesPlain step → HoldsPlain net
    → HoldsPlain (after net step)
plain_after net (Linked (Hold q packet)) needs takes plain = by (peer_in net.links q)
  where
    r : ℕ
    r = prio_of packet

    by : (p : Option PortRef) → HoldsPlain (after_hold net q p r)
    by None = plain
    by (Some p) = record {
      received = plain_lane net.received q r (net.received q r ++ only_first (net.waiting p r))
          (plain_both (net.received q r) (only_first (net.waiting p r)) (plain.received q r)
          (plain_front (net.waiting p r) (plain.waiting p r))) plain.received;
      waiting = plain_lane net.waiting p r (behind_first (net.waiting p r))
          (plain_rest (net.waiting p r) (plain.waiting p r)) plain.waiting;
    }
plain_after net (Linked (Free p packet)) needs takes plain =
    record { received = plain.received; waiting = plain.waiting }
plain_after net (AtNode (Takes n packet)) needs takes plain =
    let p = port_of n in
    let r = prio_of packet in
    record {
      received = plain.received;
      waiting = plain_lane net.waiting p r (net.waiting p r ++ item_of net p packet ∷ [])
          (plain_both (net.waiting p r) (item_of net p packet ∷ []) (plain.waiting p r)
          (takes, tt)) plain.waiting;
    }
plain_after net (AtNode (Leave n packet)) needs takes plain =
    plain_without net (port_of n) (prio_of packet) plain
plain_after net (ByDevice (Move p q packet)) needs takes plain =
    let r = prio_of packet in
    record {
      received = (plain_without net p r plain).received;
      waiting = plain_lane net.waiting q r
          (net.waiting q r ++ only_first (map moved_item (net.received p r)))
          (plain_both (net.waiting q r) (only_first (map moved_item (net.received p r)))
          (plain.waiting q r) (plain_moved (net.received p r) (plain.received p r)))
          plain.waiting;
    }
plain_after net (ByDevice (Drop p packet)) needs takes plain =
    plain_without net p (prio_of packet) plain
plain_after net (ByDevice (Answer p packet response)) needs takes plain =
    absurd (no_response net p packet response
    (first_plain (net.received p (prio_of packet)) packet needs.0
    (plain.received p (prio_of packet))) needs.2)

-- ---- all steps

abbrev pub NoAnswers : List Step → Type 0
NoAnswers steps = AllByRecursion (λ step. is_answer step ≡ false) steps

pub record StayPlain (steps : List Step) (end : Network) : Type 0 where
  pub none : NoAnswers steps
  pub plain : HoldsPlain end

pub stay_plain : (net : Network) (steps : List Step) (end : Network)
    → AllByRecursion TakesPlain steps → LegalFrom net steps end → HoldsPlain net
    → StayPlain steps end
stay_plain net [] end takes legal plain =
    record { none = tt; plain = subst HoldsPlain (sym legal) plain }
stay_plain net (step ∷ steps) end takes legal plain =
    let rest = stay_plain (after net step) steps end takes.1 legal.1
    (plain_after net step legal.0 takes.0 plain) in
    record { none = (no_answer net step legal.0 plain, rest.none); plain = rest.plain }

pub empty_plain : (net : Network) → IsEmptyNetwork net → HoldsPlain net
empty_plain net empty = record {
  received = λ p r. subst ArePlain (sym (empty.received p r)) tt;
  waiting = λ p r. subst ArePlain (sym (empty.waiting p r)) tt;
}

-- ---- where nothing is answered

pub routes_stand : (dest : Option ℕ) (net : Network) (steps : List Step) → NoAnswers steps
    → RoutesStand dest net steps
routes_stand dest net [] none = tt
routes_stand dest net (step ∷ steps) none = (
  λ n. ap (λ (devices : List Registers). route_at (record net { registers = devices }) dest n)
      (registers_stay net step none.0),
  routes_stand dest (after net step) steps none.1,
)

pub registers_kept : (net : Network) (steps : List Step) (end : Network) → NoAnswers steps
    → LegalFrom net steps end → end.registers ≡ net.registers
registers_kept net [] end none legal = ap (λ (n : Network). n.registers) legal
registers_kept net (step ∷ steps) end none legal =
    registers_kept (after net step) steps end none.1 legal.1 ∙ registers_stay net step none.0
