-- Two hosts that are linked to each other begin, and one is left alone.
use Rattle.contest_machine.proofs.Prelude.{◌≡◌, ℕ, zero, suc, ◌/◌, ◌%◌, ◌^◌, ◌<◌, ◌≤◌, is_some, Bool, true, false, List, [], ◌∷◌, ◌⊎◌, None, Some, IsSome, inl, inr, arith, refl, sym, ap, subst, ◌∙◌, if◌then◌else◌, PortRef, same_Some, port_at, Registers, IsDevice, new_endpoint, is_switch, Topology, IsTopology, IsPortIn, device_ports, Fits, Side, A, B, IsNew, walker_of, AreBegun, IsUnlocked, IsLeftAlone, beginner, two_hosts, five_each}
use Rattle.fabric_script.specs.Peers.{peer_in}
use Rattle.fabric_script.specs.Known.{same_port}
use Rattle.fabric_script.proofs.PeerLaws.{port_is}
use Rattle.maint_registers.proofs.WithinLaws.{new_endpoint_within}
use Rattle.fabric_map.specs.Plain.{topology_of, registers_of}
use Rattle.host_enumerate.specs.Examples.{pair_links}

abbrev devices : List Registers
devices = new_endpoint 5 true ∷ new_endpoint 7 true ∷ []

-- ---- two nodes with one port each

both : (P : ℕ → Type 0) → P 0 → P 1 → (node : ℕ) → node < 2 → P node
both P first second zero inside = first
both P first second (suc zero) inside = second
both P first second (suc (suc node)) inside = absurd (omega (arith, inside))

only : (P : ℕ → Type 0) → P 0 → (port : ℕ) → port < 1 → P port
only P first zero inside = first
only P first (suc port) inside = absurd (omega (arith, inside))

-- the two ends of the link
abbrev AreItsEnds : PortRef → PortRef → Type 0
AreItsEnds p q = ((port_at 0 0 ≡ p) × (port_at 1 0 ≡ q)) ⊎ ((port_at 1 0 ≡ p) × (port_at 0 0 ≡ q))

its_ends : (p q : PortRef) → peer_in pair_links p ≡ Some q → AreItsEnds p q
its_ends p q linked = go (same_port (port_at 0 0) p) (same_port (port_at 1 0) p) refl refl linked
  where
    go : (a b : Bool) → same_port (port_at 0 0) p ≡ a → same_port (port_at 1 0) p ≡ b
        → (if a then Some (port_at 1 0) else (if b then Some (port_at 0 0) else None)) ≡ Some q
        → AreItsEnds p q
    go true b first second at = inl (port_is (port_at 0 0) p first, same_Some (port_at 1 0) q at)
    go false true first second at =
        inr (port_is (port_at 1 0) p second, same_Some (port_at 0 0) q at)
    go false false first second at = absurd (cc)

endpoint_is_device : (id : ℕ) → id < 0x100 → IsDevice (new_endpoint id true)
endpoint_is_device id small = record {
  most_ports = omega arith;
  endpoint_ports = λ is. refl;
  switch_id = λ is. absurd (cc);
  switch_large = λ is. absurd (cc);
  destinations = (new_endpoint_within id true small).destinations;
  selected = omega arith;
}

-- ---- as one of them sees it

module _ (host : ℕ) (is_host : host < 2) where
  abbrev view : Topology
  view = topology_of devices pair_links host

  pub pair_proper : IsTopology view
  pair_proper = record {
    most = omega arith;
    host = is_host;
    host_is_endpoint = both (λ h. view.switch_ports h ≡ None) refl refl host is_host;
    host_is_linked = both (λ h. IsSome (peer_in pair_links (port_at h 0))) refl refl host is_host;
    most_ports = most;
    ports = λ p q linked. port p q (its_ends p q linked);
    both_ways = λ p q linked. back p q (its_ends p q linked);
    two_ports = λ p linked. apart p (its_ends p p linked);
  }
    where
      most : (node : ℕ) → device_ports view node ≤ 16
      most zero = omega arith
      most (suc zero) = omega arith
      most (suc (suc node)) = omega arith

      port : (p q : PortRef) → AreItsEnds p q → IsPortIn view p
      port p q (inl at) =
          subst (IsPortIn view) at.0 (record { node = omega arith; port = omega arith })
      port p q (inr at) =
          subst (IsPortIn view) at.0 (record { node = omega arith; port = omega arith })

      back : (p q : PortRef) → AreItsEnds p q → peer_in pair_links q ≡ Some p
      back p q (inl at) = subst (λ r. peer_in pair_links r ≡ Some p) at.1
          (ap (λ (r : PortRef). Some r) at.0)
      back p q (inr at) = subst (λ r. peer_in pair_links r ≡ Some p) at.1
          (ap (λ (r : PortRef). Some r) at.0)

      apart : (p : PortRef) → ¬ AreItsEnds p p
      apart p (inl at) =
          let same = ap (λ (r : PortRef). r.node) (at.0 ∙ sym at.1) in omega (arith, same)
      apart p (inr at) =
          let same = ap (λ (r : PortRef). r.node) (at.0 ∙ sym at.1) in omega (arith, same)

  abbrev Shows : ℕ → ℕ → Type 0
  Shows node port =
      (registers_of devices node).linked / 2 ^ port % 2
      ≡ (if is_some (peer_in pair_links (port_at node port)) then 1 else 0)

  pub pair_shown : Fits view (registers_of devices)
  pair_shown = record {
    devices = both (λ node. IsDevice (registers_of devices node))
        (endpoint_is_device 5 (omega arith)) (endpoint_is_device 7 (omega arith));
    ids = both (λ node. (registers_of devices node).base_id < 256) (omega arith) (omega arith);
    large_ids = both (λ node. (registers_of devices node).large_id < 65536) (omega arith)
        (omega arith);
    locks = both (λ node. (registers_of devices node).lock < 65536) (omega arith) (omega arith);
    endpoints = both (λ node. view.switch_ports node ≡ None
        → is_switch (registers_of devices node) ≡ false) (λ _. refl) (λ _. refl);
    switches = λ node ports inside is. both (λ node. view.switch_ports node ≡ Some ports
        → is_switch (registers_of devices node) ≡ true)
        (λ none. absurd (cc)) (λ none. absurd (cc)) node inside is;
    ports = both (λ node. (registers_of devices node).ports ≡ device_ports view node) refl refl;
    linked = λ node port inside below. both
        (λ node. (port : ℕ) → port < device_ports view node → Shows node port)
        (only (λ port. Shows 0 port) refl) (only (λ port. Shows 1 port) refl) node inside port
        below;
  }

-- ---- both

beginner_new : (host id : ℕ) → IsNew (beginner host id)
beginner_new host id =
    record { devices = refl; tried = refl; todo = refl; path = refl; stage = refl }

pub pair_begun : AreBegun (two_hosts 0xffff)
pair_begun = record {
  new = new;
  next = next;
  differ = λ same. omega (arith, same);
  ids = ids;
  proper = proper;
  shown = shown;
}
  where
    new : (side : Side) → IsNew (walker_of (two_hosts 0xffff) side)
    new A = beginner_new 0 5
    new B = beginner_new 1 7

    next : (side : Side) → (walker_of (two_hosts 0xffff) side).next ≡ 0
    next A = refl
    next B = refl

    ids : (side : Side) → (walker_of (two_hosts 0xffff) side).id < 0xff
    ids A = omega arith
    ids B = omega arith

    proper : (side : Side) → IsTopology (walker_of (two_hosts 0xffff) side).view
    proper A = pair_proper 0 (omega arith)
    proper B = pair_proper 1 (omega arith)

    shown : (side : Side) → Fits (walker_of (two_hosts 0xffff) side).view
        (two_hosts 0xffff).registers
    shown A = pair_shown 0 (omega arith)
    shown B = pair_shown 1 (omega arith)

unlocked : IsUnlocked (two_hosts 0xffff).registers
unlocked zero = refl
unlocked (suc zero) = refl
unlocked (suc (suc node)) = refl

pub left_alone : IsLeftAlone (two_hosts 0xffff) five_each B
left_alone = record { begun = pair_begun; unlocked = unlocked; lost = refl }
