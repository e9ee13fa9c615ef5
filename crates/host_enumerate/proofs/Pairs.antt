-- A host and an endpoint with a link between them.
use Rattle.host_enumerate.proofs.Prelude.{◌≡◌, ℕ, zero, suc, ◌/◌, ◌%◌, ◌^◌, ◌<◌, ◌≤◌, is_some, Bool, true, false, Some, None, ◌⊎◌, inl, inr, arith, refl, sym, ap, subst, ◌∙◌, if◌then◌else◌, same_Some, length-replicate, PortRef, same_port, port_is, IsDevice, new_endpoint, no_routes, is_switch, peer_in, port_at, IsTopology, IsPortIn, device_ports, Fits, topology_of, registers_of}
use Rattle.host_enumerate.specs.Examples.{pair_devices, pair_links}

abbrev Ends : PortRef → PortRef → Type 0
Ends p q = ((port_at 0 0 ≡ p) × (port_at 1 0 ≡ q)) ⊎ ((port_at 1 0 ≡ p) × (port_at 0 0 ≡ q))

-- the link has two ends
ends : (p q : PortRef) → peer_in pair_links p ≡ Some q → Ends p q
ends p q linked = go (same_port (port_at 0 0) p) (same_port (port_at 1 0) p) refl refl linked
  where
    go : (a b : Bool) → same_port (port_at 0 0) p ≡ a → same_port (port_at 1 0) p ≡ b
        → (if a then Some (port_at 1 0) else (if b then Some (port_at 0 0) else None)) ≡ Some q
        → Ends p q
    go true b first second at = inl (port_is (port_at 0 0) p first, same_Some (port_at 1 0) q at)
    go false true first second at =
        inr (port_is (port_at 1 0) p second, same_Some (port_at 0 0) q at)
    go false false first second at = absurd (cc)

pub pair-topology : IsTopology (topology_of pair_devices pair_links 0)
pair-topology = record {
  most = omega arith;
  host = omega arith;
  host_is_endpoint = refl;
  host_is_linked = refl;
  most_ports = most;
  ports = λ p q linked. port p q (ends p q linked);
  both_ways = λ p q linked. back p q (ends p q linked);
  two_ports = λ p linked. apart p (ends p p linked);
}
  where
    most : (node : ℕ) → device_ports (topology_of pair_devices pair_links 0) node ≤ 16
    most zero = omega arith
    most (suc zero) = omega arith
    most (suc (suc node)) = omega arith

    port : (p q : PortRef) → Ends p q → IsPortIn (topology_of pair_devices pair_links 0) p
    port p q (inl at) = subst (λ r. IsPortIn (topology_of pair_devices pair_links 0) r) at.0
        (record { node = omega arith; port = omega arith })
    port p q (inr at) = subst (λ r. IsPortIn (topology_of pair_devices pair_links 0) r) at.0
        (record { node = omega arith; port = omega arith })

    back : (p q : PortRef) → Ends p q → peer_in pair_links q ≡ Some p
    back p q (inl at) = subst (λ r. peer_in pair_links r ≡ Some p) at.1
        (ap (λ (r : PortRef). Some r) at.0)
    back p q (inr at) = subst (λ r. peer_in pair_links r ≡ Some p) at.1
        (ap (λ (r : PortRef). Some r) at.0)

    apart : (p : PortRef) → ¬ Ends p p
    apart p (inl at) =
        let same = ap (λ (r : PortRef). r.node) (at.0 ∙ sym at.1) in omega (arith, same)
    apart p (inr at) =
        let same = ap (λ (r : PortRef). r.node) (at.0 ∙ sym at.1) in omega (arith, same)

new_endpoint-device : (id : ℕ) → IsDevice (new_endpoint id true)
unfolding no_routes
new_endpoint-device id = record {
  most_ports = omega arith;
  endpoint_ports = λ is. refl;
  switch_id = λ is. absurd (cc);
  switch_large = λ is. absurd (cc);
  destinations = length-replicate {A = ℕ} 1024 255;
  selected = omega arith;
}

-- what holds of both devices holds of all
both : (P : ℕ → Type 0) → P 0 → P 1 → (node : ℕ) → node < 2 → P node
both P first second zero inside = first
both P first second (suc zero) inside = second
both P first second (suc (suc node)) inside = absurd (omega (arith, inside))

-- a device with one port
only : (P : ℕ → Type 0) → P 0 → (port : ℕ) → port < 1 → P port
only P first zero inside = first
only P first (suc port) inside = absurd (omega (arith, inside))

abbrev Shows : ℕ → ℕ → Type 0
Shows node port =
    (registers_of pair_devices node).linked / 2 ^ port % 2
    ≡ (if is_some (peer_in pair_links (port_at node port)) then 1 else 0)

pub pair-fits : Fits (topology_of pair_devices pair_links 0) (registers_of pair_devices)
pair-fits = record {
  devices = both (λ node. IsDevice (registers_of pair_devices node)) (new_endpoint-device 5)
      (new_endpoint-device 255);
  ids = both (λ node. (registers_of pair_devices node).base_id < 256) (omega arith) (omega arith);
  large_ids = both (λ node. (registers_of pair_devices node).large_id < 65536) (omega arith)
      (omega arith);
  locks = both (λ node. (registers_of pair_devices node).lock < 65536) (omega arith)
      (omega arith);
  endpoints = both (λ node. (topology_of pair_devices pair_links 0).switch_ports node ≡ None
      → is_switch (registers_of pair_devices node) ≡ false) (λ _. refl) (λ _. refl);
  switches = λ node ports inside is. both
      (λ node. (topology_of pair_devices pair_links 0).switch_ports node ≡ Some ports
      → is_switch (registers_of pair_devices node) ≡ true)
      (λ none. absurd (cc)) (λ none. absurd (cc)) node inside is;
  ports = both (λ node. (registers_of pair_devices node).ports
      ≡ device_ports (topology_of pair_devices pair_links 0) node) refl refl;
  linked = λ node port inside below. both
      (λ node. (port : ℕ) → port < device_ports (topology_of pair_devices pair_links 0) node
      → Shows node port)
      (only (λ port. Shows 0 port) refl) (only (λ port. Shows 1 port) refl) node inside port below;
}
