-- What the registers of a numbered ring are.
use Rattle.fabric_map.proofs.Prelude.{◌≡◌, ◌≢◌, ℕ, ◌<◌, [], ◌∷◌, Some, None, Contains, arith, ◌⊎◌, inl, inr, refl, sym, subst, ap, ◌∙◌, same_Some, PortRef, port_at, entry_of, next_port, AllRegisters, Arrives, AtEndpoint, ThroughSwitch, PacketComes, ring, IsRing, example_endpoint, switch, entry}
use Rattle.fabric_map.proofs.Lists.{Contains-cases, not_in_empty}
use Rattle.fabric_map.proofs.Ring.{unlinked_is_not_reached}

module _ (before after : AllRegisters) (is : IsRing before after) where
  pub ring_tag : (after 4).tag ≡ 2
  ring_tag = (is.1.marked (switch 2 4 0 (0 ∷ [])) 4 (1, omega arith, refl) refl).tag

  pub ring_lock : (after 4).lock ≡ 5
  ring_lock = (is.1.marked (switch 2 4 0 (0 ∷ [])) 4 (1, omega arith, refl) refl).lock ∙ is.0

  pub ring_id : (after 3).base_id ≡ 0
  ring_id =
      (is.1.marked (example_endpoint 5 0 (0 ∷ 1 ∷ 1 ∷ 2 ∷ [])) 3 (4, omega arith, refl)
      refl).base_id

  pub ring_table : next_port (after 4) 0 ≡ Some 1
  ring_table =
      is.1.tables (entry 2 0 1) (switch 2 4 0 (0 ∷ [])) 4 (0, omega arith, refl)
      (1, omega arith, refl) refl refl

  pub ring_entries_stay : (id : ℕ) → 62 < id → id ≢ 255
      → entry_of (after 4) id ≡ entry_of (before 4) id
  ring_entries_stay id most other =
      (is.1.inside 4 (0 ∷ [], refl)).routes id most other
      (λ listed. not_host (Contains-cases (before 0).base_id [] id listed))
    where
      not_host : ((before 0).base_id ≡ id) ⊎ Contains [] id → ⊥
      not_host (inl same) = let five = is.0 in omega (arith, same, most, five)
      not_host (inr none) = not_in_empty id none

  pub ring_links : (after 4).linked ≡ (before 4).linked
  ring_links = ap (λ d. d.linked) (is.1.inside 4 (0 ∷ [], refl)).rest

  pub ring_routed : PacketComes ring after 0 5 3
  ring_routed =
      is.1.routed 0 5 3 (switch 3 3 0 (0 ∷ 1 ∷ [])) (example_endpoint 5 0 (0 ∷ 1 ∷ 1 ∷ 2 ∷ []))
      (2, omega arith, refl) (4, omega arith, refl) refl refl refl (λ same. omega (arith, same))

  pub ring_outside : after 7 ≡ before 7
  ring_outside = is.1.outside 7 unlinked_is_not_reached

-- From switch 5 by port 2 packets come to the endpoint 2.
ends_at_2 : (registers : AllRegisters) (at : PortRef) → at ≡ port_at 5 2
    → ¬ Arrives ring registers 0 3 at
ends_at_2 registers at is (AtEndpoint from next peer_is endpoint same) =
    let peer : Some (port_at 2 0) ≡ Some next = sym (ap (λ p. ring.peer p) is) ∙ peer_is in
    let two : 2 ≡ next.node = ap (λ (p : PortRef). p.node) (same_Some (port_at 2 0) next peer) in
    omega (arith, two, same)
ends_at_2 registers at is (ThroughSwitch from next ports port peer_is switch_is entry_is rest) =
    let peer : Some (port_at 2 0) ≡ Some next = sym (ap (λ p. ring.peer p) is) ∙ peer_is in
    let none : None ≡ Some ports =
    subst (λ (p : PortRef). ring.switch_ports p.node ≡ Some ports)
    (sym (same_Some (port_at 2 0) next peer)) switch_is in
    absurd (cc none)

pub led_elsewhere : (registers : AllRegisters) → next_port (registers 5) 0 ≡ Some 2
    → ¬ PacketComes ring registers 0 5 3
led_elsewhere registers two comes =
    let same : Some comes.0 ≡ Some 2 = sym comes.1 ∙ two in
    ends_at_2 registers (port_at 5 comes.0)
    (ap (λ n. port_at 5 n) (same_Some comes.0 2 same)) comes.2
