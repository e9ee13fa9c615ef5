-- What registers tell a walker of the devices and links of its view.
use Rattle.contest_machine.proofs.Prelude.{◌≡◌, ◌≢◌, ℕ, ◌+◌, ◌*◌, ◌/◌, ◌%◌, ◌^◌, ◌<◌, ◌≤◌, ◌==◌, nat_lt, Bool, true, false, List, [], ◌∷◌, Option, Some, None, IsSome, is_some, unwrap_or, arith, ◌⊎◌, inl, inr, subst, sym, refl, ap, ◌∙◌, if◌then◌else◌, ne_eqb, option_and_then, cases_lt, lt-ltb, PortRef, port_at, Registers, is_switch, features-read, status-read, status-none, same_kind, Topology, IsTopology, ports_followed, behind_port, entered, onward, AllRegisters, Fits, entered-inside, followed-host, along-onward, Read, answered}
use Rattle.contest_machine.proofs.Turns.Lasting.{AreSameDevices}

-- the path leads to a switch
abbrev pub IsAtSwitch : Topology → List ℕ → Type 0
IsAtSwitch view path = (at : PortRef) × (ports : ℕ) × (entered view path ≡ Some at)
    × (view.switch_ports at.node ≡ Some ports)

-- what the features tell
pub features_told : (device : Registers) (port : ℕ)
    → (answered device port (Read 0x10)).answer.value
    ≡ (if is_switch device then 0x10000118 else 0x18)
features_told device port = ap (λ o. unwrap_or o 0) (features-read device port)

switch_told : (device : Registers) (port : ℕ)
    → (answered device port (Read 0x10)).answer.value / 0x10000000 % 2 ≡ 1
    → is_switch device ≡ true
switch_told device port bit = go (is_switch device) refl (sym (features_told device port))
  where
    go : (b : Bool) → is_switch device ≡ b
        → (if is_switch device then 0x10000118 else 0x18)
        ≡ (answered device port (Read 0x10)).answer.value
        → is_switch device ≡ true
    go true is told = is
    go false is told =
        let features : (answered device port (Read 0x10)).answer.value ≡ 0x18 =
        sym told ∙ ap (λ b. if b then 0x10000118 else 0x18) is in
        absurd (omega (arith, bit, features))

-- ---- of the fabric as it was, and as it is

module _ (view : Topology) (before now : AllRegisters) (proper : IsTopology view)
    (fits : Fits view before) (same : AreSameDevices before now) (path : List ℕ) (at : PortRef)
    (enters : entered view path ≡ Some at) where
  inside : at.node < view.nodes
  inside = entered-inside view path at proper enters

  pub is_at_switch : (answered (now at.node) at.port (Read 0x10)).answer.value / 0x10000000 % 2 ≡ 1
      → IsAtSwitch view path
  is_at_switch bit = go (view.switch_ports at.node) refl
    where
      shown : is_switch (before at.node) ≡ true
      shown = sym (same_kind (before at.node) (now at.node) (same at.node))
          ∙ switch_told (now at.node) at.port bit

      go : (o : Option ℕ) → view.switch_ports at.node ≡ o → IsAtSwitch view path
      go (Some ports) is = (at, ports, enters, is)
      go None none = absurd (clash (sym shown ∙ fits.endpoints at.node inside none))
        where
          clash : true ≡ false → ⊥
          clash e = absurd (cc)

  -- a port that shows a link has one
  pub is_linked : (n : ℕ)
      → (answered (now at.node) at.port (Read (0x158 + 0x20 * n))).answer.value ≡ 2
      → (next : PortRef) × (view.peer (port_at at.node n) ≡ Some next)
  is_linked n two = go (view.peer (port_at at.node n)) refl (cases_lt n (now at.node).ports)
    where
      past : (now at.node).ports ≤ n → ⊥
      past most =
          let none : (answered (now at.node) at.port (Read (0x158 + 0x20 * n))).answer.value ≡ 0 =
          ap (λ o. unwrap_or o 0)
          (status-none (now at.node) n at.port most) in
          omega (arith, none, two)

      unlinked : n < (now at.node).ports → view.peer (port_at at.node n) ≡ None → ⊥
      unlinked below none =
          let bit : (now at.node).linked / 2 ^ n % 2 ≡ 0 =
          ap (λ k. k / 2 ^ n % 2) (same at.node).linked
          ∙ (fits.linked at.node n inside
          (subst (λ k. n < k) ((same at.node).ports ∙ fits.ports at.node inside) below)
          ∙ ap (λ o. if is_some o then 1 else 0) none) in
          let one : (answered (now at.node) at.port (Read (0x158 + 0x20 * n))).answer.value ≡ 1 =
          ap (λ o. unwrap_or o 0)
          (status-read (now at.node) n at.port below)
          ∙ ap (λ k. if k == 1 then 2 else 1) bit in
          omega (arith, one, two)

      go : (o : Option PortRef) → view.peer (port_at at.node n) ≡ o
          → (n < (now at.node).ports) ⊎ ((now at.node).ports ≤ n)
          → (next : PortRef) × (view.peer (port_at at.node n) ≡ Some next)
      go (Some next) is below = (next, is)
      go None none (inl below) = absurd (unlinked below none)
      go None none (inr most) = absurd (past most)

-- a port of a switch with a link leads on
pub leads_on : (view : Topology) (path : List ℕ) (at next : PortRef) (ports port : ℕ)
    → IsTopology view → entered view path ≡ Some at → view.switch_ports at.node ≡ Some ports
    → view.peer (port_at at.node port) ≡ Some next → IsSome (entered view (onward path port))
leads_on view path at next ports port proper enters switch link =
    subst IsSome
    (sym (along-onward view (port_at view.host 0) path port
    ∙ (ap (λ o. option_and_then (λ (p : PortRef). behind_port view p.node port) o) enters
    ∙ (ap (λ b. if b then view.peer (port_at at.node port) else None)
    (lt-ltb port (ports_followed view at.node) below) ∙ link)))) refl
  where
    other : at.node ≢ view.host
    other is = clash (sym (ap view.switch_ports is ∙ proper.host_is_endpoint) ∙ switch)
      where
        clash : None ≡ Some ports → ⊥
        clash e = absurd (cc)

    all : ports_followed view at.node ≡ ports
    all = ap (λ b. if b then 1 else unwrap_or (view.switch_ports at.node) 0)
        (ne_eqb at.node view.host other) ∙ ap (λ o. unwrap_or o 0) switch

    inside : port < ports
    inside = subst (λ o. port < unwrap_or o 1) switch
        (proper.ports (port_at at.node port) next link).port

    below : port < ports_followed view at.node
    below = subst (λ n. port < n) (sym all) inside

-- and so does the host's port
pub host_leads_on : (view : Topology) → IsTopology view → IsSome (entered view (0 ∷ []))
host_leads_on view proper =
    subst IsSome (sym (ap (λ o. option_and_then (λ (p : PortRef). Some p) o) way ∙ whole
    (view.peer (port_at view.host 0)))) proper.host_is_linked
  where
    way : behind_port view view.host 0 ≡ view.peer (port_at view.host 0)
    way = ap (λ n. if nat_lt 0 n then view.peer (port_at view.host 0) else None)
        (followed-host view)

    whole : (o : Option PortRef) → option_and_then (λ (p : PortRef). Some p) o ≡ o
    whole None = refl
    whole (Some p) = refl
