-- Which path is tried next: past a port, behind a device that was taken in, and back.
use Rattle.host_enumerate.proofs.Prelude.{rules, ◌≡◌, ◌≢◌, ℕ, ◌+◌, ◌<◌, nat_lt, Bool, true, false, List, [], Option, Some, None, IsSome, option_map, Contains, inr, subst, sym, refl, ap, ◌∙◌, if◌then◌else◌, ne_eqb, lt-ltb, option_and_then, PortRef, port_at, Device, Topology, IsTopology, ports_followed, behind_port, entered, node_at, onward, IsMet, Walked, AllRegisters, paths_of, Before-further, Before-transitive, goes_past, closes, along-onward, onward_is_followed, behind-link, IsUnderway}

-- where a path leads with one port more
pub entered-onward : (topology : Topology) (path : List ℕ) (at : PortRef) (port : ℕ)
    → entered topology path ≡ Some at
    → entered topology (onward path port) ≡ behind_port topology at.node port
entered-onward topology path at port enters =
    along-onward topology (port_at topology.host 0) path port
    ∙ ap (λ o. option_and_then (λ (p : PortRef). behind_port topology p.node port) o) enters

-- nothing is behind a port without a link
pub unlinked-leads_nowhere : (topology : Topology) (path : List ℕ) (at : PortRef) (port : ℕ)
    → entered topology path ≡ Some at → topology.peer (port_at at.node port) ≡ None
    → ¬ IsSome (node_at topology (onward path port))
unlinked-leads_nowhere topology path at port enters none leads =
    go (nat_lt port (ports_followed topology at.node))
    (subst (λ o. IsSome (option_map (λ (p : PortRef). p.node) o))
    (entered-onward topology path at port enters) leads)
  where
    go : (b : Bool) → IsSome (option_map (λ (p : PortRef). p.node)
        (if b then topology.peer (port_at at.node port) else None)) → ⊥
    go true some =
        let some_none = subst (λ o. IsSome (option_map (λ (p : PortRef). p.node) o)) none some in
        absurd (cc)
    go false some = absurd (cc)

-- what is behind a port that is followed
pub entered-linked : (topology : Topology) (path : List ℕ) (at next : PortRef) (port : ℕ)
    → entered topology path ≡ Some at → port < ports_followed topology at.node
    → topology.peer (port_at at.node port) ≡ Some next
    → entered topology (onward path port) ≡ Some next
entered-linked topology path at next port enters below link =
    entered-onward topology path at port enters
    ∙ (ap (λ b. if b then topology.peer (port_at at.node port) else None)
    (lt-ltb port (ports_followed topology at.node) below) ∙ link)

-- a switch has all its ports followed
pub followed-ports : (topology : Topology) (node ports : ℕ) → node ≢ topology.host
    → topology.switch_ports node ≡ Some ports → ports_followed topology node ≡ ports
followed-ports topology node ports other is = rw (ne_eqb node topology.host other, is) refl

-- and an endpoint other than the host has none
pub followed-none : (topology : Topology) (node : ℕ) → node ≢ topology.host
    → topology.switch_ports node ≡ None → ports_followed topology node ≡ 0
followed-none topology node other is = rw (ne_eqb node topology.host other, is) refl

-- the port of entry leads back
pub leads_back : (topology : Topology) (path : List ℕ) (at : PortRef) (port : ℕ)
    → IsTopology topology → entered topology (onward path port) ≡ Some at
    → IsSome (node_at topology (onward (onward path port) at.port))
    → node_at topology (onward (onward path port) at.port) ≡ node_at topology path
leads_back topology path at port proper enters leads =
    go (entered topology path) refl
    (along-onward topology (port_at topology.host 0) path port)
  where
    back : (p : PortRef) → topology.peer at ≡ Some (port_at p.node port)
        → (b : Bool)
        → IsSome (option_map (λ (q : PortRef). q.node) (if b then topology.peer at else None))
        → option_map (λ (q : PortRef). q.node) (if b then topology.peer at else None)
        ≡ Some p.node
    back p link true some = ap (λ o. option_map (λ (q : PortRef). q.node) o) link
    back p link false some = absurd (cc)

    go : (o : Option PortRef) → entered topology path ≡ o
        → entered topology (onward path port)
        ≡ option_and_then (λ (p : PortRef). behind_port topology p.node port) o
        → node_at topology (onward (onward path port) at.port)
        ≡ option_map (λ (p : PortRef). p.node) o
    go None is behind_none =
        let none : Some at ≡ None = sym enters ∙ behind_none in
        absurd (cc)
    go (Some p) is behind_p =
        let link = behind-link topology p.node port at (sym behind_p ∙ enters) in
        let further = entered-onward topology (onward path port) at at.port enters in
        ap (λ o. option_map (λ (q : PortRef). q.node) o) further
        ∙ back p (proper.both_ways (port_at p.node port) at link.0)
        (nat_lt at.port (ports_followed topology at.node))
        (subst (λ o. IsSome (option_map (λ (q : PortRef). q.node) o)) further leads)

module _ (topology : Topology) (before now : AllRegisters) (host_id next : ℕ)
    (devices : List Device) where
  -- the same is underway before another path
  pub underway-bound : (bound later : List ℕ)
      → IsUnderway topology before now host_id devices next bound
      → Walked topology (paths_of devices) later
      → IsUnderway topology before now host_id devices next later
  underway-bound bound later underway walked = search rules

  -- past a port behind which nothing is, or what is met
  pub underway-past : (path : List ℕ) (port : ℕ)
      → IsUnderway topology before now host_id devices next (onward path port)
      → Contains (paths_of devices) path
      → (IsSome (node_at topology (onward path port))
      → IsMet topology (paths_of devices) (onward path port))
      → IsUnderway topology before now host_id devices next (onward path (port + 1))
  underway-past path port underway listed met =
      underway-bound (onward path port) (onward path (port + 1)) underway
      (goes_past topology (paths_of devices) path port underway.walked listed met)

  -- past a port without a link
  pub underway-unlinked : (path : List ℕ) (at : PortRef) (port : ℕ)
      → IsUnderway topology before now host_id devices next (onward path port)
      → Contains (paths_of devices) path → entered topology path ≡ Some at
      → topology.peer (port_at at.node port) ≡ None
      → IsUnderway topology before now host_id devices next (onward path (port + 1))
  underway-unlinked path at port underway listed enters none =
      underway-past path port underway listed
      (λ leads. absurd (unlinked-leads_nowhere topology path at port enters none leads))

  -- past the port of entry
  pub underway-entry : (path : List ℕ) (at : PortRef) (by : ℕ)
      → IsUnderway topology before now host_id devices next (onward (onward path by) at.port)
      → Contains (paths_of devices) (onward path by)
      → entered topology (onward path by) ≡ Some at
      → IsUnderway topology before now host_id devices next
      (onward (onward path by) (at.port + 1))
  underway-entry path at by underway listed enters =
      underway-past (onward path by) at.port underway listed (λ leads. record {
        met_on = path;
        listed = underway.walked.fronts path by listed;
        same_device = sym (leads_back topology path at by underway.proper enters leads);
        not_after = inr (Before-transitive path (onward path by)
            (onward (onward path by) at.port) (Before-further path by [])
            (Before-further (onward path by) at.port []));
      })

  -- back from a switch whose ports are tried, or from an endpoint
  pub underway-closed : (path : List ℕ) (at : PortRef) (port ports : ℕ)
      → IsUnderway topology before now host_id devices next
      (onward (onward path port) ports)
      → entered topology (onward path port) ≡ Some at → ports_followed topology at.node ≡ ports
      → IsUnderway topology before now host_id devices next (onward path (port + 1))
  underway-closed path at port ports underway enters all =
      underway-bound (onward (onward path port) ports) (onward path (port + 1)) underway
      (closes topology (paths_of devices) path port ports underway.walked
      (λ on leads. subst (λ n. on < n) all
      (onward_is_followed topology (onward path port) at on enters leads)))
