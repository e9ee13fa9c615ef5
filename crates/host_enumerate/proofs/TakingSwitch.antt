-- A switch that is taken in, and the host itself.
use Rattle.host_enumerate.proofs.Prelude.{◌≡◌, ◌≢◌, ℕ, ◌+◌, ◌<◌, List, [], ◌∷◌, ◌++◌, length, Some, None, unwrap_or, All, Contains, inl, subst, sym, refl, ap, ◌∙◌, same_Some, get_or-map, length-map, PortRef, port_at, Registers, Endpoint, Switch, Device, Topology, entered, node_at, Before, onward, AllRegisters, IsForeign, IsNext, paths_of, port_toward, IsKindAt, IsDescribed, ChangesOnly, Contains-first, not_in_empty, port_toward-unbegun, port_toward-other, device_on, node_at-entered, has_id-switch, SwitchIsSetUp, met_as, IsHeld, IsUnmet, IsUnderway}
use Rattle.host_enumerate.proofs.Counting.{counted-switch, counted-host}
use Rattle.host_enumerate.proofs.Lengthening.{held-switch, underway-taken}

-- a device that the host has taken and tagged
pub record IsTaken (host_id : ℕ) (devices : List Device) (before held : Registers)
    : Type 0 where
  pub lock : held.lock ≡ host_id
  pub tag : held.tag ≡ length devices + 1
  pub not_foreign : ¬ IsForeign host_id before.lock
  pub changes : ChangesOnly (host_id ∷ []) before held

-- what holds of all paths holds of the path of each device
all_paths : (P : List ℕ → Type 0) (devices : List Device) → All P (paths_of devices)
    → All (λ (device : Device). P device.path) devices
all_paths P devices all k d within =
    subst P (get_or-map (λ (device : Device). device.path) devices k d d.path within)
    (all k d.path (subst (λ n. k < n)
    (sym (length-map devices (λ (device : Device). device.path))) within))

-- while a path other than the host's is tried, the host is met
pub host_listed : (topology : Topology) (before now : AllRegisters) (host_id next : ℕ)
    (devices : List Device) (path : List ℕ)
    → IsUnderway topology before now host_id devices next path → path ≢ []
    → (host : Device) × Contains devices host × (host.path ≡ [])
host_listed topology before now host_id next devices [] underway some = absurd (some refl)
host_listed topology before now host_id next devices (x ∷ path) underway some =
    device_on devices [] (underway.walked.host_met tt)

-- a switch is behind no empty path
pub switch_behind : (topology : Topology) (path : List ℕ) (at : PortRef) (ports : ℕ)
    → topology.switch_ports topology.host ≡ None → entered topology path ≡ Some at
    → topology.switch_ports at.node ≡ Some ports → path ≢ []
switch_behind topology path at ports endpoint enters is empty =
    let same : at.node ≡ topology.host =
    sym (same_Some topology.host at.node
    (node_at-entered topology [] (port_at topology.host 0) refl ∙ (ap
    (λ p. node_at topology p) (sym empty) ∙ node_at-entered topology path at enters))) in
    let none : None ≡ Some ports = sym endpoint ∙ (ap
    (λ n. topology.switch_ports n) (sym same) ∙ is) in
    absurd (cc)

module _ (topology : Topology) (before now after : AllRegisters) (host_id next : ℕ)
    (devices : List Device) (path : List ℕ) (at : PortRef)
    (underway : IsUnderway topology before now host_id devices next path)
    (is_next : IsNext (paths_of devices) path)
    (enters : entered topology path ≡ Some at)
    (unmet : IsUnmet topology devices at.node) where
  -- a switch is taken in
  pub underway-switch : (ports : ℕ) (mid : Registers)
      → topology.switch_ports at.node ≡ Some ports
      → IsTaken host_id devices (before at.node) mid
      → SwitchIsSetUp host_id at.port mid (after at.node)
      → ((node : ℕ) → node ≢ at.node → after node ≡ now node)
      → IsUnderway topology before after host_id
      (devices ++ met_as devices (Switch ports at.port) path ∷ []) next (onward path 0)
  underway-switch ports mid is taken set_up others =
      underway-taken after next switch underway is_next enters unmet described
      (counted-switch host_id next ports at.port devices host.0 switch underway.counted host.1
      refl)
      (λ member node listed same.
      subst (λ d. IsHeld host_id (devices ++ switch ∷ []) member (before node) d)
      (sym (others node (λ equal. unmet member listed (same ∙ ap (λ n. Some n) equal))))
      (held-switch switch (underway.held member node listed same) ports at.port refl))
      new (λ node none apart. others node apart)
    where
      switch : Device
      switch = met_as devices (Switch ports at.port) path

      host : (host : Device) × Contains devices host × (host.path ≡ [])
      host = host_listed topology before now host_id next devices path underway
          (switch_behind topology path at ports underway.proper.host_is_endpoint enters is)

      described : IsDescribed topology host_id devices switch
      described = record {
        tag = refl;
        at = at;
        path = enters;
        kind = subst (λ o. IsKindAt host_id devices at o (Switch ports at.port)) (sym is)
            (refl, refl);
      }

      unbegun : (id : ℕ) → port_toward (devices ++ switch ∷ []) path id ≡ None
      unbegun id =
          port_toward-other devices switch path id (has_id-switch switch id ports at.port refl)
          ∙ port_toward-unbegun devices path id (all_paths (λ p. Before p path) devices
          underway.walked.before)

      new : IsHeld host_id (devices ++ switch ∷ []) switch (before at.node) (after at.node)
      new = record {
        marked = record {
          lock = ap (λ (d : Registers). d.lock) set_up.same.rest ∙ taken.lock;
          tag = ap (λ (d : Registers). d.tag) set_up.same.rest ∙ taken.tag;
          base_id = tt;
        };
        not_foreign = taken.not_foreign;
        changes = record {
          rest = ap (λ (d : Registers). record (after at.node) {
            kind = d.kind;
            ports = d.ports;
            linked = d.linked;
            large_id = d.large_id;
            standard = d.standard;
          }) set_up.same.rest
              ∙ ap (λ (d : Registers). record (after at.node) {
                kind = d.kind;
                ports = d.ports;
                linked = d.linked;
                large_id = d.large_id;
                standard = d.standard;
              }) taken.changes.rest;
          routes = λ id most less apart.
              set_up.kept id most (λ same.
              apart (subst (λ n. Contains (host_id ∷ []) n) (sym same)
              (Contains-first host_id []))) ∙ taken.changes.routes id most less apart;
        };
        table = record {
          default = set_up.default;
          home = set_up.home;
          branches = λ id few other.
              set_up.cleared id few other ∙ ap (λ o. unwrap_or o 255) (sym (unbegun id));
        };
      }

-- The host itself is taken in.
pub underway-host : (topology : Topology) (before now after : AllRegisters) (host_id : ℕ)
    → IsUnderway topology before now host_id [] 0 []
    → IsTaken host_id [] (before topology.host) (after topology.host)
    → (after topology.host).base_id ≡ host_id
    → ((node : ℕ) → node ≢ topology.host → after node ≡ now node)
    → IsUnderway topology before after host_id (met_as [] (Endpoint host_id) [] ∷ []) 0 (0 ∷ [])
underway-host topology before now after host_id underway taken id others =
    underway-taken after 0 host underway
    (inl refl) refl (λ device listed same. not_in_empty device listed) described
    (counted-host host_id host refl)
    (λ member node listed same. absurd (not_in_empty member listed))
    (record {
      marked = record { lock = taken.lock; tag = taken.tag; base_id = id };
      not_foreign = taken.not_foreign;
      changes = taken.changes;
      table = tt;
    })
    (λ node none apart. others node apart)
  where
    host : Device
    host = met_as [] (Endpoint host_id) []

    described : IsDescribed topology host_id [] host
    described = record {
      tag = refl;
      at = port_at topology.host 0;
      path = refl;
      kind = subst (λ o. IsKindAt host_id [] (port_at topology.host 0) o (Endpoint host_id))
          (sym underway.proper.host_is_endpoint) refl;
    }
