-- A walk begins with the host and its neighbour.
use Rattle.host_enumerate.proofs.Prelude.{◌≡◌, ◌+◌, ℕ, ◌<◌, ◌*◌, ◌/◌, inr, List, [], ◌∷◌, Contains, Option, Some, None, IsSome, arith, refl, sym, subst, ◌∙◌, Contains-push, same_Some, PortRef, port_at, value_at, base_id-read, Kind, Endpoint, Switch, Device, Topology, IsTopology, entered, onward, after_all_paths, AllRegisters, Fits, IsNext, paths_of, IsDescribed, not_in_empty, begins, followed-host, some_from_same, path_listed, described-listed, described-switch, described-endpoint, Ghosts, Numbering, IsAskable, AreSame, met_as, AreUntagged, IsUnderway, IsNumbering, IsTried, IsFound, HasFound}
use Rattle.host_enumerate.proofs.Tried.{PathTried}
use Rattle.host_enumerate.proofs.Counting.{counted-none}
use Rattle.host_enumerate.proofs.Stepping.{entered-linked, followed-ports, followed-none, underway-past, underway-closed}
use Rattle.host_enumerate.proofs.Askable.{opened-empty, opened-first, not_host-first}
use Rattle.host_enumerate.proofs.Asked.{askable-host, askable-next}

-- nothing is met
pub begun : (topology : Topology) (before now : AllRegisters) (host_id : ℕ) → IsTopology topology
    → (before topology.host).base_id ≡ host_id → host_id < 255 → AreUntagged topology before
    → AreSame before now → IsUnderway topology before now host_id [] 0 []
begun topology before now host_id proper id has untagged same = record {
  proper = proper;
  id = id;
  host_has_id = has;
  untagged = λ node inside own. untagged node inside;
  walked = begins topology;
  described = tt;
  counted = counted-none host_id;
  short = λ device listed. absurd (not_in_empty device listed);
  held = λ device node listed leads. absurd (not_in_empty device listed);
  others = λ node unmet. same node;
}

-- the host asks itself
pub host_askable : {topology : Topology} {before now : AllRegisters} {host_id : ℕ}
    → IsUnderway topology before now host_id [] 0 []
    → IsAskable topology now host_id [] (port_at topology.host 0)
host_askable {topology} {before} {now} {host_id} underway =
    askable-host topology before now host_id 0 [] [] underway

-- the host's own ID can be read
pub own_askable : (topology : Topology) (registers : AllRegisters) → IsTopology topology
    → IsAskable topology registers (registers topology.host).base_id []
    (port_at topology.host 0)
own_askable topology registers proper = record {
  id = refl;
  opened = opened-empty topology registers (registers topology.host).base_id;
  leads = refl;
  not_host = λ same. refl;
  short = omega arith;
}

pub own_answers : (topology : Topology) (registers : AllRegisters) → IsTopology topology
    → Fits topology registers → IsSome (value_at (registers topology.host) 0x60 0)
own_answers topology registers proper fits =
    some_from_same (value_at (registers topology.host) 0x60 0)
    ((registers topology.host).base_id * 0x10000 + (registers topology.host).large_id)
    (base_id-read (registers topology.host) 0
    (fits.endpoints topology.host proper.host proper.host_is_endpoint))

pub own_id : (topology : Topology) (registers : AllRegisters) (value : ℕ) → IsTopology topology
    → Fits topology registers → value_at (registers topology.host) 0x60 0 ≡ Some value
    → value / 65536 ≡ (registers topology.host).base_id
own_id topology registers value proper fits told =
    omega (arith, same, fits.large_ids topology.host proper.host)
  where
    shown : ℕ
    shown = (registers topology.host).base_id * 0x10000 + (registers topology.host).large_id

    same : value ≡ shown
    same = same_Some value shown
        (sym told ∙ base_id-read (registers topology.host) 0
        (fits.endpoints topology.host proper.host proper.host_is_endpoint))

-- the host is met
pub host_met : {S : Type 0} (m : Ghosts S) {met : S} (none numbering : Numbering) {path : List ℕ}
    {before : AllRegisters} (kind : Option Kind) → none.devices.items ≡ [] → path ≡ []
    → IsTried m met none numbering path before kind → IsNumbering m met numbering (0 ∷ []) before
host_met m none numbering None is_none empty tried =
    absurd (not_in_empty tried.3.met_on
    (subst (λ l. Contains (paths_of l) tried.3.met_on) (tried.0 ∙ is_none) tried.3.listed))
host_met m {met = met} none numbering {before = before} (Some kind) is_none empty tried =
    subst (λ l. IsNumbering m met numbering (onward l 0) before) empty tried.1

-- its neighbour is entered
pub first_enters : (topology : Topology) → IsTopology topology
    → (at : PortRef) × (entered topology (0 ∷ []) ≡ Some at)
first_enters topology proper = go (topology.peer (port_at topology.host 0)) refl
    proper.host_is_linked
  where
    go : (o : Option PortRef) → topology.peer (port_at topology.host 0) ≡ o → IsSome o
        → (at : PortRef) × (entered topology (0 ∷ []) ≡ Some at)
    go None link some = absurd (cc)
    go (Some at) link some = (
      at,
      entered-linked topology [] (port_at topology.host 0) at 0 refl
          (subst (λ n. 0 < n) (sym (followed-host topology)) (omega arith)) link,
    )

module _ {topology : Topology} {before now : AllRegisters} {host_id next : ℕ}
    {devices : List Device}
    (underway : IsUnderway topology before now host_id devices next (0 ∷ [])) where
  pub first_next : IsNext (paths_of devices) (0 ∷ [])
  first_next = inr ([], 0, underway.walked.host_met tt, refl)

  pub first_askable : IsAskable topology now host_id (0 ∷ []) (first_enters topology
      underway.proper).0
  first_askable =
      let enters = first_enters topology underway.proper in
      askable-next topology before now host_id next devices (0 ∷ []) underway (0 ∷ []) enters.0
      first_next (opened-first topology now host_id 0) enters.1
      (not_host-first topology enters.0 underway.proper enters.1)

-- it was tried
module _ {S : Type 0} {m : Ghosts S} {met after : S} {numbering last : Numbering}
    {answer : Option Kind}
    (second : PathTried m met after numbering last (0 ∷ []) answer)
    (some : (before : AllRegisters) × IsNumbering m met numbering (0 ∷ []) before) where
  -- it was met before: there is nothing else
  pub first_past : answer ≡ None → (before : AllRegisters)
      → IsNumbering m met numbering (0 ∷ []) before
      → IsNumbering m after last after_all_paths before
  first_past is before underway =
      let known = subst (λ a. IsTried m after numbering last (0 ∷ []) before a) is
      (second.tried before underway) in
      underway-past (m.topology after) before (m.registers after) last.host_id last.next_id
      last.devices.items [] 0 known.2 (known.2.walked.host_met tt) (λ _. known.3)

  module _ {kind : Kind} (is : answer ≡ Some kind) where
    abbrev device : Device
    device = met_as numbering.devices.items kind (0 ∷ [])

    pub first_underway : (before : AllRegisters) → IsNumbering m met numbering (0 ∷ []) before
        → IsNumbering m after last (onward (0 ∷ []) 0) before
    first_underway before underway =
        (subst (λ a. IsTried m after numbering last (0 ∷ []) before a) is
        (second.tried before underway)).1

    underway_now : IsNumbering m after last (onward (0 ∷ []) 0) some.0
    underway_now = first_underway some.0 some.1

    listed : Contains last.devices.items device
    listed =
        subst (λ l. Contains l device)
        (sym (subst (λ a. IsTried m after numbering last (0 ∷ []) some.0 a) is
        (second.tried some.0 some.1)).0) (Contains-push numbering.devices.items device)

    described : (earlier : List Device)
        × IsDescribed (m.topology after) last.host_id earlier device
    described = described-listed (m.topology after) last.host_id [] last.devices.items device
        underway_now.described listed

    -- it is an endpoint
    pub first_endpoint : {id : ℕ} → kind ≡ Endpoint id → (before : AllRegisters)
        → IsNumbering m met numbering (0 ∷ []) before
        → IsNumbering m after last after_all_paths before
    first_endpoint {id} is_endpoint before underway =
        let shown = described-endpoint (m.topology after) last.host_id id described.0 device
        described.1 is_endpoint in
        underway-closed (m.topology after) before (m.registers after) last.host_id last.next_id
        last.devices.items [] shown.0 0 0 (first_underway before underway) shown.1
        (followed-none (m.topology after) shown.0.node
        (not_host-first (m.topology after) shown.0 underway_now.proper shown.1) shown.2)

    -- it is a switch
    pub first_found : {ports entry : ℕ} → kind ≡ Switch ports entry
        → HasFound m after last record { path = 0 ∷ []; ports = ports; entry = entry }
    first_found {ports} {entry} is_switch =
        let shown = described-switch (m.topology after) last.host_id ports entry described.0 device
        described.1 is_switch in
        record {
          at = shown.0;
          leads = shown.1;
          switch = shown.2;
          entry = sym shown.3;
          away = λ empty. absurd (cc);
          listed = path_listed last.devices.items device listed;
          opened = second.opened;
        }

-- all ports of the neighbour are tried
pub first_done : {topology : Topology} {before now : AllRegisters} {host_id next ports entry : ℕ}
    {devices : List Device}
    → IsFound topology now host_id devices
    record { path = 0 ∷ []; ports = ports; entry = entry }
    → IsUnderway topology before now host_id devices next (onward (0 ∷ []) ports)
    → IsUnderway topology before now host_id devices next after_all_paths
first_done {topology} {before} {now} {host_id} {next} {ports} {entry} {devices} found underway =
    underway-closed topology before now host_id next devices [] found.at 0 ports underway
    found.leads
    (followed-ports topology found.at.node ports
    (not_host-first topology found.at underway.proper found.leads) found.switch)
