-- What the call that tries a port of a switch knows.
use Rattle.host_enumerate.proofs.Prelude.{◌≡◌, ◌≢◌, ℕ, ◌+◌, ◌<◌, ◌≤◌, List, [], ◌∷◌, ◌++◌, length, Contains, Option, Some, None, arith, sym, ap, subst, ◌∙◌, length-append, Contains-push, same_Some, PortRef, Kind, Endpoint, Switch, Device, Topology, entered, onward, AllRegisters, IsOpened, paths_of, IsDescribed, onward-not_empty, path_listed, described-listed, described-switch, described-endpoint, Found, Ghosts, Numbering, met_as, IsNumbering, IsTried, HasFound}
use Rattle.host_enumerate.proofs.Stepping.{followed-none, underway-past, underway-closed}
use Rattle.host_enumerate.proofs.Tried.{PathTried}
use Rattle.host_enumerate.proofs.Routing.{opened-front}
use Rattle.host_enumerate.proofs.Looking.{still_found, IsSetTo, underway_here, behind_enters, behind_apart}

module _ {S : Type 0} {m : Ghosts S} {old read end after : S} {numbering new : Numbering}
    {switch : Found} {port : ℕ} {path : List ℕ} {kind : Option Kind}
    (set : IsSetTo m old read end numbering switch port path)
    (met : PathTried m end after numbering new path kind) where
  abbrev behind : List ℕ
  behind = onward switch.path port

  tried_here : (before : AllRegisters) → IsNumbering m old numbering behind before
      → IsTried m after numbering new behind before kind
  tried_here before underway =
      subst (λ l. IsTried m after numbering new l before kind) set.is_path
      (met.tried before (underway_here set before underway))

  opened_here : IsOpened (m.topology after) (m.registers after) new.host_id behind
  opened_here = subst (λ l. IsOpened (m.topology after) (m.registers after) new.host_id l)
      set.is_path met.opened

  -- the switch can still be asked
  switch_still : Contains (paths_of new.devices.items) switch.path → HasFound m after new switch
  switch_still listed =
      still_found (met.topology ∙ set.is_topology) set.found
      (opened-front (m.topology after) (m.registers after) new.host_id switch.path (port ∷ [])
      opened_here) listed

  -- it was met before
  module _ (is : kind ≡ None) where
    none_tried : (before : AllRegisters) → IsNumbering m old numbering behind before
        → IsTried m after numbering new behind before None
    none_tried before underway =
        subst (λ k. IsTried m after numbering new behind before k) is (tried_here before underway)

    same : new.devices.items ≡ numbering.devices.items
    same = (none_tried set.some.0 set.some.1).0

    listed : Contains (paths_of new.devices.items) switch.path
    listed = subst (λ l. Contains (paths_of l) switch.path) (sym same) set.found.listed

    pub none_looked : (before : AllRegisters) → IsNumbering m old numbering behind before
        → IsNumbering m after new (onward switch.path (port + 1)) before
    none_looked before underway =
        let known = none_tried before underway in
        underway-past (m.topology after) before (m.registers after) new.host_id new.next_id
        new.devices.items switch.path port known.2 listed (λ _. known.3)

    pub none_found : HasFound m after new switch
    none_found = switch_still listed

    pub none_longer : length numbering.devices.items ≤ length new.devices.items
    none_longer = let long = ap (λ l. length l) same in omega (arith, long)

  -- it was taken in
  module _ {is_kind : Kind} (is : kind ≡ Some is_kind) where
    abbrev device : Device
    device = met_as numbering.devices.items is_kind behind

    some_tried : (before : AllRegisters) → IsNumbering m old numbering behind before
        → IsTried m after numbering new behind before (Some is_kind)
    some_tried before underway =
        subst (λ k. IsTried m after numbering new behind before k) is (tried_here before underway)

    longer : new.devices.items ≡ numbering.devices.items ++ device ∷ []
    longer = (some_tried set.some.0 set.some.1).0

    underway_now : IsNumbering m after new (onward behind 0) set.some.0
    underway_now = (some_tried set.some.0 set.some.1).1

    listed_new : Contains new.devices.items device
    listed_new = subst (λ l. Contains l device) (sym longer)
        (Contains-push numbering.devices.items device)

    described_new : (earlier : List Device)
        × IsDescribed (m.topology after) new.host_id earlier device
    described_new =
        described-listed (m.topology after) new.host_id [] new.devices.items device
        underway_now.described listed_new

    some_more : length numbering.devices.items < length new.devices.items
    some_more =
        let long = ap (λ l. length l) longer in
        let more = length-append numbering.devices.items (device ∷ []) in
        omega (arith, long, more)

    pub some_longer : length numbering.devices.items ≤ length new.devices.items
    some_longer = let more = some_more in omega (arith, more)

    pub endpoint_looked : {id : ℕ} → is_kind ≡ Endpoint id → (before : AllRegisters)
        → IsNumbering m old numbering behind before
        → IsNumbering m after new (onward switch.path (port + 1)) before
    endpoint_looked {id} is_endpoint before underway =
        let shown = described-endpoint (m.topology after) new.host_id id described_new.0 device
        described_new.1 is_endpoint in
        underway-closed (m.topology after) before (m.registers after) new.host_id new.next_id
        new.devices.items switch.path shown.0 port 0 (some_tried before underway).1 shown.1
        (followed-none (m.topology after) shown.0.node (behind_still shown.0 shown.1) shown.2)
      where
        stays : m.topology after ≡ m.topology old
        stays = met.topology ∙ set.is_topology

        behind_still : (p : PortRef) → entered (m.topology after) behind ≡ Some p
            → p.node ≢ (m.topology after).host
        behind_still p enters =
            subst (λ (t : Topology). p.node ≢ t.host) (sym stays)
            (subst (λ (q : PortRef). q.node ≢ (m.topology old).host)
            (same_Some set.link.0 p (sym (behind_enters set)
            ∙ (ap (λ t. entered t behind) (sym stays) ∙ enters))) (behind_apart set))

    pub some_found : HasFound m after new switch
    some_found = switch_still (underway_now.walked.fronts switch.path port
        (path_listed new.devices.items device listed_new))

    pub switch_looked : (before : AllRegisters) → IsNumbering m old numbering behind before
        → IsNumbering m after new (onward path 0) before
    switch_looked before underway =
        subst (λ l. IsNumbering m after new (onward l 0) before) (sym set.is_path)
        (some_tried before underway).1

    pub switch_is_found : {ports entry : ℕ} → is_kind ≡ Switch ports entry
        → HasFound m after new record { path = path; ports = ports; entry = entry }
        × (path ≡ behind) × (length numbering.devices.items < length new.devices.items)
    switch_is_found {ports} {entry} is_switch =
        let shown = described-switch (m.topology after) new.host_id ports entry described_new.0
        device described_new.1 is_switch in (
          subst (λ l. HasFound m after new record { path = l; ports = ports; entry = entry })
              (sym set.is_path) (record {
                at = shown.0;
                leads = shown.1;
                switch = shown.2;
                entry = sym shown.3;
                away = λ empty. onward-not_empty switch.path port (sym empty);
                listed = path_listed new.devices.items device listed_new;
                opened = opened_here;
              }),
          set.is_path,
          some_more,
        )
