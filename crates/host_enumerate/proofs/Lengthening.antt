-- A device that is taken in.
use Rattle.host_enumerate.proofs.Prelude.{◌≡◌, ◌≢◌, ℕ, ◌+◌, ◌<◌, ◌≤◌, false, List, [], ◌∷◌, ◌++◌, length, Some, None, unwrap_or, Contains, arith, ◌⊎◌, inl, inr, subst, sym, refl, ap, ◌∙◌, length-append, ne_eqb, eq-eqb, cases_eq, Contains-push, Contains-push_cases, Contains-append_left, same_Some, PortRef, Registers, entry-set_same, entry-set_other, entry_of, Kind, Endpoint, Switch, Device, Topology, entered, node_at, onward, Walked, AllRegisters, IsNext, is_given, paths_of, toward, port_toward, IsDescribed, HasBaseId, some_from_same, takes_in, port_toward-free, port_toward-other, port_toward-new, device_on, paths_of-push, described-push, node_at-entered, has_id-endpoint, has_id-switch, with_entry, HasTable, HasTableOf, IsHeld, IdsAreCounted, IsUnmet, IsUnderway}

-- a switch keeps its table if the list gets longer, if the ports that lead to IDs stay
longer-table : (host_id : ℕ) (devices more : List Device) (path : List ℕ) (entry : ℕ)
    (old new : Registers)
    → HasTable host_id devices path entry old
    → new.default_port ≡ old.default_port
    → entry_of new host_id ≡ entry_of old host_id
    → ((id : ℕ) → id < 63 → id ≢ host_id
    → entry_of old id ≡ unwrap_or (port_toward devices path id) 255
    → entry_of new id ≡ unwrap_or (port_toward more path id) 255)
    → HasTable host_id more path entry new
longer-table host_id devices more path entry old new table default home branches = record {
  default = default ∙ table.default;
  home = home ∙ table.home;
  branches = λ id few other. branches id few other (table.branches id few other);
}

longer-table_of : (host_id : ℕ) (devices more : List Device) (device : Device)
    (old new : Registers)
    → HasTableOf host_id devices device old
    → new.default_port ≡ old.default_port
    → entry_of new host_id ≡ entry_of old host_id
    → ((id : ℕ) → id < 63 → id ≢ host_id
    → entry_of old id ≡ unwrap_or (port_toward devices device.path id) 255
    → entry_of new id ≡ unwrap_or (port_toward more device.path id) 255)
    → HasTableOf host_id more device new
longer-table_of host_id devices more device old new table default home branches =
    go device.kind table
  where
    go : (kind : Kind) → HasTableOf host_id devices (record device { kind = kind }) old
        → HasTableOf host_id more (record device { kind = kind }) new
    go (Endpoint id) table = tt
    go (Switch ports entry) table =
        longer-table host_id devices more device.path entry old new table default home branches

module _ {host_id : ℕ} {devices : List Device} (device : Device) {member : Device}
    {before now : Registers} (held : IsHeld host_id devices member before now) where
  held-same : HasTableOf host_id (devices ++ device ∷ []) member now
      → IsHeld host_id (devices ++ device ∷ []) member before now
  held-same table = record {
    marked = held.marked;
    not_foreign = held.not_foreign;
    changes = held.changes;
    table = table;
  }

  -- beside a new switch
  pub held-switch : (ports entry : ℕ) → device.kind ≡ Switch ports entry
      → IsHeld host_id (devices ++ device ∷ []) member before now
  held-switch ports entry is =
      held-same (longer-table_of host_id devices (devices ++ device ∷ []) member now now held.table
      refl refl (λ id few other same. same ∙ ap (λ o. unwrap_or o 255)
      (sym (port_toward-other devices device member.path id
      (has_id-switch device id ports entry is)))))

  -- an endpoint has no table
  pub held-endpoint : (given : ℕ) × (member.kind ≡ Endpoint given)
      → IsHeld host_id (devices ++ device ∷ []) member before now
  held-endpoint is =
      held-same (subst (λ k. HasTableOf host_id (devices ++ device ∷ [])
      (record member { kind = k }) now) (sym is.1) tt)

  other_id : (id given : ℕ) → device.kind ≡ Endpoint given → given ≢ id
      → port_toward (devices ++ device ∷ []) member.path id
      ≡ port_toward devices member.path id
  other_id id given is apart =
      port_toward-other devices device member.path id
      (has_id-endpoint device id given is ∙ ne_eqb given id apart)

  new_id : (id given : ℕ) → device.kind ≡ Endpoint given → given ≡ id
      → is_given devices given ≡ false
      → port_toward (devices ++ device ∷ []) member.path id ≡ toward member.path device.path
  new_id id given is same free =
      port_toward-new devices device member.path id
      (subst (λ n. is_given devices n ≡ false) same free)
      (has_id-endpoint device id given is ∙ eq-eqb given id same)

  -- beside a new endpoint to which no path through this device leads
  pub held-beside : (given : ℕ) → device.kind ≡ Endpoint given
      → is_given devices given ≡ false → toward member.path device.path ≡ None
      → IsHeld host_id (devices ++ device ∷ []) member before now
  held-beside given is free none =
      held-same (longer-table_of host_id devices (devices ++ device ∷ []) member now now held.table
      refl refl (λ id few other same. branch id same (cases_eq given id)))
    where
      branch : (id : ℕ)
          → entry_of now id ≡ unwrap_or (port_toward devices member.path id) 255
          → (given ≡ id) ⊎ (given ≢ id)
          → entry_of now id
          ≡ unwrap_or (port_toward (devices ++ device ∷ []) member.path id) 255
      branch id same (inl equal) =
          same ∙ ap (λ o. unwrap_or o 255)
          (port_toward-free devices member.path id
          (subst (λ n. is_given devices n ≡ false) equal free)
          ∙ sym (new_id id given is equal free ∙ none))
      branch id same (inr apart) =
          same ∙ ap (λ o. unwrap_or o 255) (sym (other_id id given is apart))

  -- on the way to a new endpoint
  pub held-passed : (given port : ℕ) → device.kind ≡ Endpoint given
      → is_given devices given ≡ false → toward member.path device.path ≡ Some port
      → given < 63 → given ≢ host_id → length now.routes ≡ 1024
      → IsHeld host_id (devices ++ device ∷ []) member before (with_entry now given port)
  held-passed given port is free leads few other all = record {
    marked = record {
      lock = held.marked.lock;
      tag = held.marked.tag;
      base_id = base member.kind held.marked.base_id;
    };
    not_foreign = held.not_foreign;
    changes = record {
      rest = ap (λ (d : Registers). with_entry d given port) held.changes.rest;
      routes = λ id most less apart.
          entry-set_other now.routes given id port (λ same. omega (arith, same, few, most))
          ∙ held.changes.routes id most less apart;
    };
    table = longer-table_of host_id devices (devices ++ device ∷ []) member now
        (with_entry now given port) held.table refl
        (entry-set_other now.routes given host_id port (λ same. other (sym same)))
        (λ id few apart same. branch id same (cases_eq given id));
  }
    where
      base : (kind : Kind) → HasBaseId now kind → HasBaseId (with_entry now given port) kind
      base (Endpoint id) has = has
      base (Switch ports entry) has = has

      branch : (id : ℕ)
          → entry_of now id ≡ unwrap_or (port_toward devices member.path id) 255
          → (given ≡ id) ⊎ (given ≢ id)
          → entry_of (with_entry now given port) id
          ≡ unwrap_or (port_toward (devices ++ device ∷ []) member.path id) 255
      branch id same (inl equal) =
          subst (λ n. entry_of (with_entry now given port) n ≡ port) equal
          (entry-set_same now.routes given port (omega (arith, few, all)))
          ∙ sym (ap (λ o. unwrap_or o 255) (new_id id given is equal free ∙ leads))
      branch id same (inr apart) =
          entry-set_other now.routes given id port (λ equal. apart (sym equal))
          ∙ (same ∙ ap (λ o. unwrap_or o 255) (sym (other_id id given is apart)))

-- a path to be tried is no longer than the list of devices
pub next-short : (devices : List Device) (path : List ℕ)
    → ((device : Device) → Contains devices device → length device.path < length devices)
    → IsNext (paths_of devices) path → length path ≤ length devices
next-short devices path short (inl empty) =
    subst (λ p. length p ≤ length devices) (sym empty) (omega arith)
next-short devices path short (inr last) =
    let found = device_on devices last.0 last.2 in
    let less = short found.0 found.1 in
    let same = ap (λ p. length p) found.2 in
    let more = ap (λ p. length p) last.3 ∙ length-append last.0 (last.1 ∷ []) in
    omega (arith, less, same, more)

module _ {topology : Topology} {before now : AllRegisters} (after : AllRegisters) {host_id next : ℕ}
    (next_after : ℕ) {devices : List Device} (device : Device) {at : PortRef}
    (underway : IsUnderway topology before now host_id devices next device.path)
    (is_next : IsNext (paths_of devices) device.path)
    (enters : entered topology device.path ≡ Some at)
    (unmet : IsUnmet topology devices at.node) where
  -- a device is taken in
  pub underway-taken : IsDescribed topology host_id devices device
      → IdsAreCounted host_id (devices ++ device ∷ []) next_after
      → ((member : Device) (node : ℕ) → Contains devices member
      → node_at topology member.path ≡ Some node
      → IsHeld host_id (devices ++ device ∷ []) member (before node) (after node))
      → IsHeld host_id (devices ++ device ∷ []) device (before at.node) (after at.node)
      → ((node : ℕ) → IsUnmet topology devices node → node ≢ at.node → after node ≡ now node)
      → IsUnderway topology before after host_id (devices ++ device ∷ []) next_after
      (onward device.path 0)
  underway-taken described counted members new others = record {
    proper = underway.proper;
    id = underway.id;
    host_has_id = underway.host_has_id;
    untagged = underway.untagged;
    walked = subst (λ l. Walked topology l (onward device.path 0))
        (sym (paths_of-push devices device))
        (takes_in topology (paths_of devices) device.path underway.walked is_next
        (some_from_same (node_at topology device.path) at.node leads) fresh);
    described = described-push topology host_id [] devices device underway.described described;
    counted = counted;
    short = λ member listed.
        short member (Contains-push_cases devices device member listed);
    held = λ member node listed same.
        held member node same (Contains-push_cases devices device member listed);
    others = λ node none. unmet_still node
        (λ member listed. none member (Contains-append_left devices (device ∷ []) member listed))
        (λ same. none device (Contains-push devices device)
        (leads ∙ ap (λ n. Some n) (sym same)));
  }
    where
      leads : node_at topology device.path ≡ Some at.node
      leads = node_at-entered topology device.path at enters

      fresh : (other : List ℕ) → Contains (paths_of devices) other
          → node_at topology other ≢ node_at topology device.path
      fresh other listed same =
          let found = device_on devices other listed in
          unmet found.0 found.1 (ap (λ p. node_at topology p) found.2 ∙ (same ∙ leads))

      longer_by_one : length (devices ++ device ∷ []) ≡ length devices + 1
      longer_by_one = length-append devices (device ∷ [])

      short : (member : Device) → Contains devices member ⊎ (device ≡ member)
          → length member.path < length (devices ++ device ∷ [])
      short member (inl listed) =
          let less = underway.short member listed in
          omega (arith, less, longer_by_one)
      short member (inr same) =
          let less = next-short devices device.path underway.short is_next in
          let equal = ap (λ (d : Device). length d.path) same in
          omega (arith, less, equal, longer_by_one)

      held : (member : Device) (node : ℕ) → node_at topology member.path ≡ Some node
          → Contains devices member ⊎ (device ≡ member)
          → IsHeld host_id (devices ++ device ∷ []) member (before node) (after node)
      held member node same (inl listed) = members member node listed same
      held member node same (inr equal) =
          let node_same : Some at.node ≡ Some node =
          sym leads ∙ (ap (λ (d : Device). node_at topology d.path) equal ∙ same) in
          subst (λ n. IsHeld host_id (devices ++ device ∷ []) member (before n) (after n))
          (same_Some at.node node node_same)
          (subst (λ d. IsHeld host_id (devices ++ device ∷ []) d (before at.node)
          (after at.node)) equal new)

      unmet_still : (node : ℕ) → IsUnmet topology devices node → node ≢ at.node
          → after node ≡ before node
      unmet_still node none apart = others node none apart ∙ underway.others node none
