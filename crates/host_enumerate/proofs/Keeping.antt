-- What is kept if the entry of 255 is set, and where a switch that was met sends packets.
use Rattle.host_enumerate.proofs.Prelude.{rules, ◌≡◌, ◌≢◌, ℕ, ◌<◌, ◌≤◌, true, List, [], length, Some, Contains, arith, ◌⊎◌, inl, inr, subst, sym, ap, ◌∙◌, cases_eq, same_Some, PortRef, Registers, is_switch, entry_of, next_port, entry-next, entry-set_same, entry-set_other, Kind, Endpoint, Switch, Device, Topology, entered, node_at, AllRegisters, Fits, HasBaseId, described-listed, described-switch, node_at-entered, entered-port, AreSame, Becomes, with_entry, HasTableOf, IsHeld, IsUnmet, AreOwnUntagged, IsUnderway}
use Rattle.host_enumerate.proofs.Frames.{with_device-at, with_device-other}

-- the next ports of a switch
module _ (device : Registers) (switch : is_switch device ≡ true)
    (few : device.ports ≤ 16) (all : length device.routes ≡ 1024) where
  -- an entry for 255 is where the host's requests go
  pub next-with_entry : (dest port : ℕ) → dest < 256 → port < device.ports
      → next_port (with_entry device dest port) dest ≡ Some port
  next-with_entry dest port within below =
      entry-next (with_entry device dest port) dest port switch few
      (entry-set_same device.routes dest port (omega (arith, within, all))) below

-- the entry of 255 does not matter to what is held
pub held-255 : (host_id port : ℕ) (devices : List Device) (member : Device)
    (before now : Registers) → host_id < 255 → IsHeld host_id devices member before now
    → IsHeld host_id devices member before (with_entry now 255 port)
held-255 host_id port devices member before now is_id held = record {
  marked = record {
    lock = held.marked.lock;
    tag = held.marked.tag;
    base_id = base member.kind held.marked.base_id;
  };
  not_foreign = held.not_foreign;
  changes = record {
    rest = ap (λ (d : Registers). with_entry d 255 port) held.changes.rest;
    routes = λ id most less apart.
        entry-set_other now.routes 255 id port less
        ∙ held.changes.routes id most less apart;
  };
  table = table member.kind held.table;
}
  where
    base : (kind : Kind) → HasBaseId now kind → HasBaseId (with_entry now 255 port) kind
    base (Endpoint id) has = has
    base (Switch ports entry) has = has

    table : (kind : Kind) → HasTableOf host_id devices (record member { kind = kind }) now
        → HasTableOf host_id devices (record member { kind = kind }) (with_entry now 255 port)
    table (Endpoint id) has = tt
    table (Switch ports entry) has = record {
      default = has.default;
      home = entry-set_other now.routes 255 host_id port (λ same. omega (arith, same, is_id))
          ∙ has.home;
      branches = λ id few apart.
          entry-set_other now.routes 255 id port (λ same. omega (arith, same, few))
          ∙ has.branches id few apart;
    }

module _ (topology : Topology) (before now : AllRegisters) (host_id next : ℕ)
    (devices : List Device) (bound : List ℕ)
    (underway : IsUnderway topology before now host_id devices next bound) where
  -- other registers now
  underway_with : (after : AllRegisters) → ((member : Device) (node : ℕ) → Contains devices member
      → node_at topology member.path ≡ Some node
      → IsHeld host_id devices member (before node) (after node))
      → ((node : ℕ) → IsUnmet topology devices node → after node ≡ before node)
      → IsUnderway topology before after host_id devices next bound
  underway_with after held others = search rules

  -- equal registers
  pub underway-same : (after : AllRegisters) → AreSame now after
      → IsUnderway topology before after host_id devices next bound
  underway-same after same = underway_with after
      (λ member node listed is.
      subst (λ d. IsHeld host_id devices member (before node) d) (sym (same node))
      (underway.held member node listed is))
      (λ node unmet. same node ∙ underway.others node unmet)

  -- the entry of 255 of a device that was met
  pub underway-255 : (after : AllRegisters) (member : Device) (node port : ℕ)
      → Contains devices member → node_at topology member.path ≡ Some node
      → Becomes now after node (with_entry (now node) 255 port)
      → IsUnderway topology before after host_id devices next bound
  underway-255 after member node port listed is becomes = underway_with after
      (λ other place within at. held other place within at (cases_eq place node))
      (λ place unmet. elsewhere place
      (λ same. unmet member listed (is ∙ ap (λ n. Some n) (sym same)))
      ∙ underway.others place unmet)
    where
      elsewhere : (place : ℕ) → place ≢ node → after place ≡ now place
      elsewhere place apart =
          becomes place ∙ with_device-other now node place (with_entry (now node) 255 port) apart

      held : (other : Device) (place : ℕ) → Contains devices other
          → node_at topology other.path ≡ Some place → (place ≡ node) ⊎ (place ≢ node)
          → IsHeld host_id devices other (before place) (after place)
      held other place within at (inl same) =
          subst (λ d. IsHeld host_id devices other (before place) d)
          (ap (λ n. with_entry (now n) 255 port) same
          ∙ (sym (with_device-at now node (with_entry (now node) 255 port))
          ∙ (sym (becomes node) ∙ ap after (sym same))))
          (held-255 host_id port devices other (before place) (now place) underway.host_has_id
          (underway.held other place within at))
      held other place within at (inr apart) =
          subst (λ d. IsHeld host_id devices other (before place) d) (sym (elsewhere place apart))
          (underway.held other place within at)

  -- a switch that was met sends home by the port by which its path enters it
  pub next-home : (member : Device) (at : PortRef) (ports entry : ℕ) → Fits topology now
      → Contains devices member → member.kind ≡ Switch ports entry
      → entered topology member.path ≡ Some at
      → next_port (now at.node) host_id ≡ Some at.port
  next-home member at ports entry fits listed is enters =
      let described = described-listed topology host_id [] devices member underway.described
      listed in
      let switch = described-switch topology host_id ports entry described.0 member described.1
      is in
      let same : switch.0 ≡ at = same_Some switch.0 at (sym switch.1 ∙ enters) in
      let kind : topology.switch_ports at.node ≡ Some ports =
      ap (λ (p : PortRef). topology.switch_ports p.node) (sym same) ∙ switch.2 in
      let port : at.port ≡ entry = ap (λ (p : PortRef). p.port) (sym same) ∙ switch.3 in
      let is_port = entered-port topology member.path at underway.proper enters in
      let held = underway.held member at.node listed (node_at-entered topology member.path at
      enters) in
      entry-next (now at.node) host_id at.port (fits.switches at.node ports is_port.node kind)
      (fits.devices at.node is_port.node).most_ports
      (home held.table ∙ sym port)
      (subst (λ n. at.port < n) (sym (fits.ports at.node is_port.node)) is_port.port)
    where
      home : HasTableOf host_id devices member (now at.node)
          → entry_of (now at.node) host_id ≡ entry
      home table =
          (subst (λ k. HasTableOf host_id devices (record member { kind = k }) (now at.node)) is
          table).home

  -- What happens to devices that were not met does not matter, as long as none of them that bears
  -- the host's ID has a tag: each such device begins as it is now.
  pub underway-elsewhere : (earlier after : AllRegisters)
      → (earlier topology.host).base_id ≡ host_id
      → ((member : Device) (node : ℕ) → Contains devices member
      → node_at topology member.path ≡ Some node
      → (earlier node ≡ before node) × (after node ≡ now node))
      → ((node : ℕ) → IsUnmet topology devices node → after node ≡ earlier node)
      → AreOwnUntagged topology earlier host_id
      → IsUnderway topology earlier after host_id devices next bound
  underway-elsewhere earlier after id met unmet untagged = record {
    proper = underway.proper;
    id = id;
    host_has_id = underway.host_has_id;
    untagged = untagged;
    walked = underway.walked;
    described = underway.described;
    counted = underway.counted;
    short = underway.short;
    held = λ member node listed is.
        let same = met member node listed is in
        subst (λ d. IsHeld host_id devices member d (after node)) (sym same.0)
        (subst (λ d. IsHeld host_id devices member (before node) d) (sym same.1)
        (underway.held member node listed is));
    others = unmet;
  }
