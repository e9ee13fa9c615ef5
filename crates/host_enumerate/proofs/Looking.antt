-- What is behind a port of a switch that was met.
use Rattle.host_enumerate.proofs.Prelude.{◌≡◌, ◌≢◌, ℕ, ◌+◌, ◌*◌, ◌<◌, inr, true, List, [], length, Contains, Option, Some, None, IsSome, is_some, unwrap_or, arith, refl, sym, ap, subst, ◌∙◌, if◌then◌else◌, same_Some, PortRef, port_at, is_switch, value_at, next_port, Kind, Endpoint, Switch, Device, Topology, entered, node_at, onward, AllRegisters, Fits, IsOpened, paths_of, IsKindAt, IsDescribed, some_from_same, entered-inside, device_on, described-listed, node_at-entered, empty-before, Found, Ghosts, Numbering, IsAskable, IsApart, AreSame, Becomes, with_entry, IsUnderway, IsNumbering, IsFound, HasFound}
use Rattle.host_enumerate.proofs.Tried.{still_underway, still_opened}
use Rattle.host_enumerate.proofs.Frames.{status-shows}
use Rattle.host_enumerate.proofs.Opening.{opened-same, opened-apart, became}
use Rattle.host_enumerate.proofs.Holders.{askable-same}
use Rattle.host_enumerate.proofs.Stepping.{entered-linked, followed-ports, underway-unlinked}
use Rattle.host_enumerate.proofs.Askable.{opened-onward, apart-listed, not_host-next}
use Rattle.host_enumerate.proofs.Keeping.{next-with_entry, underway-same, underway-255, next-home}
use Rattle.host_enumerate.proofs.Asked.{most, askable-listed, askable-next}

-- a switch is no host
pub apart_from_host : (topology : Topology) (node ports : ℕ)
    → topology.switch_ports topology.host ≡ None → topology.switch_ports node ≡ Some ports
    → node ≢ topology.host
apart_from_host topology node ports none some same =
    absurd (differ (sym none ∙ (ap (λ n. topology.switch_ports n) (sym same) ∙ some)))
  where
    differ : None ≡ Some ports → ⊥
    differ same = absurd (cc)

-- a switch that was found, with a longer list and later registers
pub still_found : {topology later : Topology} {now after : AllRegisters} {host_id other : ℕ}
    {devices longer : List Device} {switch : Found} → later ≡ topology
    → IsFound topology now host_id devices switch → IsOpened later after other switch.path
    → Contains (paths_of longer) switch.path → IsFound later after other longer switch
still_found {switch = switch} is found opened listed = record {
  at = found.at;
  leads = ap (λ t. entered t switch.path) is ∙ found.leads;
  switch = ap (λ (t : Topology). t.switch_ports found.at.node) is ∙ found.switch;
  entry = found.entry;
  away = found.away;
  listed = listed;
  opened = opened;
}

-- a switch is listed as one
switch_at : (topology : Topology) (host_id n : ℕ) (earlier : List Device) (member : Device)
    (described : IsDescribed topology host_id earlier member)
    → topology.switch_ports described.at.node ≡ Some n
    → member.kind ≡ Switch n described.at.port
switch_at topology host_id n earlier member described is =
    go (topology.switch_ports described.at.node) member.kind is refl described.kind
  where
    go : (o : Option ℕ) (k : Kind) → o ≡ Some n → member.kind ≡ k
        → IsKindAt host_id earlier described.at o k → member.kind ≡ Switch n described.at.port
    go None k is shown kind = absurd (cc)
    go (Some ports) (Endpoint id) is shown kind = absurd kind
    go (Some ports) (Switch m entry) is shown kind =
        let same : ports ≡ n = same_Some ports n is in
        shown ∙ (ap (λ p. Switch p entry) (kind.0 ∙ same) ∙ ap (λ e. Switch n e) kind.1)

module _ {topology : Topology} {now : AllRegisters} {host_id next : ℕ} {devices : List Device}
    {switch : Found} (port : ℕ)
    (found : IsFound topology now host_id devices switch)
    (some : (before : AllRegisters)
    × IsUnderway topology before now host_id devices next (onward switch.path port)) where
  underway : IsUnderway topology some.0 now host_id devices next (onward switch.path port)
  underway = some.1

  pub member : (device : Device) × Contains devices device × (device.path ≡ switch.path)
  member = device_on devices switch.path found.listed

  pub not_host : found.at.node ≢ topology.host
  not_host = apart_from_host topology found.at.node switch.ports
      underway.proper.host_is_endpoint found.switch

  pub found_askable : IsAskable topology now host_id switch.path found.at
  found_askable =
      subst (λ l. IsAskable topology now host_id l found.at) member.2
      (askable-listed topology some.0 now host_id next devices (onward switch.path port) underway
      member.0 found.at (empty-before switch.path port) member.1
      (subst (λ l. IsOpened topology now host_id l) (sym member.2) found.opened)
      (ap (λ l. entered topology l) member.2 ∙ found.leads))

  pub found_apart : IsApart topology switch.path found.at.node
  found_apart = apart-listed topology (paths_of devices) (onward switch.path port) underway.walked
      switch.path found.at found.listed found.leads

  pub found_inside : found.at.node < topology.nodes
  found_inside = entered-inside topology switch.path found.at underway.proper found.leads

  pub found_short : length switch.path < 64
  found_short =
      let less = underway.short member.0 member.1 in
      let same = ap (λ l. length l) member.2 in
      let few = most topology some.0 now host_id next devices (onward switch.path port) underway in
      omega (arith, less, same, few)

  -- what the status of the port tells
  pub status_told : (number : ℕ) → Fits topology now → number ≡ port → port < switch.ports
      → value_at (now found.at.node) (344 + 32 * number) found.at.port
      ≡ Some (if is_some (topology.peer (port_at found.at.node port)) then 2 else 1)
  status_told number fits is below =
      ap (λ n. value_at (now found.at.node) (344 + 32 * n) found.at.port) is
      ∙ status-shows topology now fits found.at.node found_inside port found.at.port
      (subst (λ o. port < unwrap_or o 1) (sym found.switch) below)

  pub status_answers : (number : ℕ) → Fits topology now → number ≡ port → port < switch.ports
      → IsSome (value_at (now found.at.node) (344 + 32 * number) found.at.port)
  status_answers number fits is below = some_from_same
      (value_at (now found.at.node) (344 + 32 * number) found.at.port)
      (if is_some (topology.peer (port_at found.at.node port)) then 2 else 1)
      (status_told number fits is below)

  status_is : (number status : ℕ) → Fits topology now → number ≡ port → port < switch.ports
      → value_at (now found.at.node) (344 + 32 * number) found.at.port ≡ Some status
      → (if is_some (topology.peer (port_at found.at.node port)) then 2 else 1) ≡ status
  status_is number status fits is below told =
      same_Some (if is_some (topology.peer (port_at found.at.node port)) then 2 else 1) status
      (sym (status_told number fits is below) ∙ told)

  pub unlinked : (number status : ℕ) → Fits topology now → number ≡ port → port < switch.ports
      → value_at (now found.at.node) (344 + 32 * number) found.at.port ≡ Some status
      → status ≢ 2 → topology.peer (port_at found.at.node port) ≡ None
  unlinked number status fits is below told other =
      go (topology.peer (port_at found.at.node port)) refl
    where
      go : (o : Option PortRef) → topology.peer (port_at found.at.node port) ≡ o
          → topology.peer (port_at found.at.node port) ≡ None
      go None none = none
      go (Some end) link =
          absurd (other (sym (status_is number status fits is below told)
          ∙ ap (λ o. if is_some o then 2 else 1) link))

  pub linked : (number status : ℕ) → Fits topology now → number ≡ port → port < switch.ports
      → value_at (now found.at.node) (344 + 32 * number) found.at.port ≡ Some status
      → status ≡ 2
      → (end : PortRef) × (topology.peer (port_at found.at.node port) ≡ Some end)
  linked number status fits is below told two = go (topology.peer (port_at found.at.node port)) refl
    where
      differ : (n : ℕ) → n ≡ 1 → n ≡ 2 → ⊥
      differ n one two = omega (arith, one, two)

      go : (o : Option PortRef) → topology.peer (port_at found.at.node port) ≡ o
          → (end : PortRef) × (topology.peer (port_at found.at.node port) ≡ Some end)
      go None none =
          absurd (differ (if is_some (topology.peer (port_at found.at.node port)) then 2 else 1)
          (ap (λ o. if is_some o then 2 else 1) none)
          (status_is number status fits is below told ∙ two))
      go (Some end) link = (end, link)

  -- past a port without a link
  pub unlinked_passed : {later_topology : Topology} (later : AllRegisters)
      → later_topology ≡ topology → AreSame now later
      → topology.peer (port_at found.at.node port) ≡ None → (before : AllRegisters)
      → IsUnderway topology before now host_id devices next (onward switch.path port)
      → IsUnderway later_topology before later host_id devices next (onward switch.path (port + 1))
  unlinked_passed later is same none before underway =
      still_underway is refl
      (underway-unlinked topology before later host_id next devices switch.path found.at port
      (underway-same topology before now host_id next devices (onward switch.path port) underway
      later same) found.listed found.leads none)

  pub found_now : {later_topology : Topology} (later : AllRegisters) → later_topology ≡ topology
      → AreSame now later → IsFound later_topology later host_id devices switch
  found_now later is same =
      still_found is found (still_opened is refl (opened-same later found.opened same)) found.listed

  pub settable_now : (later_topology : Topology) (later : AllRegisters) → later_topology ≡ topology
      → AreSame now later → Fits topology now
      → IsAskable later_topology later host_id switch.path found.at
      × IsApart later_topology switch.path found.at.node
      × (is_switch (later found.at.node) ≡ true)
  settable_now later_topology later is same fits = (
    askable-same later is same
        found_askable,
    subst (λ t. IsApart t switch.path found.at.node) (sym is) found_apart,
    ap is_switch (same found.at.node)
        ∙ fits.switches found.at.node switch.ports found_inside found.switch,
  )

-- A switch that was found sends on through a port that has a link.
pub record IsSetTo {S : Type 0} (m : Ghosts S) (old read end : S) (numbering : Numbering)
    (switch : Found) (port : ℕ) (path : List ℕ) : Type 0 where
  pub found : HasFound m old numbering switch
  pub some : (before : AllRegisters)
      × IsNumbering m old numbering (onward switch.path port) before
  pub is_topology : m.topology end ≡ m.topology old
  pub same : AreSame (m.registers old) (m.registers read)
  pub becomes : Becomes (m.registers read) (m.registers end) found.at.node
      (with_entry (m.registers read found.at.node) 255 port)
  pub link : (end : PortRef) × ((m.topology old).peer (port_at found.at.node port) ≡ Some end)
  pub below : port < switch.ports
  pub apart : port ≢ switch.entry
  pub is_path : path ≡ onward switch.path port

module _ {S : Type 0} {m : Ghosts S} {old read end : S} {numbering : Numbering} {switch : Found}
    {port : ℕ} {path : List ℕ} (set : IsSetTo m old read end numbering switch port path) where
  abbrev topology : Topology
  topology = m.topology old

  abbrev now : AllRegisters
  now = m.registers old

  abbrev mid : AllRegisters
  mid = m.registers read

  abbrev later : AllRegisters
  later = m.registers end

  abbrev host_id : ℕ
  host_id = numbering.host_id

  abbrev next : ℕ
  next = numbering.next_id

  abbrev devices : List Device
  devices = numbering.devices.items

  listed : (device : Device) × Contains devices device × (device.path ≡ switch.path)
  listed = member port set.found set.some

  pub behind_enters : entered topology (onward switch.path port) ≡ Some set.link.0
  behind_enters =
      entered-linked topology switch.path set.found.at set.link.0 port set.found.leads
      (subst (λ n. port < n) (sym (followed-ports topology set.found.at.node switch.ports
      (not_host port set.found set.some) set.found.switch)) set.below) set.link.1

  -- what is behind it is not the host
  pub behind_apart : set.link.0.node ≢ topology.host
  behind_apart =
      not_host-next topology (paths_of devices) (onward switch.path port) set.some.1.walked
      switch.path set.found.at set.link.0 port set.some.1.proper (empty-before switch.path port)
      set.found.listed set.found.leads (λ _ is. set.apart (is ∙ sym set.found.entry)) behind_enters

  underway_then : (before : AllRegisters)
      → IsUnderway topology before now host_id devices next (onward switch.path port)
      → IsUnderway topology before later host_id devices next (onward switch.path port)
  underway_then before underway =
      underway-255 topology before mid host_id next devices (onward switch.path port)
      (underway-same topology before now host_id next devices (onward switch.path port)
      underway mid set.same) later listed.0 set.found.at.node port listed.1
      (ap (λ l. node_at topology l) listed.2
      ∙ node_at-entered topology switch.path set.found.at set.found.leads) set.becomes

  opened_later : IsOpened topology later host_id switch.path
  opened_later =
      opened-apart later set.found.at.node (with_entry (mid set.found.at.node) 255 port)
      (opened-same mid set.found.opened set.same) set.becomes (found_apart port set.found set.some)

  sends_on : Fits topology now → next_port (later set.found.at.node) 255 ≡ Some port
  sends_on fits =
      let node = set.found.at.node in
      let inside = found_inside port set.found set.some in
      ap (λ d. next_port d 255) (became mid later node (with_entry (mid node) 255 port) set.becomes
      ∙ ap (λ d. with_entry d 255 port) (set.same node))
      ∙ next-with_entry (now node) (fits.switches node switch.ports inside set.found.switch)
      (fits.devices node inside).most_ports (fits.devices node inside).destinations 255 port
      (omega arith) (subst (λ n. port < n) (sym (fits.ports node inside
      ∙ ap (λ o. unwrap_or o 1) set.found.switch)) set.below)

  kind : listed.0.kind ≡ Switch switch.ports set.found.at.port
  kind =
      let described = described-listed topology host_id [] devices listed.0
      set.some.1.described listed.1 in
      let here : described.1.at ≡ set.found.at = same_Some described.1.at set.found.at
      (sym described.1.path ∙ (ap (λ l. entered topology l) listed.2 ∙ set.found.leads)) in
      switch_at topology host_id switch.ports described.0 listed.0 described.1
      (ap (λ (p : PortRef). topology.switch_ports p.node) here ∙ set.found.switch)
      ∙ ap (λ (p : PortRef). Switch switch.ports p.port) here

  sends_home : Fits topology later
      → next_port (later set.found.at.node) host_id ≡ Some set.found.at.port
  sends_home fits =
      next-home topology set.some.0 later host_id next devices (onward switch.path port)
      (underway_then set.some.0 set.some.1) listed.0 set.found.at switch.ports set.found.at.port
      fits listed.1 kind (ap (λ l. entered topology l) listed.2 ∙ set.found.leads)

  behind_askable : Fits topology now → Fits topology later
      → IsAskable topology later host_id (onward switch.path port) set.link.0
  behind_askable fits fits_later =
      askable-next topology set.some.0 later host_id next devices (onward switch.path port)
      (underway_then set.some.0 set.some.1) (onward switch.path port) set.link.0
      (inr (switch.path, port, set.found.listed, refl))
      (opened-onward topology later host_id switch.path set.found.at port opened_later
      set.found.leads (sends_on fits) (sends_home fits_later)
      (not_host port set.found set.some)) behind_enters behind_apart

  pub underway_here : (before : AllRegisters)
      → IsNumbering m old numbering (onward switch.path port) before
      → IsNumbering m end numbering path before
  underway_here before underway =
      still_underway set.is_topology refl
      (subst (λ l. IsUnderway topology before later host_id devices next l) (sym set.is_path)
      (underway_then before underway))

  pub askable_here : Fits topology now → Fits (m.topology end) later
      → IsAskable (m.topology end) later host_id path set.link.0
  askable_here fits fits_later =
      subst (λ t. IsAskable t later host_id path set.link.0) (sym set.is_topology)
      (subst (λ l. IsAskable topology later host_id l set.link.0) (sym set.is_path)
      (behind_askable fits (subst (λ t. Fits t later) set.is_topology fits_later)))
