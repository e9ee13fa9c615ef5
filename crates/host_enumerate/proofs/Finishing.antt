-- What stands when all paths are tried: the fabric is numbered.
use Rattle.host_enumerate.proofs.Prelude.{◌≡◌, ◌≢◌, ℕ, ◌<◌, ◌≤◌, true, false, List, [], ◌∷◌, ◌++◌, length, Option, Some, None, IsSome, unwrap_or, Contains, arith, ◌⊎◌, inl, inr, subst, sym, refl, ap, ◌∙◌, lt-ltb, le-ltb, eq-eqb, option_map, option_and_then, cases_eq, cases_lt, same_Some, All-contains, PortRef, port_at, is_switch, next_port, entry-next, default-next, Switch, Device, Topology, IsPortIn, behind_port, along, entered, node_at, after_all_paths, AllRegisters, PacketComes, Fits, IsForeign, device_has_id, is_given, paths_of, toward, port_toward, port_for, entries_of, AreDescribed, IsMarked, ChangesOnly, IsNumbered, along-append, port_of_entry, each_is_reached, behind-link, further_from_toward, path_listed, device_on, described-listed, described-switch, node_at-entered, has_id-endpoint, is_given-contains, found-by_id, entered-port, given_below, HasTable, HasTableOf, IsUnderway, IsLockFree}
use Rattle.fabric_map.specs.declared.map.Entry.{Entry}
use Rattle.fabric_map.proofs.Routing.{SendsById, comes-from}
use Rattle.fabric_map.proofs.Tabled.{entry_listed, given_device, one_tag}
use Rattle.host_enumerate.proofs.Meeting.{underway-outside, underway-inside, member-not_foreign}
use Rattle.host_enumerate.proofs.Stepping.{followed-ports}
use Rattle.host_enumerate.proofs.Keeping.{next-home}
use Rattle.host_enumerate.proofs.Asked.{host_kind, most}

next_below : (host_id next : ℕ) → next ≤ given_below host_id next
next_below host_id next = go (cases_lt host_id next)
  where
    go : (host_id < next) ⊎ (next ≤ host_id) → next ≤ given_below host_id next
    go (inl less) = rw (lt-ltb host_id next less) (omega arith)
    go (inr more) = rw (le-ltb host_id next more) (omega arith)

module _ (topology : Topology) (before now : AllRegisters) (host_id next : ℕ)
    (devices : List Device)
    (underway : IsUnderway topology before now host_id devices next after_all_paths)
    (fits : Fits topology now) where
  few_devices : length devices ≤ 64
  few_devices = most topology before now host_id next devices after_all_paths underway

  -- the host is the device to which its ID is given
  host_listed : (host : Device) × Contains devices host × (host.path ≡ [])
      × (device_has_id host_id host ≡ true)
  host_listed =
      let found = device_on devices [] (underway.walked.host_met tt) in
      let kind = host_kind topology host_id devices after_all_paths found.0
      underway.proper.host_is_endpoint underway.walked underway.described found.1 found.2 in (
        found.0,
        found.1,
        found.2,
        has_id-endpoint found.0 host_id host_id kind ∙ eq-eqb host_id
            host_id refl,
      )

  -- no way down the tree leads to the host
  host_toward : (path : List ℕ) → port_toward devices path host_id ≡ None
  host_toward path =
      ap (λ o. option_and_then (λ (endpoint : Device). toward path endpoint.path) o)
      (found-by_id topology host_id host_id [] devices host_listed.0 underway.described
      host_listed.1 host_listed.3)
      ∙ (ap (λ l. toward path l) host_listed.2 ∙ none path)
    where
      none : (path : List ℕ) → toward path [] ≡ None
      none [] = refl
      none (x ∷ path) = refl

  module _ (member : Device) (ports entry : ℕ) (at : PortRef)
      (listed : Contains devices member) (kind : member.kind ≡ Switch ports entry)
      (enters : entered topology member.path ≡ Some at)
      (has_ports : topology.switch_ports at.node ≡ Some ports) (port : at.port ≡ entry) where
    is_port : IsPortIn topology at
    is_port = entered-port topology member.path at underway.proper enters

    all_ports : (now at.node).ports ≡ ports
    all_ports = fits.ports at.node is_port.node ∙ ap (λ o. unwrap_or o 1) has_ports

    switch : is_switch (now at.node) ≡ true
    switch = fits.switches at.node ports is_port.node has_ports

    most_ports : (now at.node).ports ≤ 16
    most_ports = (fits.devices at.node is_port.node).most_ports

    entry_below : entry < (now at.node).ports
    entry_below = subst (λ n. n < (now at.node).ports) port
        (subst (λ n. at.port < n) (sym (fits.ports at.node is_port.node)) is_port.port)

    not_host : at.node ≢ topology.host
    not_host same =
        let none : None ≡ Some ports =
        sym underway.proper.host_is_endpoint
        ∙ (ap (λ n. topology.switch_ports n) (sym same) ∙ has_ports) in
        absurd (cc)

    table : HasTable host_id devices member.path entry (now at.node)
    table = subst (λ k. HasTableOf host_id devices (record member { kind = k }) (now at.node)) kind
        (underway.held member at.node listed
        (node_at-entered topology member.path at enters)).table

    -- the way down goes through a port of the switch
    way_below : (goal : Device) (by : ℕ) → Contains devices goal
        → toward member.path goal.path ≡ Some by → by < (now at.node).ports
    way_below goal by within leads =
        go (behind_port topology at.node by) refl
        (subst (λ o. IsSome o)
        (ap (λ l. entered topology l) further.1
        ∙ along-append topology (port_at topology.host 0) member.path (by ∷ further.0) at enters)
        (entered_some (entered topology goal.path) refl
        (All-contains (λ p. IsSome (node_at topology p)) (paths_of devices) goal.path
        underway.walked.leading (path_listed devices goal within))))
      where
        further : (rest : List ℕ) × (goal.path ≡ member.path ++ by ∷ rest)
        further = further_from_toward member.path goal.path by leads

        entered_some : (o : Option PortRef) → entered topology goal.path ≡ o
            → IsSome (option_map (λ (p : PortRef). p.node) o) → IsSome (entered topology goal.path)
        entered_some None is some = absurd (cc)
        entered_some (Some end) is some = subst (λ o. IsSome o) (sym is) refl

        go : (o : Option PortRef) → behind_port topology at.node by ≡ o
            → IsSome (option_and_then (λ next. along topology next further.0) o)
            → by < (now at.node).ports
        go None is some = absurd (cc)
        go (Some end) is some =
            let less = (behind-link topology at.node by end is).1 in
            let all = followed-ports topology at.node ports not_host has_ports in
            let same = all_ports in
            omega (arith, less, all, same)

    -- a switch sends packets for each ID that is given down the tree, or home
    sends : (id : ℕ) → is_given devices id ≡ true
        → next_port (now at.node) id ≡ Some (port_for devices member.path entry id)
    sends id given = go (cases_eq id host_id)
      where
        small : id ≢ host_id → id < 63
        small other = at_next (cases_lt id next)
          where
            at_next : (id < next) ⊎ (next ≤ id) → id < 63
            at_next (inl less) =
                let fewer = underway.counted.switches member ports entry listed kind in
                let most = few_devices in
                let below = next_below host_id next in
                omega (arith, less, fewer, most, below)
            at_next (inr more) =
                let free = underway.counted.rest id more other in
                let both : true ≡ false = sym given ∙ free in
                absurd (cc)

        goal : (device : Device) × Contains devices device × (device_has_id id device ≡ true)
        goal = given_device devices id given

        way : port_toward devices member.path id ≡ toward member.path goal.0.path
        way = ap (λ o. option_and_then
            (λ (endpoint : Device). toward member.path endpoint.path) o)
            (found-by_id topology host_id id [] devices goal.0 underway.described goal.1 goal.2)

        by_table : id ≢ host_id → (o : Option ℕ) → port_toward devices member.path id ≡ o
            → next_port (now at.node) id ≡ Some (unwrap_or o entry)
        by_table other None is =
            default-next (now at.node) id entry switch
            (table.branches id (small other) other ∙ ap (λ o. unwrap_or o 255) is)
            table.default entry_below
        by_table other (Some by) is =
            entry-next (now at.node) id by switch most_ports
            (table.branches id (small other) other ∙ ap (λ o. unwrap_or o 255) is)
            (way_below goal.0 by goal.1 (sym way ∙ is))

        go : (id ≡ host_id) ⊎ (id ≢ host_id)
            → next_port (now at.node) id ≡ Some (port_for devices member.path entry id)
        go (inl same) =
            ap (λ n. next_port (now at.node) n) same
            ∙ (next-home topology before now host_id next devices after_all_paths underway member
            at ports entry fits listed kind enters
            ∙ ap (λ n. Some n) (port ∙ sym (ap (λ o. unwrap_or o entry)
            (ap (λ n. port_toward devices member.path n) same ∙ host_toward member.path))))
        go (inr other) = by_table other (port_toward devices member.path id) refl

  sends_by_id : (id : ℕ) → is_given devices id ≡ true → SendsById topology now devices id
  sends_by_id id given member ports entry node listed kind leads =
      let earlier = described-listed topology host_id [] devices member underway.described listed
      in
      let switch = described-switch topology host_id ports entry earlier.0 member earlier.1 kind
      in
      let same : switch.0.node ≡ node =
      same_Some switch.0.node node
      (sym (node_at-entered topology member.path switch.0 switch.1) ∙ leads) in
      subst (λ n. next_port (now n) id ≡ Some (port_for devices member.path entry id)) same
      (sends member ports entry switch.0 listed kind switch.1 switch.2 switch.3 id given)

  -- no device that is reached was held by another host
  pub underway-free : IsLockFree topology before
  underway-free node reached =
      let found = each_is_reached topology (paths_of devices) node underway.walked reached in
      let member = device_on devices found.0 found.1 in
      subst (λ id. ¬ IsForeign id (before node).lock) (sym underway.id)
      (member-not_foreign topology before now host_id next devices after_all_paths underway node
      (member.0, member.1, ap (λ l. node_at topology l) member.2 ∙ found.2))

  tables : (entry : Entry) (device : Device) (node : ℕ)
      → Contains (entries_of devices) entry → Contains devices device
      → device.tag ≡ entry.tag → node_at topology device.path ≡ Some node
      → next_port (now node) entry.id ≡ Some entry.port
  tables entry device node listed within tag leads =
      let of = entry_listed devices entry listed in
      let same = one_tag topology host_id [] devices of.0 device underway.described of.3 within
      (of.5 ∙ sym tag) in
      sends_by_id entry.id of.6 of.0 of.1 of.2 node of.3 of.4
      (ap (λ (d : Device). node_at topology d.path) same ∙ leads)
      ∙ ap (λ n. Some n) of.7

  routed : (id from to : ℕ) (device goal : Device)
      → Contains devices device → Contains devices goal
      → node_at topology device.path ≡ Some from → node_at topology goal.path ≡ Some to
      → device_has_id id goal ≡ true → from ≢ to → PacketComes topology now id from to
  routed id from to device goal listed within leads ends has other =
      let at = port_of_entry (entered topology device.path) from leads in
      subst (λ n. PacketComes topology now id n to) at.2
      (comes-from topology now host_id id to devices goal underway.proper underway.walked
      underway.described (sends_by_id id (is_given-contains devices goal id within has)) within has
      ends device.path at.0 (path_listed devices device listed) at.1
      (λ same. other (sym at.2 ∙ same)))

  -- The fabric is numbered.
  pub underway-numbered : IsNumbered topology devices (entries_of devices) before now
  underway-numbered = record {
    map = record {
      walked = underway.walked;
      described = subst (λ id. AreDescribed topology id [] devices) (sym underway.id)
          underway.described;
      listed = refl;
    };
    marked = λ device node listed leads.
        subst (λ id. IsMarked id device (now node)) (sym underway.id)
        (underway.held device node listed leads).marked;
    tables = tables;
    routed = routed;
    outside = underway-outside topology before now host_id next devices after_all_paths underway;
    inside = λ node reached. subst (λ id. ChangesOnly (id ∷ []) (before node) (now node))
        (sym underway.id)
        (underway-inside topology before now host_id next devices after_all_paths underway node);
  }
