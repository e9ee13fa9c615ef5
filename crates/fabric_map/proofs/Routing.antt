-- Packets for an ID come to its endpoint if each switch of a walk sends them down the tree or home.
use Rattle.fabric_map.proofs.Prelude.{◌≡◌, ◌≢◌, ℕ, zero, suc, ◌<◌, true, List, [], ◌∷◌, ◌++◌, length, Option, Some, None, IsSome, unwrap_or, Contains, arith, ◌⊎◌, inl, inr, subst, sym, refl, ap, ◌∙◌, append_assoc, length-append, option_and_then, same_Some, PortRef, port_at, next_port, Switch, Device, Topology, IsTopology, behind_port, along, entered, node_at, onward, Walked, after_all_paths, AllRegisters, Arrives, AtEndpoint, ThroughSwitch, PacketComes, device_has_id, paths_of, toward, port_toward, port_for, AreDescribed}
use Rattle.fabric_map.proofs.Walks.{last_port}
use Rattle.fabric_map.proofs.Leading.{along-onward, along-append, port_of_entry, followed-host}
use Rattle.fabric_map.proofs.Ways.{behind-link, followed-switch}
use Rattle.fabric_map.proofs.Branches.{toward-further, further_from_toward}
use Rattle.fabric_map.proofs.Growing.{path_listed, described-listed, described-endpoint, listed-switch, node_at-entered}
use Rattle.fabric_map.proofs.Given.{endpoint_from_id, found-by_id}
use Rattle.fabric_map.proofs.Fronts.{some_port, front_listed}

-- Each switch of the list sends packets for an ID down the tree, or home.
abbrev pub SendsById : Topology → AllRegisters → List Device → ℕ → Type 0
SendsById topology registers devices id =
    (member : Device) (ports entry node : ℕ) → Contains devices member
    → member.kind ≡ Switch ports entry → node_at topology member.path ≡ Some node
    → next_port (registers node) id ≡ Some (port_for devices member.path entry id)

module _ (topology : Topology) (registers : AllRegisters) (host_id id to : ℕ)
    (devices : List Device) (goal : Device) (proper : IsTopology topology)
    (walked : Walked topology (paths_of devices) after_all_paths)
    (described : AreDescribed topology host_id [] devices)
    (sends : SendsById topology registers devices id)
    (listed : Contains devices goal) (has : device_has_id id goal ≡ true)
    (leads : node_at topology goal.path ≡ Some to) where
  goal_end : (end : PortRef) × (entered topology goal.path ≡ Some end) × (end.node ≡ to)
  goal_end = port_of_entry (entered topology goal.path) to leads

  goal_listed : Contains (paths_of devices) goal.path
  goal_listed = path_listed devices goal listed

  goal_is_endpoint : topology.switch_ports to ≡ None
  goal_is_endpoint =
      let earlier = described-listed topology host_id [] devices goal described listed in
      let shown = described-endpoint topology host_id id earlier.0 goal earlier.1
      (endpoint_from_id goal id has) in
      let same : shown.0 ≡ goal_end.0 = same_Some shown.0 goal_end.0 (sym shown.1 ∙ goal_end.1) in
      ap (λ n. topology.switch_ports n)
      (sym goal_end.2 ∙ ap (λ (p : PortRef). p.node) (sym same)) ∙ shown.2

  -- the way to the ID is the way to the endpoint
  way : (path : List ℕ) → port_toward devices path id ≡ toward path goal.path
  way path =
      ap (λ o. option_and_then (λ (endpoint : Device). toward path endpoint.path) o)
      (found-by_id topology host_id id [] devices goal described listed has)

  sends_at : (path : List ℕ) (at : PortRef) (ports : ℕ) → Contains (paths_of devices) path
      → entered topology path ≡ Some at → topology.switch_ports at.node ≡ Some ports
      → next_port (registers at.node) id ≡ Some (port_for devices path at.port id)
  sends_at path at ports within enters is =
      let found = listed-switch topology host_id devices path at ports described within enters is
      in
      subst (λ l. next_port (registers at.node) id ≡ Some (port_for devices l at.port id)) found.2
      (sends found.0 ports at.port at.node found.1 found.3
      (ap (λ l. node_at topology l) found.2 ∙ node_at-entered topology path at enters))

  not_host : (path : List ℕ) (at : PortRef) → Contains (paths_of devices) path → path ≢ []
      → entered topology path ≡ Some at → at.node ≢ topology.host
  not_host path at within some enters is =
      some (walked.once path [] within (walked.host_met tt)
      (node_at-entered topology path at enters ∙ ap (λ n. Some n) is))

  -- a device of which a longer path is listed is a switch, or the host
  switch_on : (path : List ℕ) (at : PortRef) (port : ℕ) (rest : List ℕ)
      → Contains (paths_of devices) path → path ≢ [] → entered topology path ≡ Some at
      → IsSome (entered topology (path ++ port ∷ rest))
      → (ports : ℕ) × (topology.switch_ports at.node ≡ Some ports)
  switch_on path at port rest within some enters further =
      go (behind_port topology at.node port) refl
      (subst (λ o. IsSome o)
      (along-append topology (port_at topology.host 0) path (port ∷ rest) at enters) further)
    where
      go : (o : Option PortRef) → behind_port topology at.node port ≡ o
          → IsSome (option_and_then (λ next. along topology next rest) o)
          → (ports : ℕ) × (topology.switch_ports at.node ≡ Some ports)
      go None is on = absurd (cc)
      go (Some next) is on =
          followed-switch topology at.node port (not_host path at within some enters)
          (behind-link topology at.node port next is).1

  -- over the link by which the path goes on
  onwards : (path : List ℕ) (port : ℕ) (rest : List ℕ) (at : PortRef)
      → goal.path ≡ path ++ port ∷ rest → entered topology path ≡ Some at
      → (next : PortRef) × (topology.peer (port_at at.node port) ≡ Some next)
      × (entered topology (onward path port) ≡ Some next)
      × (along topology next rest ≡ Some goal_end.0)
  onwards path port rest at split enters =
      go (behind_port topology at.node port) refl
      (sym (along-append topology (port_at topology.host 0) path (port ∷ rest) at enters)
      ∙ (ap (λ l. entered topology l) (sym split) ∙ goal_end.1))
    where
      go : (o : Option PortRef) → behind_port topology at.node port ≡ o
          → option_and_then (λ next. along topology next rest) o ≡ Some goal_end.0
          → (next : PortRef) × (topology.peer (port_at at.node port) ≡ Some next)
          × (entered topology (onward path port) ≡ Some next)
          × (along topology next rest ≡ Some goal_end.0)
      go None is on = absurd (cc)
      go (Some next) is on = (
        next,
        (behind-link topology at.node port next is).0,
        along-onward topology (port_at topology.host 0) path port
            ∙ (ap (λ o. option_and_then (λ (p : PortRef). behind_port topology p.node port) o)
            enters
            ∙ is),
        on,
      )

  -- down the tree
  descend : (rest path : List ℕ) (port : ℕ) (at : PortRef)
      → goal.path ≡ path ++ port ∷ rest → entered topology path ≡ Some at
      → Arrives topology registers id to (port_at at.node port)
  descend [] path port at split enters =
      let next = onwards path port [] at split enters in
      let same : next.0.node ≡ to =
      ap (λ (p : PortRef). p.node) (same_Some next.0 goal_end.0 next.3) ∙ goal_end.2 in
      AtEndpoint (port_at at.node port) next.0 next.1
      (ap (λ n. topology.switch_ports n) same ∙ goal_is_endpoint) same
  descend (y ∷ later) path port at split enters =
      let next = onwards path port (y ∷ later) at split enters in
      let whole : goal.path ≡ onward path port ++ y ∷ later =
      split ∙ sym (append_assoc path (port ∷ []) (y ∷ later)) in
      let within = front_listed topology (paths_of devices) after_all_paths (onward path port)
      (length (y ∷ later)) (y ∷ later) refl walked
      (subst (Contains (paths_of devices)) whole goal_listed) in
      let switch = switch_on (onward path port) next.0 y later within (some_port path port) next.2
      (subst (λ o. IsSome o) (sym (ap (λ l. entered topology l) (sym whole) ∙ goal_end.1))
      refl) in
      let sent : port_for devices (onward path port) next.0.port id ≡ y =
      ap (λ o. unwrap_or o next.0.port)
      (way (onward path port)
      ∙ (ap (λ l. toward (onward path port) l) whole
      ∙ toward-further (onward path port) y later)) in
      ThroughSwitch (port_at at.node port) next.0 switch.0 y next.1 switch.1
      (sends_at (onward path port) next.0 switch.0 within next.2 switch.1
      ∙ ap (λ n. Some n) sent)
      (descend later (onward path port) y next.0 whole next.2)

  -- the way back over the link by which a path enters its last device
  back : (path : List ℕ) (port : ℕ) (at : PortRef)
      → entered topology (onward path port) ≡ Some at
      → (from : PortRef) × (entered topology path ≡ Some from)
      × (topology.peer at ≡ Some (port_at from.node port))
  back path port at enters = go (entered topology path) refl
      (sym (along-onward topology (port_at topology.host 0) path port) ∙ enters)
    where
      go : (o : Option PortRef) → entered topology path ≡ o
          → option_and_then (λ (p : PortRef). behind_port topology p.node port) o ≡ Some at
          → (from : PortRef) × (entered topology path ≡ Some from)
          × (topology.peer at ≡ Some (port_at from.node port))
      go None is on = absurd (cc)
      go (Some from) is on = (
        from,
        is,
        proper.both_ways (port_at from.node port) at
            (behind-link topology from.node port at on).0,
      )

  -- a path of one port leads on only from the host's port 0
  first_is_zero : (path : List ℕ) (port : ℕ) (end : PortRef)
      → entered topology (port ∷ path) ≡ Some end → port ≡ 0
  first_is_zero path port end enters = go (behind_port topology topology.host port) refl enters
    where
      go : (o : Option PortRef) → behind_port topology topology.host port ≡ o
          → option_and_then (λ next. along topology next path) o ≡ Some end → port ≡ 0
      go None is on = absurd (cc)
      go (Some next) is on =
          let less = subst (λ n. port < n) (followed-host topology)
          (behind-link topology topology.host port next is).1 in
          omega (arith, less)

  -- a switch sends down the tree, or home
  side : (path : List ℕ) (at : PortRef)
      → ((rest : List ℕ) × (port : ℕ) × (goal.path ≡ path ++ port ∷ rest)
      × (port_for devices path at.port id ≡ port))
      ⊎ ((toward path goal.path ≡ None) × (port_for devices path at.port id ≡ at.port))
  side path at = go (toward path goal.path) refl
    where
      go : (o : Option ℕ) → toward path goal.path ≡ o
          → ((rest : List ℕ) × (port : ℕ) × (goal.path ≡ path ++ port ∷ rest)
          × (port_for devices path at.port id ≡ port))
          ⊎ ((toward path goal.path ≡ None) × (port_for devices path at.port id ≡ at.port))
      go None is = inr (is, ap (λ o. unwrap_or o at.port) (way path ∙ is))
      go (Some port) is =
          let further = further_from_toward path goal.path port is in
          inl (further.0, port, further.1, ap (λ o. unwrap_or o at.port) (way path ∙ is))

  -- the host's neighbour, if the way does not go on behind it, is the end, or the host is
  at_first : (x : ℕ) (at : PortRef) → entered topology (x ∷ []) ≡ Some at → at.node ≢ to
      → toward (x ∷ []) goal.path ≡ None → to ≡ topology.host
  at_first x at enters other none = go goal.path refl none
    where
      go : (g : List ℕ) → goal.path ≡ g → toward (x ∷ []) g ≡ None → to ≡ topology.host
      go [] is none =
          same_Some to topology.host (sym leads ∙ ap (λ l. node_at topology l) is)
      go (y ∷ []) is none =
          let one = first_is_zero [] x at enters in
          let two = first_is_zero [] y goal_end.0 (ap (λ l. entered topology l) (sym is)
          ∙ goal_end.1) in
          let same : y ≡ x = two ∙ sym one in
          let end : at ≡ goal_end.0 =
          same_Some at goal_end.0 (sym enters
          ∙ (ap (λ n. entered topology (n ∷ [])) (sym same)
          ∙ (ap (λ l. entered topology l) (sym is) ∙ goal_end.1))) in
          absurd (other (ap (λ (p : PortRef). p.node) end ∙ goal_end.2))
      go (y ∷ z ∷ more) is none =
          let one = first_is_zero [] x at enters in
          let two = first_is_zero (z ∷ more) y goal_end.0 (ap (λ l. entered topology l) (sym is)
          ∙ goal_end.1) in
          let same : x ≡ y = one ∙ sym two in
          let some : Some z ≡ None =
          sym (toward-further (x ∷ []) z more)
          ∙ (ap (λ n. toward (x ∷ []) (n ∷ z ∷ more)) same ∙ none) in
          absurd (cc)

  -- home by the port of entry
  homewards : (n : ℕ) (path : List ℕ) (at : PortRef) → length path ≡ suc n
      → Contains (paths_of devices) path → entered topology path ≡ Some at → at.node ≢ to
      → toward path goal.path ≡ None
      → ((front : List ℕ) (from : PortRef) (ports : ℕ) → length front ≡ n
      → Contains (paths_of devices) front → front ≢ [] → entered topology front ≡ Some from
      → topology.switch_ports from.node ≡ Some ports
      → Arrives topology registers id to
      (port_at from.node (port_for devices front from.port id)))
      → Arrives topology registers id to at
  homewards n path at long within enters other none on = go (last_port path)
    where
      by : (front : List ℕ) (port : ℕ) → path ≡ onward front port → (from : PortRef)
          → entered topology front ≡ Some from
          → topology.peer at ≡ Some (port_at from.node port)
          → (f : List ℕ) → front ≡ f → Arrives topology registers id to at
      by front port is from enters_front link [] empty =
          let path_is : path ≡ port ∷ [] = is ∙ ap (λ l. onward l port) empty in
          let host = at_first port at (ap (λ l. entered topology l) (sym path_is) ∙ enters) other
          (ap (λ l. toward l goal.path) (sym path_is) ∙ none) in
          let from_is : from ≡ port_at topology.host 0 =
          same_Some from (port_at topology.host 0)
          (sym enters_front ∙ ap (λ l. entered topology l) empty) in
          let node_is : from.node ≡ topology.host = ap (λ (p : PortRef). p.node) from_is in
          AtEndpoint at (port_at from.node port) link
          (ap (λ n. topology.switch_ports n) node_is ∙ proper.host_is_endpoint)
          (node_is ∙ sym host)
      by front port is from enters_front link (y ∷ f) some =
          let nonempty : front ≢ [] = λ empty. not_empty y f (sym empty ∙ some) in
          let within_front = walked.fronts front port
          (subst (Contains (paths_of devices)) is within) in
          let switch = switch_on front from port [] within_front nonempty enters_front
          (subst (λ o. IsSome o)
          (sym (ap (λ l. entered topology l) (sym is) ∙ enters)) refl) in
          let shorter = ap (λ (l : List ℕ). length l) is ∙ length-append front (port ∷ []) in
          ThroughSwitch at (port_at from.node port) switch.0 (port_for devices front from.port id)
          link
          switch.1 (sends_at front from switch.0 within_front enters_front switch.1)
          (on front from switch.0 (omega (arith, long, shorter)) within_front nonempty
          enters_front switch.1)
        where
          not_empty : (y : ℕ) (f : List ℕ) → ¬ ([] ≡ y ∷ f)
          not_empty y f same = absurd (cc)

      go : (path ≡ []) ⊎ ((front : List ℕ) × (port : ℕ) × (path ≡ onward front port))
          → Arrives topology registers id to at
      go (inl empty) =
          let short = ap (λ (l : List ℕ). length l) empty in absurd (omega (arith, long, short))
      go (inr last) =
          let from = back last.0 last.1 at (ap (λ l. entered topology l) (sym last.2) ∙ enters) in
          by last.0 last.1 last.2 from.0 from.1 from.2 last.0 refl

  -- from each switch, by the port by which it sends
  from_switch : (n : ℕ) (path : List ℕ) (at : PortRef) (ports : ℕ) → length path ≡ n
      → Contains (paths_of devices) path → path ≢ [] → entered topology path ≡ Some at
      → topology.switch_ports at.node ≡ Some ports
      → Arrives topology registers id to
      (port_at at.node (port_for devices path at.port id))
  from_switch zero [] at ports long within some enters is = absurd (some refl)
  from_switch zero (x ∷ path) at ports long within some enters is = absurd (omega (arith, long))
  from_switch (suc n) path at ports long within some enters is =
      go (side path at) (λ front from p shorter listed_front nonempty enters_front is_switch.
      from_switch n front from p shorter listed_front nonempty enters_front is_switch)
    where
      other : at.node ≢ to
      other same =
          let none : Some ports ≡ None =
          sym is ∙ (ap (λ n. topology.switch_ports n) same ∙ goal_is_endpoint) in
          absurd (cc)

      go : ((rest : List ℕ) × (port : ℕ) × (goal.path ≡ path ++ port ∷ rest)
          × (port_for devices path at.port id ≡ port))
          ⊎ ((toward path goal.path ≡ None) × (port_for devices path at.port id ≡ at.port))
          → ((front : List ℕ) (from : PortRef) (ports : ℕ) → length front ≡ n
          → Contains (paths_of devices) front → front ≢ [] → entered topology front ≡ Some from
          → topology.switch_ports from.node ≡ Some ports
          → Arrives topology registers id to
          (port_at from.node (port_for devices front from.port id)))
          → Arrives topology registers id to
          (port_at at.node (port_for devices path at.port id))
      go (inl down) on =
          subst (λ p. Arrives topology registers id to (port_at at.node p)) (sym down.3)
          (descend down.0 path down.1 at down.2 enters)
      go (inr home) on =
          subst (λ p. Arrives topology registers id to (port_at at.node p)) (sym home.1)
          (homewards n path at long within enters other home.0 on)

  comes-endpoint : (from : ℕ) → topology.switch_ports from ≡ None
      → Arrives topology registers id to (port_at from 0)
      → PacketComes topology registers id from to
  comes-endpoint from is arrives = rw is arrives

  comes-switch : (from ports port : ℕ) → topology.switch_ports from ≡ Some ports
      → next_port (registers from) id ≡ Some port
      → Arrives topology registers id to (port_at from port)
      → PacketComes topology registers id from to
  comes-switch from ports port is sent arrives = rw is (port, sent, arrives)

  -- Packets for the ID come to its endpoint from each other device.
  pub comes-from : (path : List ℕ) (at : PortRef) → Contains (paths_of devices) path
      → entered topology path ≡ Some at → at.node ≢ to
      → PacketComes topology registers id at.node to
  comes-from path at within enters other = go (topology.switch_ports at.node) refl path refl
    where
      not_empty : (x : ℕ) (p : List ℕ) → path ≡ x ∷ p → path ≢ []
      not_empty x p is empty = let none : [] ≡ x ∷ p = sym empty ∙ is in absurd (cc)

      host_at : path ≡ [] → at ≡ port_at topology.host 0
      host_at empty =
          same_Some at (port_at topology.host 0)
          (sym enters ∙ ap (λ l. entered topology l) empty)

      -- an endpoint is on no way but its own
      unpassed : (x : ℕ) (p : List ℕ) → path ≡ x ∷ p → topology.switch_ports at.node ≡ None
          → toward path goal.path ≡ None
      unpassed x p is none = none_of (toward path goal.path) refl
        where
          none_of : (o : Option ℕ) → toward path goal.path ≡ o → o ≡ None
          none_of None same = refl
          none_of (Some port) same =
              let further = further_from_toward path goal.path port same in
              let switch = switch_on path at port further.0 within (not_empty x p is) enters
              (subst (λ o. IsSome o)
              (sym (ap (λ l. entered topology l) (sym further.1) ∙ goal_end.1)) refl) in
              let both : None ≡ Some switch.0 = sym none ∙ switch.1 in
              absurd (cc)

      one_port : topology.switch_ports at.node ≡ None → (x : ℕ) (p : List ℕ) → path ≡ x ∷ p
          → at.port ≡ 0
      one_port none x p is = last (last_port path)
        where
          last : (path ≡ []) ⊎ ((front : List ℕ) × (port : ℕ) × (path ≡ onward front port))
              → at.port ≡ 0
          last (inl empty) = absurd (not_empty x p is empty)
          last (inr end) =
              let from = back end.0 end.1 at (ap (λ l. entered topology l) (sym end.2) ∙ enters) in
              let is_port = (proper.ports at (port_at from.0.node end.1) from.2).port in
              let one = subst (λ o. at.port < unwrap_or o 1) none is_port in
              omega (arith, one)

      from_host : topology.switch_ports at.node ≡ None → path ≡ [] → (g : List ℕ)
          → goal.path ≡ g → PacketComes topology registers id at.node to
      from_host none empty [] is =
          absurd (other (ap (λ (p : PortRef). p.node) (host_at empty)
          ∙ same_Some topology.host to (ap (λ l. node_at topology l) (sym is) ∙ leads)))
      from_host none empty (g ∷ gs) is =
          let zero_is = first_is_zero gs g goal_end.0 (ap (λ l. entered topology l) (sym is)
          ∙ goal_end.1) in
          comes-endpoint at.node none
          (subst (λ n. Arrives topology registers id to (port_at n 0))
          (ap (λ (p : PortRef). p.node) (sym (host_at empty)))
          (subst (λ n. Arrives topology registers id to (port_at topology.host n)) zero_is
          (descend gs [] g (port_at topology.host 0) is refl)))

      go : (o : Option ℕ) → topology.switch_ports at.node ≡ o → (p : List ℕ) → path ≡ p
          → PacketComes topology registers id at.node to
      go None none [] empty = from_host none empty goal.path refl
      go None none (x ∷ p) is =
          comes-endpoint at.node none
          (subst (λ n. Arrives topology registers id to (port_at at.node n))
          (one_port none x p is)
          (homewards (length p) path at (ap (λ (l : List ℕ). length l) is) within enters other
          (unpassed x p is none)
          (λ front from ports long listed_front nonempty enters_front is_switch.
          from_switch (length p) front from ports long listed_front nonempty enters_front
          is_switch)))
      go (Some ports) is [] empty =
          let none : Some ports ≡ None =
          sym is ∙ (ap (λ (p : PortRef). topology.switch_ports p.node) (host_at empty)
          ∙ proper.host_is_endpoint) in
          absurd (cc)
      go (Some ports) is (x ∷ p) some =
          comes-switch at.node ports (port_for devices path at.port id) is
          (sends_at path at ports within enters is)
          (from_switch (length path) path at ports refl within (not_empty x p some) enters is)
