-- A walker that takes in an endpoint or a switch, or finds a link, stays along its way.
use Rattle.contest_machine.proofs.Prelude.{◌≡◌, ◌≢◌, ℕ, ◌+◌, ◌*◌, ◌/◌, ◌%◌, ◌^◌, ◌≤◌, ◌<◌, Bool, true, false, eqb, List, [], ◌∷◌, ◌++◌, length, Option, Some, None, is_some, Contains, arith, ◌⊎◌, inl, inr, subst, sym, refl, ap, ◌∙◌, if◌then◌else◌, unwrap_or, ne_eqb, option_and_then, cases_eq, same_Some, Contains-append_left, PortRef, port_at, Registers, IsDevice, is_switch, Endpoint, Device, Topology, IsTopology, device_ports, behind_port, along, ports_followed, entered, node_at, Walked, AllRegisters, Fits, IsNext, paths_of, AreDescribed, entered-inside, passed_listed, device_on, paths_of-push, described-listed, node_at-entered, along-append, behind-link, followed-switch, IsTakable, id_after, met_as, IsUnmet, IsUnderway, endpoint_at, Features, Walker, write, routes_to, numbered, IsMine}
use Rattle.host_enumerate.proofs.Shown.{endpoint_shown}
use Rattle.contest_machine.proofs.Keeping.Lists.{once-front}
use Rattle.contest_machine.proofs.Keeping.Stepped.{at_stage}
use Rattle.contest_machine.proofs.Numbering.OnWay.{performed, IsOnWay}
use Rattle.contest_machine.proofs.Numbering.Given.{endpoint_past}
use Rattle.contest_machine.proofs.Numbering.Along.{IsAlong, front_of, port_of, here_is, past_is, gone_along}
use Rattle.contest_machine.proofs.Numbering.Moving.{chain_more, front_listed, not_host}

-- ---- what is seen of the fabric

module _ (w : Walker) (now : AllRegisters) (first : ℕ) (rest : List ℕ) (at : PortRef)
    (enters : entered w.view (first ∷ rest) ≡ Some at)
    (way : IsOnWay (at_stage (record w { path = first ∷ rest }) Features) now)
    (fits : Fits w.view now) where
  leads : node_at w.view (first ∷ rest) ≡ Some at.node
  leads = node_at-entered w.view (first ∷ rest) at enters

  -- the device as it was before, with another lock and tag
  was : way.seen at.node ≡ way.before at.node
  was = way.underway.others at.node (way.new at.node leads)

  is : IsTakable w.id (way.before at.node)
      × (now at.node ≡ record (way.before at.node) { lock = w.id; tag = length w.devices + 1 })
  is = way.fresh at.node leads

  lock_small : IsTakable w.id (way.before at.node) → w.id < 65536
      → (way.before at.node).lock < 65536
  lock_small (inl free) small = omega (arith, free)
  lock_small (inr own) small = let same = own.0 in omega (arith, same, small)

  shown_of : (d : Registers) (lock tag : ℕ) (e : Registers)
      → e ≡ record d { lock = lock; tag = tag } → IsDevice e → IsDevice d
  shown_of d lock tag e same device =
      let it = subst IsDevice same device in
      record {
        most_ports = it.most_ports;
        endpoint_ports = it.endpoint_ports;
        switch_id = it.switch_id;
        switch_large = it.switch_large;
        destinations = it.destinations;
        selected = it.selected;
      }

  seen_at : way.seen at.node ≡ way.before at.node
  seen_at = was

  now_is : now at.node
      ≡ record (way.seen at.node) { lock = w.id; tag = length w.devices + 1 }
  now_is = is.1 ∙ ap (λ (d : Registers). record d
      { lock = w.id; tag = length w.devices + 1 }) (sym was)

  beside : (node : ℕ) → node ≢ at.node → way.seen node ≡ now node
  beside node apart = way.seen_is node (λ here. apart (same_Some node at.node (sym here ∙ leads)))

  abbrev Shows : (Registers → Type 0) → Type 0
  Shows P = (node : ℕ) → P (now node) → P (way.seen node)

  -- what holds of a device whatever its lock and its tag are
  either : (P : Registers → Type 0)
      → ((d : Registers) (lock tag : ℕ) → P (record d { lock = lock; tag = tag }) → P d)
      → Shows P
  either P back node holds = go (cases_eq node at.node)
    where
      go : (node ≡ at.node) ⊎ (node ≢ at.node) → P (way.seen node)
      go (inl same) =
          subst (λ n. P (way.seen n)) (sym same)
          (back (way.seen at.node) w.id (length w.devices + 1)
          (subst P now_is (subst (λ n. P (now n)) same holds)))
      go (inr apart) = subst P (sym (beside node apart)) holds

  pub seen_fits : Fits w.view way.seen
  seen_fits = record {
    devices = λ node inside. either IsDevice (λ d lock tag device. record {
      most_ports = device.most_ports;
      endpoint_ports = device.endpoint_ports;
      switch_id = device.switch_id;
      switch_large = device.switch_large;
      destinations = device.destinations;
      selected = device.selected;
    }) node (fits.devices node inside);
    ids = λ node inside. either (λ d. d.base_id < 256) (λ d lock tag small. small) node
        (fits.ids node inside);
    large_ids = λ node inside. either (λ d. d.large_id < 65536) (λ d lock tag small. small) node
        (fits.large_ids node inside);
    locks = λ node inside. lock_of node (cases_eq node at.node) inside;
    endpoints = λ node inside none. either (λ d. is_switch d ≡ false) (λ d lock tag same. same)
        node (fits.endpoints node inside none);
    switches = λ node ports inside some. either (λ d. is_switch d ≡ true)
        (λ d lock tag same. same) node (fits.switches node ports inside some);
    ports = λ node inside. either (λ d. d.ports ≡ device_ports w.view node)
        (λ d lock tag same. same) node (fits.ports node inside);
    linked = λ node port inside below. either (λ d. d.linked / 2 ^ port % 2
        ≡ (if is_some (w.view.peer (port_at node port)) then 1 else 0))
        (λ d lock tag same. same) node (fits.linked node port inside below);
  }
    where
      small : w.id < 65536
      small = let less = way.underway.host_has_id in omega (arith, less)

      lock_of : (node : ℕ) → (node ≡ at.node) ⊎ (node ≢ at.node) → node < w.view.nodes
          → (way.seen node).lock < 65536
      lock_of node (inl same) inside =
          subst (λ n. (way.seen n).lock < 65536) (sym same)
          (subst (λ (d : Registers). d.lock < 65536) (sym was)
          (lock_small is.0 small))
      lock_of node (inr apart) inside =
          subst (λ (d : Registers). d.lock < 65536) (sym (beside node apart))
          (fits.locks node inside)

-- ---- the switches that a path passes

module _ (view : Topology) (devices : List Device) (now : AllRegisters) (first : ℕ) (rest : List ℕ)
    (at : PortRef) (proper : IsTopology view) (fits : Fits view now)
    (enters : entered view (first ∷ rest) ≡ Some at)
    (walked : Walked view (paths_of devices) (first ∷ rest))
    (is_next : IsNext (paths_of devices) (first ∷ rest))
    (unmet : IsUnmet view devices at.node) where
  -- such a switch is not the host, and has this port
  passed : (front later : List ℕ) (port : ℕ) (on : PortRef)
      → first ∷ rest ≡ front ++ port ∷ later → front ≢ [] → entered view front ≡ Some on
      → (on.node ≢ view.host) × ((ports : ℕ) × (view.switch_ports on.node ≡ Some ports))
      × (port < 256) × (on.node ≢ at.node)
  passed front later port on whole some leads = (
    not_host,
    switch.0,
    switch.1,
    not_at,
  )
    where
      listed : Contains (paths_of devices) front
      listed = passed_listed view (paths_of devices) (first ∷ rest) (first ∷ rest) front later port
          walked is_next whole

      not_host : on.node ≢ view.host
      not_host same =
          some (walked.once front [] listed (walked.host_met tt)
          (node_at-entered view front on leads ∙ ap (λ n. Some n) same))

      not_at : on.node ≢ at.node
      not_at same =
          let found = device_on devices front listed in
          unmet found.0 found.1 (ap (λ l. node_at view l) found.2
          ∙ (node_at-entered view front on leads ∙ ap (λ n. Some n) same))

      goes : (o : Option PortRef) → behind_port view on.node port ≡ o
          → option_and_then (λ next. along view next later) o ≡ Some at
          → port < ports_followed view on.node
      goes None none reaches = absurd (cc)
      goes (Some next) link reaches = (behind-link view on.node port next link).1

      below : port < ports_followed view on.node
      below = goes (behind_port view on.node port) refl
          (sym (along-append view (port_at view.host 0) front (port ∷ later) on leads)
          ∙ (ap (λ l. entered view l) (sym whole) ∙ enters))

      of_ports : (o : Option ℕ) → ports_followed view on.node ≡ unwrap_or o 0
          → view.switch_ports on.node ≡ o → port < 256
      of_ports None all is = absurd (omega (arith, below, all))
      of_ports (Some ports) all is =
          let most = proper.most_ports on.node in
          let same : device_ports view on.node ≡ ports = ap (λ o. unwrap_or o 1) is in
          omega (arith, below, all, most, same)

      switch : ((ports : ℕ) × (view.switch_ports on.node ≡ Some ports)) × (port < 256)
      switch = (
        followed-switch view on.node port not_host below,
        of_ports (view.switch_ports on.node)
            (ap (λ b. if b then 1 else unwrap_or (view.switch_ports on.node) 0)
            (ne_eqb on.node view.host not_host)) refl,
      )

  pub switches_passed : (mid : AllRegisters) → ((node : ℕ) → node ≢ at.node → mid node ≡ now node)
      → (front later : List ℕ) (port : ℕ) (on : PortRef)
      → first ∷ rest ≡ front ++ port ∷ later → front ≢ [] → entered view front ≡ Some on
      → (is_switch (mid on.node) ≡ true) × (port < 256) × (on.node ≢ view.host)
  switches_passed mid beside front later port on whole some leads =
      let known = passed front later port on whole some leads in (
        ap is_switch (beside on.node known.3)
            ∙ fits.switches on.node known.1.0 (entered-inside view front on proper leads) known.1.1,
        known.2,
        known.0,
      )

-- the host is listed as an endpoint
host_is : (view : Topology) (id : ℕ) (devices : List Device) → IsTopology view
    → AreDescribed view id [] devices → (device : Device) → Contains devices device
    → device.path ≡ [] → (given : ℕ) × (device.kind ≡ Endpoint given)
host_is view id devices proper described device listed empty =
    let told = described-listed view id [] devices device described listed in
    let same : told.1.at ≡ port_at view.host 0 =
    same_Some told.1.at (port_at view.host 0)
    (sym told.1.path ∙ ap (λ l. entered view l) empty) in
    endpoint_at view id told.0 device told.1
    (ap (λ (p : PortRef). view.switch_ports p.node) same ∙ proper.host_is_endpoint)

few_after : (id next : ℕ) → next ≤ 65 → id_after id next < 256
few_after id next few = go (eqb next id)
  where
    go : (b : Bool) → (if b then next + 1 else next) < 256
    go true = omega (arith, few)
    go false = omega (arith, few)

-- ---- an endpoint is taken in

module _ (w : Walker) (now : AllRegisters) (first : ℕ) (rest : List ℕ) (at : PortRef)
    (enters : entered w.view (first ∷ rest) ≡ Some at)
    (along : IsAlong (at_stage (record w { path = first ∷ rest }) Features) now)
    (mine : IsMine (at_stage (record w { path = first ∷ rest }) Features) now)
    (fits : Fits w.view now) (few : w.next ≤ 65) where
  kind_of : is_switch (now at.node) ≡ false → w.view.switch_ports at.node ≡ None
  kind_of is = endpoint_shown w.view now at.node fits
      (entered-inside w.view (first ∷ rest) at along.way.underway.proper enters) is

  listed_front : Contains (paths_of w.devices) (front_of w.tried)
  listed_front = front_listed w.view w.devices (first ∷ rest) w.tried along.chained
      along.way.underway.walked along.here

  pub next_is : IsNext (paths_of w.devices) (first ∷ rest)
  next_is = inr (
    front_of w.tried,
    port_of w.tried,
    listed_front,
    here_is (first ∷ rest) w.tried along.here,
  )

  abbrev given : ℕ
  given = id_after w.id w.next

  abbrev more : List Device
  more = w.devices ++ met_as w.devices (Endpoint given) (first ∷ rest) ∷ []

  pub endpoint_along : is_switch (now at.node) ≡ false → IsAlong
      (numbered (at_stage (record w { path = first ∷ rest }) Features) (first ∷ rest)) now
  endpoint_along is =
      gone_along (record w {
        devices = more;
        next = given + 1;
        path = first ∷ rest;
        todo = write (first ∷ rest) 0x60 (given * 0x10000)
            ∷ routes_to w.devices (first ∷ rest) given;
        stage = Features;
      }) along.way.before
      (performed w.view now (write (first ∷ rest) 0x60 (given * 0x10000)
      ∷ routes_to w.devices (first ∷ rest) given)) now (
        along.host.0,
        Contains-append_left w.devices
            (met_as w.devices (Endpoint given) (first ∷ rest) ∷ []) along.host.0 along.host.1,
        along.host.2,
      )
      (λ node. refl) w.tried
      (chain_more w.view w.devices more w.tried
      (λ path listed. subst (λ l. Contains l path)
      (sym (paths_of-push w.devices (met_as w.devices (Endpoint given) (first ∷ rest))))
      (Contains-append_left (paths_of w.devices) ((first ∷ rest) ∷ []) path listed))
      along.chained)
      (subst (λ l. IsUnderway w.view along.way.before
      (performed w.view now (write (first ∷ rest) 0x60 (given * 0x10000)
      ∷ routes_to w.devices (first ∷ rest) given)) w.id more (given + 1) l)
      (sym (past_is w.tried))
      (endpoint_past (record w { path = first ∷ rest }) now at first rest refl along.way
      (seen_fits w now first rest at enters along.way fits) enters (kind_of is) is next_is
      (once-front w.view (paths_of w.devices) (first ∷ rest) mine.once)
      (few_after w.id w.next few)
      (host_is w.view w.id w.devices along.way.underway.proper along.way.underway.described)
      (switches_passed w.view w.devices now first rest at along.way.underway.proper fits enters
      along.way.underway.walked next_is
      (along.way.new at.node (node_at-entered w.view (first ∷ rest) at enters)))
      (front_of w.tried) (port_of w.tried) (here_is (first ∷ rest) w.tried along.here)
      (not_host (record w { path = first ∷ rest }) now along.way.underway.host_has_id at enters
      along.way along.host)))
