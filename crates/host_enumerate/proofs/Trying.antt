-- A path is tried: the device on it is taken in.
use Rattle.host_enumerate.proofs.Prelude.{◌≡◌, ◌≢◌, ℕ, ◌+◌, ◌<◌, ◌≤◌, inl, inr, true, false, List, [], ◌∷◌, ◌++◌, length, All, Bool, Some, arith, refl, sym, ap, subst, ◌∙◌, PortRef, port_at, Registers, is_switch, Kind, Endpoint, Switch, Device, Topology, entered, node_at, Before, onward, AllRegisters, Fits, IsOpened, IsForeign, IsNext, paths_of, not_before_empty, entered-inside, device_on, IsAskable, IsApart, PassesOnce, AreSame, Becomes, AreRouted, HasNewId, SwitchIsSetUp, IsTakable, id_after, given_below, met_as, IsUnmet, IsUnderway, IsKindLeft}
use Rattle.host_enumerate.proofs.Opening.{opened-same, opened-apart, became, stays, same_end}
use Rattle.host_enumerate.proofs.Counting.{id_after-few}
use Rattle.host_enumerate.proofs.Meeting.{unmet-lock, unmet-untagged}
use Rattle.host_enumerate.proofs.Askable.{never_empty, apart-next, passes-once}
use Rattle.host_enumerate.proofs.Asked.{most}
use Rattle.host_enumerate.proofs.TakingSwitch.{IsTaken, host_listed, underway-switch, underway-host}
use Rattle.host_enumerate.proofs.TakingEndpoint.{underway-endpoint}
use Rattle.host_enumerate.proofs.Shown.{opened-routed, switch_shown, endpoint_shown, id_after-apart, id_after-rises}

module _ {topology : Topology} {before now : AllRegisters} {host_id next : ℕ}
    {devices : List Device} {path : List ℕ} {at : PortRef}
    (underway : IsUnderway topology before now host_id devices next path)
    (is_next : IsNext (paths_of devices) path)
    (askable : IsAskable topology now host_id path at) where
  -- a device that can be taken was not met
  pub unmet_takable : IsTakable host_id (now at.node) → IsUnmet topology devices at.node
  unmet_takable (inl free) =
      unmet-lock topology before now host_id next devices path underway at.node
      (λ held. other (sym free ∙ held))
    where
      other : 0xffff ≡ host_id → ⊥
      other same = let less = underway.host_has_id in omega (arith, same, less)
  unmet_takable (inr held) =
      unmet-untagged topology before now host_id next devices path underway at.node held.1

  pub apart_unmet : IsUnmet topology devices at.node → IsApart topology path at.node
  apart_unmet unmet =
      apart-next topology (paths_of devices) path underway.walked path at.node is_next
      (λ met listed same. let found = device_on devices met listed in
      unmet found.0 found.1 (ap (λ p. node_at topology p) found.2 ∙ same))

  pub passes_once : PassesOnce topology path
  passes_once = passes-once topology (paths_of devices) path underway.walked path is_next

  pub few_met : length devices ≤ 64
  few_met = most topology before now host_id next devices path underway

  pub next_few : (path ≡ [] → next ≡ 0) → next < 254
  next_few begins = go path refl
    where
      below : given_below host_id next ≤ length devices → next < 254
      below few =
          let all = few_met in let most = id_after-few host_id next in
          let rises = id_after-rises host_id next in
          omega (arith, few, all, most, rises)

      go : (p : List ℕ) → path ≡ p → next < 254
      go [] empty = let none = begins empty in omega (arith, none)
      go (x ∷ p) is =
          let host = host_listed topology before now host_id next devices path underway
          (λ empty. never_empty x p (sym empty ∙ is)) in
          below (underway.counted.endpoints host.0 host.1)

  -- no device of a list stands before the host
  none_before_host : path ≡ [] → devices ≡ []
  none_before_host empty = go devices underway.walked.before
    where
      go : (l : List Device) → All (λ p. Before p path) (paths_of l) → l ≡ []
      go [] all = refl
      go (x ∷ l) all =
          absurd (not_before_empty x.path (subst (λ p. Before x.path p) empty
          (all 0 x.path (omega arith))))

  module _ (locked mid after : AllRegisters) (next_after : ℕ) (kind : Kind)
      (fits : Fits topology now) (takable : IsTakable host_id (now at.node))
      (begins : path ≡ [] → next ≡ 0)
      (lock : Becomes now locked at.node (record (now at.node) { lock = host_id }))
      (tag : Becomes locked mid at.node
      (record (locked at.node) { tag = length devices + 1 }))
      (left : IsKindLeft topology host_id next next_after mid after path at kind) where
    unmet : IsUnmet topology devices at.node
    unmet = unmet_takable takable

    was : now at.node ≡ before at.node
    was = underway.others at.node unmet

    inside : at.node < topology.nodes
    inside = entered-inside topology path at underway.proper askable.leads

    abbrev base : Registers
    base = record (before at.node) { lock = host_id; tag = length devices + 1 }

    -- the device with lock and tag
    is_base : mid at.node ≡ base
    is_base =
        became locked mid at.node (record (locked at.node) { tag = length devices + 1 }) tag
        ∙ (ap (λ (d : Registers). record d { tag = length devices + 1 })
        (became now locked at.node (record (now at.node) { lock = host_id }) lock)
        ∙ ap (λ (d : Registers). record d { lock = host_id; tag = length devices + 1 }) was)

    others_stay : (node : ℕ) → node ≢ at.node → mid node ≡ now node
    others_stay node apart =
        stays locked mid at.node node (record (locked at.node) { tag = length devices + 1 }) tag
        apart
        ∙ stays now locked at.node node (record (now at.node) { lock = host_id }) lock apart

    not_foreign : ¬ IsForeign host_id (before at.node).lock
    not_foreign foreign = go takable
      where
        go : IsTakable host_id (now at.node) → ⊥
        go (inl free) = foreign.0 (ap (λ (d : Registers). d.lock) (sym was) ∙ free)
        go (inr held) = foreign.1 (ap (λ (d : Registers). d.lock) (sym was) ∙ held.0)

    taken_as : (id : ℕ) → IsTaken host_id devices (before at.node) (record base { base_id = id })
    taken_as id = record {
      lock = refl;
      tag = refl;
      not_foreign = not_foreign;
      changes = record {
        rest = refl;
        routes = λ id most less other. refl;
      };
    }

    taken : IsTaken host_id devices (before at.node) (mid at.node)
    taken = subst (λ d. IsTaken host_id devices (before at.node) d) (sym is_base)
        (taken_as (before at.node).base_id)

    apart : IsApart topology path at.node
    apart = apart_unmet unmet

    opened_mid : IsOpened topology mid host_id path
    opened_mid =
        opened-apart mid at.node (record (locked at.node) { tag = length devices + 1 })
        (opened-apart locked at.node
        (record (now at.node) { lock = host_id }) askable.opened lock apart) tag apart

    shown : (is : Bool) → is_switch (mid at.node) ≡ is → is_switch (now at.node) ≡ is
    shown is same = ap is_switch was ∙ (sym (ap (λ d. is_switch d) is_base) ∙ same)

    ports_shown : (mid at.node).ports ≡ (now at.node).ports
    ports_shown = ap (λ (d : Registers). d.ports) (is_base) ∙ ap
        (λ (d : Registers). d.ports) (sym was)

    -- a switch
    switch_tried : (ports entry : ℕ) → kind ≡ Switch ports entry
        → IsKindLeft topology host_id next next_after mid after path at (Switch ports entry)
        → IsUnderway topology before after host_id
        (devices ++ met_as devices (Switch ports entry) path ∷ []) next_after (onward path 0)
        × IsOpened topology after host_id path
    switch_tried ports entry is_kind
        (is, is_ports, is_entry, is_next_id, (held, becomes, set_up)) = (
          subst (λ n. IsUnderway topology before after host_id
              (devices ++ met_as devices (Switch ports entry) path ∷ []) n (onward path 0))
              (sym is_next_id)
              (subst (λ n. IsUnderway topology before after host_id
              (devices ++ met_as devices (Switch n entry) path ∷ []) next (onward path 0))
              (sym is_ports)
              (subst (λ n. IsUnderway topology before after host_id
              (devices ++ met_as devices (Switch (mid at.node).ports n) path ∷ []) next
              (onward path 0)) (sym is_entry) on)),
          opened-apart after at.node held opened_mid becomes apart,
        )
      where
        on : IsUnderway topology before after host_id
            (devices ++ met_as devices (Switch (mid at.node).ports at.port) path ∷ []) next
            (onward path 0)
        on = underway-switch topology before now after host_id next devices path at underway is_next
            askable.leads unmet (mid at.node).ports (mid at.node)
            (switch_shown at.node fits inside (shown true is)
            ∙ ap (λ n. Some n) (sym ports_shown))
            taken
            (subst (λ d. SwitchIsSetUp host_id at.port (mid at.node) d)
            (sym (became mid after at.node held becomes)) set_up)
            (λ node elsewhere. stays mid after at.node node held becomes elsewhere
            ∙ others_stay node elsewhere)

    -- the host
    host_tried : (id : ℕ) → path ≡ [] → (id ≡ host_id) × (next_after ≡ next) × AreSame mid after
        → IsUnderway topology before after host_id
        (devices ++ met_as devices (Endpoint id) path ∷ []) next_after (onward path 0)
        × IsOpened topology after host_id path
    host_tried id empty (is_id, is_next_id, same) = (
      whole,
      opened-same after opened_mid same,
    )
      where
        no_devices : devices ≡ []
        no_devices = none_before_host empty

        no_next : next ≡ 0
        no_next = begins empty

        is_host : at.node ≡ topology.host
        is_host = ap (λ (p : PortRef). p.node) (same_end topology path at (port_at topology.host 0)
            askable.leads (ap (λ l. entered topology l) empty))

        first : IsUnderway topology before now host_id [] 0 []
        first =
            subst (λ l. IsUnderway topology before now host_id l 0 []) no_devices
            (subst (λ n. IsUnderway topology before now host_id devices n []) no_next
            (subst (λ l. IsUnderway topology before now host_id devices next l) empty underway))

        left_taken : IsTaken host_id [] (before topology.host) (after topology.host)
        left_taken =
            subst (λ n. IsTaken host_id [] (before n) (after n)) is_host
            (subst (λ l. IsTaken host_id l (before at.node) (after at.node)) no_devices
            (subst (λ d. IsTaken host_id devices (before at.node) d) (sym (same at.node)) taken))

        own_id : (after topology.host).base_id ≡ host_id
        own_id =
            subst (λ n. (after n).base_id ≡ (before n).base_id) is_host
            (ap (λ (d : Registers). d.base_id) (same at.node ∙ is_base))
            ∙ underway.id

        on : IsUnderway topology before after host_id (met_as [] (Endpoint host_id) [] ∷ []) 0
            (0 ∷ [])
        on = underway-host topology before now after host_id first left_taken own_id
            (λ node elsewhere. same node ∙ others_stay node (λ is. elsewhere (is ∙ is_host)))

        whole : IsUnderway topology before after host_id
            (devices ++ met_as devices (Endpoint id) path ∷ []) next_after (onward path 0)
        whole =
            subst (λ n. IsUnderway topology before after host_id
            (devices ++ met_as devices (Endpoint id) path ∷ []) n (onward path 0))
            (sym (is_next_id ∙ no_next))
            (subst (λ n. IsUnderway topology before after host_id
            (devices ++ met_as devices (Endpoint n) path ∷ []) 0 (onward path 0)) (sym is_id)
            (subst (λ l. IsUnderway topology before after host_id
            (devices ++ met_as devices (Endpoint host_id) l ∷ []) 0 (onward l 0)) (sym empty)
            (subst (λ l. IsUnderway topology before after host_id
            (l ++ met_as l (Endpoint host_id) [] ∷ []) 0 (0 ∷ [])) (sym no_devices) on)))

    -- an endpoint
    endpoint_tried : (id first : ℕ) (rest : List ℕ) → path ≡ first ∷ rest
        → is_switch (mid at.node) ≡ false
        → (id ≡ id_after host_id next) × (next_after ≡ id + 1)
        × HasNewId topology mid after path at.node id
        → IsUnderway topology before after host_id
        (devices ++ met_as devices (Endpoint id) path ∷ []) next_after (onward path 0)
        × IsOpened topology after host_id path
    endpoint_tried id first rest is kind_is (is_id, is_next_id, given) = go (given first rest is)
      where
        apart_ids : (255 ≢ id) × (host_id ≢ id)
        apart_ids = subst (λ n. (255 ≢ n) × (host_id ≢ n)) (sym is_id)
            (id_after-apart host_id next (next_few begins))

        go : (numbered : AllRegisters)
            × Becomes mid numbered at.node (record (mid at.node) { base_id = id })
            × AreRouted topology numbered after (first ∷ []) rest id
            → IsUnderway topology before after host_id
            (devices ++ met_as devices (Endpoint id) path ∷ []) next_after (onward path 0)
            × IsOpened topology after host_id path
        go (numbered, one, routed) = (
          subst (λ n. IsUnderway topology before after host_id
              (devices ++ met_as devices (Endpoint id) path ∷ []) n (onward path 0))
              (sym is_next_id)
              (subst (λ l. IsUnderway topology before after host_id
              (devices ++ met_as devices (Endpoint id) l ∷ []) (id + 1) (onward l 0)) (sym is) on),
          subst (λ l. IsOpened topology after host_id l) (sym is)
              (opened-routed (subst (λ l. IsOpened topology numbered host_id l) is
              (opened-apart numbered at.node
              (record (mid at.node) { base_id = id }) opened_mid one apart))
              routed apart_ids.0 apart_ids.1),
        )
          where
            numbered_base : numbered at.node ≡ record base { base_id = id }
            numbered_base =
                became mid numbered at.node (record (mid at.node) { base_id = id }) one
                ∙ ap (λ (d : Registers). record d { base_id = id }) is_base

            on : IsUnderway topology before after host_id
                (devices ++ met_as devices (Endpoint id) (first ∷ rest) ∷ []) (id + 1)
                (onward (first ∷ rest) 0)
            on = underway-endpoint topology before now numbered after host_id next id first rest
                devices at
                (subst (λ l. IsUnderway topology before now host_id devices next l) is underway)
                (subst (λ l. IsNext (paths_of devices) l) is is_next)
                (ap (λ l. entered topology l) (sym is) ∙ askable.leads) unmet
                (endpoint_shown topology now at.node fits inside (shown false kind_is)) fits is_id
                (λ node elsewhere. stays mid numbered at.node node
                (record (mid at.node) { base_id = id }) one elsewhere
                ∙ others_stay node elsewhere)
                routed
                (subst (λ d. IsTaken host_id devices (before at.node) d) (sym numbered_base)
                (taken_as id))
                (ap (λ (d : Registers). d.base_id) numbered_base)

    pub tried : IsUnderway topology before after host_id
        (devices ++ met_as devices kind path ∷ []) next_after (onward path 0)
        × IsOpened topology after host_id path
    tried = go kind refl left
      where
        go : (k : Kind) → kind ≡ k → IsKindLeft topology host_id next next_after mid after path at k
            → IsUnderway topology before after host_id
            (devices ++ met_as devices k path ∷ []) next_after (onward path 0)
            × IsOpened topology after host_id path
        go (Switch ports entry) is left = switch_tried ports entry is left
        go (Endpoint id) is (kind_is, given) = by_path path refl
          where
            by_path : (p : List ℕ) → path ≡ p
                → IsUnderway topology before after host_id
                (devices ++ met_as devices (Endpoint id) path ∷ []) next_after (onward path 0)
                × IsOpened topology after host_id path
            by_path [] empty = host_tried id empty (given.0 empty)
            by_path (first ∷ rest) same =
                endpoint_tried id first rest same kind_is
                (given.1 (λ empty. never_empty first rest (sym empty ∙ same)))
