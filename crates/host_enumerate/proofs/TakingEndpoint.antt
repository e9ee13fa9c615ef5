-- An endpoint that is taken in, and the switches on the way to it.
use Rattle.host_enumerate.proofs.Prelude.{◌≡◌, ◌≢◌, ℕ, ◌+◌, ◌<◌, true, List, [], ◌∷◌, ◌++◌, length, Option, Some, None, Contains, arith, ◌⊎◌, inl, inr, subst, sym, refl, ap, ◌∙◌, ◌||◌, eq-eqb, same_Some, option_and_then, length-map, All-contains, PortRef, port_at, Kind, Endpoint, Switch, Device, Topology, behind_port, along, entered, node_at, Before, onward, Walked, AllRegisters, Fits, IsNext, is_given, paths_of, toward, IsLeastFree, IsIdOf, IsKindAt, IsDescribed, AreDescribed, Contains-cases, AllPairs-first, port_of_entry, along-append, behind-link, followed-switch, toward-further, further_from_toward, entered-inside, walked-fewer, path_listed, device_on, described-listed, node_at-entered, host-first, not_before_empty, passed_listed, has_id-endpoint, with_entry, PathPasses, AreRouted, id_after, met_as, IsHeld, IsUnmet, IsUnderway}
use Rattle.host_enumerate.proofs.Askable.{never_empty}
use Rattle.host_enumerate.proofs.Counting.{id_after-few, counted-endpoint, counted-least}
use Rattle.host_enumerate.proofs.Lengthening.{held-beside, held-passed, held-endpoint, underway-taken}
use Rattle.host_enumerate.proofs.TakingSwitch.{IsTaken}

-- the host's ID is given
pub host_given : (topology : Topology) (host_id : ℕ) (devices : List Device) (bound : List ℕ)
    → topology.switch_ports topology.host ≡ None
    → Walked topology (paths_of devices) bound → Contains (paths_of devices) []
    → AreDescribed topology host_id [] devices → is_given devices host_id ≡ true
host_given topology host_id [] bound endpoint walked listed described =
    absurd (omega (arith, listed.1))
host_given topology host_id (first ∷ devices) bound endpoint walked listed described =
    go (Contains-cases first.path (paths_of devices) [] listed)
  where
    go : (first.path ≡ []) ⊎ Contains (paths_of devices) []
        → is_given (first ∷ devices) host_id ≡ true
    go (inl same) =
        ap (λ b. b || is_given devices host_id)
        (has_id-endpoint first host_id host_id
        (host-first topology host_id first devices endpoint described same)
        ∙ eq-eqb host_id host_id refl)
    go (inr later) =
        absurd (not_before_empty first.path
        (All-contains (Before first.path) (paths_of devices) []
        (AllPairs-first Before first.path (paths_of devices) walked.ordered) later))

-- a device whose path goes on is a switch
pub passed_switch : (topology : Topology) (host_id : ℕ) (earlier : List Device) (member : Device)
    (at end : PortRef) (port : ℕ) (later : List ℕ)
    → IsDescribed topology host_id earlier member → entered topology member.path ≡ Some at
    → entered topology (member.path ++ port ∷ later) ≡ Some end → at.node ≢ topology.host
    → (ports : ℕ) × (entry : ℕ) × (member.kind ≡ Switch ports entry)
passed_switch topology host_id earlier member at end port later described enters leads other =
    go (behind_port topology at.node port) refl
    (sym (along-append topology (port_at topology.host 0) member.path (port ∷ later) at enters)
    ∙ leads)
  where
    same : described.at ≡ at
    same = same_Some described.at at (sym described.path ∙ enters)

    kind : (ports : ℕ) (o : Option ℕ) (k : Kind) → o ≡ Some ports → member.kind ≡ k
        → IsKindAt host_id earlier described.at o k
        → (ports : ℕ) × (entry : ℕ) × (member.kind ≡ Switch ports entry)
    kind ports None k is shown described_so = absurd (cc)
    kind ports (Some n) (Endpoint id) is shown described_so = absurd described_so
    kind ports (Some n) (Switch p entry) is shown described_so = (p, entry, shown)

    go : (o : Option PortRef) → behind_port topology at.node port ≡ o
        → option_and_then (λ next. along topology next later) o ≡ Some end
        → (ports : ℕ) × (entry : ℕ) × (member.kind ≡ Switch ports entry)
    go None is on = absurd (cc)
    go (Some next) is on =
        let link = behind-link topology at.node port next is in
        let switch = followed-switch topology at.node port other link.1 in
        kind switch.0 (topology.switch_ports described.at.node) member.kind
        (ap (λ (p : PortRef). topology.switch_ports p.node) same ∙ switch.1) refl described.kind

-- an endpoint is listed as one
pub endpoint_at : (topology : Topology) (host_id : ℕ) (earlier : List Device) (member : Device)
    (described : IsDescribed topology host_id earlier member)
    → topology.switch_ports described.at.node ≡ None
    → (given : ℕ) × (member.kind ≡ Endpoint given)
endpoint_at topology host_id earlier member described is =
    go (topology.switch_ports described.at.node) member.kind is refl described.kind
  where
    go : (o : Option ℕ) (k : Kind) → o ≡ None → member.kind ≡ k
        → IsKindAt host_id earlier described.at o k
        → (given : ℕ) × (member.kind ≡ Endpoint given)
    go None (Endpoint id) is shown described_so = (id, shown)
    go None (Switch ports entry) is shown described_so = absurd described_so
    go (Some n) k is shown described_so = absurd (cc)

module _ (topology : Topology) (before now mid after : AllRegisters) (host_id next id first : ℕ)
    (rest : List ℕ) (devices : List Device) (at : PortRef)
    (underway : IsUnderway topology before now host_id devices next (first ∷ rest))
    (is_next : IsNext (paths_of devices) (first ∷ rest))
    (enters : entered topology (first ∷ rest) ≡ Some at)
    (unmet : IsUnmet topology devices at.node)
    (kind : topology.switch_ports at.node ≡ None)
    (fits : Fits topology now)
    (is_id : id ≡ id_after host_id next)
    (beside : (node : ℕ) → node ≢ at.node → mid node ≡ now node)
    (routed : AreRouted topology mid after (first ∷ []) rest id) where
  abbrev endpoint : Device
  endpoint = met_as devices (Endpoint id) (first ∷ rest)

  host : (host : Device) × Contains devices host × (host.path ≡ [])
  host = device_on devices [] (underway.walked.host_met tt)

  given_host : is_given devices host_id ≡ true
  given_host =
      host_given topology host_id devices (first ∷ rest) underway.proper.host_is_endpoint
      underway.walked (underway.walked.host_met tt) underway.described

  least : IsLeastFree devices id
  least = subst (IsLeastFree devices) (sym is_id)
      (counted-least host_id next devices underway.counted given_host)

  not_host_id : id ≢ host_id
  not_host_id same =
      let free = least.free in
      let given = ap (λ n. is_given devices n) same ∙ given_host in
      absurd (cc)

  few_devices : length devices < topology.nodes
  few_devices =
      subst (λ n. n < topology.nodes)
      (length-map devices (λ (d : Device). d.path))
      (walked-fewer topology (paths_of devices) (first ∷ rest) at.node underway.proper
      underway.walked (entered-inside topology (first ∷ rest) at underway.proper enters)
      (λ path listed same. let found = device_on devices path listed in
      unmet found.0 found.1 (ap (λ p. node_at topology p) found.2 ∙ same)))

  -- with a switch among the devices, the ID is at most 62
  pub few_ids : (member : Device) (ports entry : ℕ) → Contains devices member
      → member.kind ≡ Switch ports entry → id < 63
  few_ids member ports entry listed is =
      let fewer = underway.counted.switches member ports entry listed is in
      let less = id_after-few host_id next in
      let most = underway.proper.most in
      let all = few_devices in
      omega (arith, fewer, less, most, all, is_id)

  -- a member that the path goes on behind is passed
  passes_from_toward : (member : Device) (node port : ℕ)
      → node_at topology member.path ≡ Some node → member.path ≢ []
      → toward member.path (first ∷ rest) ≡ Some port
      → PathPasses topology (first ∷ []) rest node port
  passes_from_toward member node port same some leads =
      go member.path refl (further_from_toward member.path (first ∷ rest) port leads)
    where
      go : (p : List ℕ) → member.path ≡ p
          → (later : List ℕ) × (first ∷ rest ≡ member.path ++ port ∷ later)
          → PathPasses topology (first ∷ []) rest node port
      go [] is further = absurd (some is)
      go (x ∷ p) is further =
          let entry = port_of_entry (entered topology member.path) node same in
          let whole : first ∷ rest ≡ x ∷ (p ++ port ∷ further.0) =
          further.1 ∙ ap (λ l. l ++ port ∷ further.0) is in
          let head : first ≡ x = cc in (
            p,
            further.0,
            entry.0,
            cc,
            ap (λ n. entered topology (n ∷ p)) head
                ∙ (ap (λ l. entered topology l) (sym is) ∙ entry.1),
            entry.2,
          )

  -- and no other
  toward_from_passes : (member : Device) (node port : ℕ) → Contains devices member
      → node_at topology member.path ≡ Some node
      → PathPasses topology (first ∷ []) rest node port
      → (member.path ≢ []) × (toward member.path (first ∷ rest) ≡ Some port)
  toward_from_passes member node port listed same passes =
      let p = passes.0 in
      let later = passes.1 in
      let way : first ∷ rest ≡ (first ∷ p) ++ port ∷ later = ap (λ l. first ∷ l) passes.3 in
      let front = passed_listed topology (paths_of devices) (first ∷ rest) (first ∷ rest)
      (first ∷ p) later port underway.walked is_next way in
      let leads : node_at topology (first ∷ p) ≡ Some node =
      node_at-entered topology (first ∷ p) passes.2 passes.4 ∙ ap (λ n. Some n) passes.5 in
      let equal = underway.walked.once member.path (first ∷ p)
      (path_listed devices member listed) front (same ∙ sym leads) in (
        λ empty. never_empty first p (sym empty ∙ equal),
        ap (λ l. toward l (first ∷ rest)) equal
            ∙ (ap (λ l. toward (first ∷ p) l) way ∙ toward-further (first ∷ p) port later),
      )

  -- a device that is not passed stays
  unpassed : (node : ℕ) → node ≢ at.node
      → ((port : ℕ) → ¬ PathPasses topology (first ∷ []) rest node port)
      → after node ≡ now node
  unpassed node apart none = routed.others node none ∙ beside node apart

  -- no device that was not met is passed
  unmet-unpassed : (node : ℕ) → IsUnmet topology devices node
      → (port : ℕ) → ¬ PathPasses topology (first ∷ []) rest node port
  unmet-unpassed node none port passes =
      let p = passes.0 in
      let later = passes.1 in
      let front = passed_listed topology (paths_of devices) (first ∷ rest) (first ∷ rest)
      (first ∷ p) later port underway.walked is_next (ap (λ l. first ∷ l) passes.3) in
      let found = device_on devices (first ∷ p) front in
      none found.0 found.1 (ap (λ l. node_at topology l) found.2
      ∙ (node_at-entered topology (first ∷ p) passes.2 passes.4 ∙ ap (λ n. Some n) passes.5))

  -- what was met before stays held
  held-member : (member : Device) (node : ℕ) → Contains devices member
      → node_at topology member.path ≡ Some node
      → IsHeld host_id (devices ++ endpoint ∷ []) member (before node) (after node)
  held-member member node listed same = go member.path (toward member.path (first ∷ rest)) refl refl
    where
      held : IsHeld host_id devices member (before node) (now node)
      held = underway.held member node listed same

      apart : node ≢ at.node
      apart equal = unmet member listed (same ∙ ap (λ n. Some n) equal)

      inside : node < topology.nodes
      inside =
          let entry = port_of_entry (entered topology member.path) node same in
          subst (λ n. n < topology.nodes) entry.2
          (entered-inside topology member.path entry.0 underway.proper entry.1)

      none : toward member.path (first ∷ rest) ≡ None
          → (port : ℕ) → ¬ PathPasses topology (first ∷ []) rest node port
      none is port passes =
          let leads = (toward_from_passes member node port listed same passes).1 in
          let some_none : Some port ≡ None = sym leads ∙ is in
          absurd (cc)

      host_path : member.path ≡ [] → (port : ℕ)
          → ¬ PathPasses topology (first ∷ []) rest node port
      host_path empty port passes = (toward_from_passes member node port listed same passes).0 empty

      switch : (port : ℕ) → toward member.path (first ∷ rest) ≡ Some port → member.path ≢ []
          → (ports : ℕ) × (entry : ℕ) × (member.kind ≡ Switch ports entry)
      switch port leads some =
          let entry = port_of_entry (entered topology member.path) node same in
          let further = further_from_toward member.path (first ∷ rest) port leads in
          let described = described-listed topology host_id [] devices member underway.described
          listed in
          passed_switch topology host_id described.0 member entry.0 at port further.0 described.1
          entry.1 (ap (λ l. entered topology l) (sym further.1) ∙ enters)
          (λ is_host. some (underway.walked.once member.path [] (path_listed devices member listed)
          (underway.walked.host_met tt)
          (same ∙ ap (λ n. Some n) (sym entry.2 ∙ is_host))))

      passed : (port : ℕ) → toward member.path (first ∷ rest) ≡ Some port → member.path ≢ []
          → IsHeld host_id (devices ++ endpoint ∷ []) member (before node) (after node)
      passed port leads some =
          let is_switch = switch port leads some in
          subst (λ d. IsHeld host_id (devices ++ endpoint ∷ []) member (before node) d)
          (ap (λ d. with_entry d id port) (sym (beside node apart))
          ∙ sym (routed.passed node port (passes_from_toward member node port same some leads)))
          (held-passed endpoint held id port refl
          least.free leads (few_ids member is_switch.0 is_switch.1 listed is_switch.2)
          not_host_id (fits.devices node inside).destinations)

      stays : ((port : ℕ) → ¬ PathPasses topology (first ∷ []) rest node port)
          → IsHeld host_id (devices ++ endpoint ∷ []) member (before node) (now node)
          → IsHeld host_id (devices ++ endpoint ∷ []) member (before node) (after node)
      stays skipped kept = subst
          (λ d. IsHeld host_id (devices ++ endpoint ∷ []) member (before node) d)
          (sym (unpassed node apart skipped)) kept

      go : (p : List ℕ) (o : Option ℕ) → member.path ≡ p
          → toward member.path (first ∷ rest) ≡ o
          → IsHeld host_id (devices ++ endpoint ∷ []) member (before node) (after node)
      go p None is leads = stays (none leads) (held-beside endpoint held id refl least.free leads)
      go [] (Some port) is leads = stays (host_path is) (held-endpoint endpoint held (host_kind is))
        where
          host_kind : member.path ≡ [] → (given : ℕ) × (member.kind ≡ Endpoint given)
          host_kind is =
              let described = described-listed topology host_id [] devices member
              underway.described listed in
              endpoint_at topology host_id described.0 member described.1
              (ap (λ (p : PortRef). topology.switch_ports p.node)
              (same_Some described.1.at (port_at topology.host 0)
              (sym described.1.path ∙ ap (λ l. entered topology l) is))
              ∙ underway.proper.host_is_endpoint)
      go (x ∷ p) (Some port) is leads =
          passed port leads (λ empty. never_empty x p (sym empty ∙ is))

  -- An endpoint is taken in, and the switches on the way send to it.
  pub underway-endpoint : IsTaken host_id devices (before at.node) (mid at.node)
      → (mid at.node).base_id ≡ id
      → IsUnderway topology before after host_id
      (devices ++ met_as devices (Endpoint id) (first ∷ rest) ∷ []) (id + 1)
      (onward (first ∷ rest) 0)
  underway-endpoint taken base =
      underway-taken after (id + 1) endpoint underway is_next enters unmet described
      (counted-endpoint host_id next id devices host.0 endpoint underway.counted host.1 is_id refl)
      held-member
      (subst (λ d. IsHeld host_id (devices ++ endpoint ∷ []) endpoint (before at.node) d)
      (sym (routed.others at.node (unmet-unpassed at.node unmet))) new)
      (λ node none apart. unpassed node apart (unmet-unpassed node none))
    where
      id_of : (l : List Device) → Contains l host.0 → IsLeastFree l id → IsIdOf host_id l id
      id_of [] listed is = absurd (omega (arith, listed.1))
      id_of (x ∷ l) listed is = is

      described : IsDescribed topology host_id devices endpoint
      described = record {
        tag = refl;
        at = at;
        path = enters;
        kind = subst (λ o. IsKindAt host_id devices at o (Endpoint id)) (sym kind)
            (id_of devices host.1 least);
      }

      new : IsHeld host_id (devices ++ endpoint ∷ []) endpoint (before at.node) (mid at.node)
      new = record {
        marked = record { lock = taken.lock; tag = taken.tag; base_id = base };
        not_foreign = taken.not_foreign;
        changes = taken.changes;
        table = tt;
      }
