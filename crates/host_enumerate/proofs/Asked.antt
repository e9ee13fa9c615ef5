-- When a host can ask a device, while a fabric is numbered.
use Rattle.host_enumerate.proofs.Prelude.{◌≡◌, ◌≢◌, ℕ, ◌≤◌, List, [], ◌∷◌, length, Some, None, Contains, arith, ◌⊎◌, inl, inr, subst, sym, refl, ap, ◌∙◌, length-map, All-contains, PortRef, port_at, Kind, Endpoint, Switch, Device, Topology, entered, node_at, Before, Walked, AllRegisters, IsOpened, IsNext, paths_of, AreDescribed, HasBaseId, Contains-cases, AllPairs-first, not_before_empty, walked-few, path_listed, host-first, IsAskable, IsUnmet, IsUnderway}
use Rattle.host_enumerate.proofs.Meeting.{IsMember, member_or_unmet}
use Rattle.host_enumerate.proofs.Lengthening.{next-short}
use Rattle.host_enumerate.proofs.Askable.{opened-empty, not_host-listed}

-- the device on the empty path is the endpoint with the host's ID
pub host_kind : (topology : Topology) (host_id : ℕ) (devices : List Device) (bound : List ℕ)
    (device : Device)
    → topology.switch_ports topology.host ≡ None
    → Walked topology (paths_of devices) bound → AreDescribed topology host_id [] devices
    → Contains devices device → device.path ≡ [] → device.kind ≡ Endpoint host_id
host_kind topology host_id [] bound device endpoint walked described listed empty =
    absurd (omega (arith, listed.1))
host_kind topology host_id (first ∷ devices) bound device endpoint walked described listed empty =
    go (Contains-cases first devices device listed)
  where
    go : (first ≡ device) ⊎ Contains devices device → device.kind ≡ Endpoint host_id
    go (inl same) =
        ap (λ (d : Device). d.kind) (sym same)
        ∙ host-first topology host_id first devices endpoint described
        (ap (λ (d : Device). d.path) same ∙ empty)
    go (inr later) =
        absurd (not_before_empty first.path
        (subst (Before first.path) empty
        (All-contains (Before first.path) (paths_of devices) device.path
        (AllPairs-first Before first.path (paths_of devices) walked.ordered)
        (path_listed devices device later))))

module _ (topology : Topology) (before now : AllRegisters) (host_id next : ℕ)
    (devices : List Device) (bound : List ℕ)
    (underway : IsUnderway topology before now host_id devices next bound) where
  -- the host keeps its ID
  pub host-keeps_id : (now topology.host).base_id ≡ host_id
  host-keeps_id = go (member_or_unmet topology devices topology.host)
    where
      has : (kind : Kind) → kind ≡ Endpoint host_id → HasBaseId (now topology.host) kind
          → (now topology.host).base_id ≡ host_id
      has (Endpoint id) is shown = let same : id ≡ host_id = cc in shown ∙ same
      has (Switch ports entry) is shown = absurd (cc)

      met : (member : Device) → Contains devices member
          → node_at topology member.path ≡ Some topology.host
          → (p : List ℕ) → member.path ≡ p → (now topology.host).base_id ≡ host_id
      met member listed same [] empty =
          has member.kind (host_kind topology host_id devices bound member
          underway.proper.host_is_endpoint underway.walked underway.described listed empty)
          (underway.held member topology.host listed same).marked.base_id
      met member listed same (x ∷ p) is =
          let some : Before [] bound = after_none bound
          (All-contains (λ l. Before l bound) (paths_of devices) member.path
          underway.walked.before (path_listed devices member listed)) in
          let empty = underway.walked.once member.path [] (path_listed devices member listed)
          (underway.walked.host_met some) same in
          let none : [] ≡ x ∷ p = sym empty ∙ is in
          absurd (cc)
        where
          after_none : (b : List ℕ) → Before member.path b → Before [] b
          after_none [] earlier = absurd (not_before_empty member.path earlier)
          after_none (y ∷ b) earlier = tt

      go : IsMember topology devices topology.host ⊎ IsUnmet topology devices topology.host
          → (now topology.host).base_id ≡ host_id
      go (inl member) = met member.0 member.1 member.2 member.0.path refl
      go (inr unmet) = ap (λ d. d.base_id) (underway.others topology.host unmet) ∙ underway.id

  pub most : length devices ≤ 64
  most =
      let few = subst (λ n. n ≤ topology.nodes) (length-map devices (λ (d : Device). d.path))
      (walked-few topology (paths_of devices) bound underway.proper underway.walked) in
      let all = underway.proper.most in
      omega (arith, few, all)

  -- the host itself
  pub askable-host : IsAskable topology now host_id [] (port_at topology.host 0)
  askable-host = record {
    id = host-keeps_id;
    opened = opened-empty topology now host_id;
    leads = refl;
    not_host = λ same. refl;
    short = omega arith;
  }

  -- a device that was met
  pub askable-listed : (member : Device) (at : PortRef) → Before [] bound
      → Contains devices member → IsOpened topology now host_id member.path
      → entered topology member.path ≡ Some at
      → IsAskable topology now host_id member.path at
  askable-listed member at some listed opened enters = record {
    id = host-keeps_id;
    opened = opened;
    leads = enters;
    not_host = λ same. not_host-listed topology (paths_of devices) bound underway.walked
        member.path at some (path_listed devices member listed) enters same;
    short = let less = underway.short member listed in let few = most in omega (arith, less, few);
  }

  -- the device that is tried next
  pub askable-next : (path : List ℕ) (at : PortRef)
      → IsNext (paths_of devices) path → IsOpened topology now host_id path
      → entered topology path ≡ Some at → at.node ≢ topology.host
      → IsAskable topology now host_id path at
  askable-next path at is_next opened enters other = record {
    id = host-keeps_id;
    opened = opened;
    leads = enters;
    not_host = λ same. absurd (other same);
    short = let less = next-short devices path underway.short is_next in
        let few = most in omega (arith, less, few);
  }
