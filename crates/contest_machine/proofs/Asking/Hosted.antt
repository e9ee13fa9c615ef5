-- The host keeps its ID, which the writes that are left do not change.
use Rattle.contest_machine.proofs.Prelude.{◌≡◌, ◌≢◌, ℕ, List, [], ◌∷◌, AllPairs, Option, Some, None, Contains, arith, ◌⊎◌, inl, inr, subst, sym, refl, ap, ◌∙◌, All-contains, PortRef, Kind, Endpoint, Switch, Device, Topology, entered, Before, AllRegisters, paths_of, AreDescribed, HasBaseId, not_before_empty, path_listed, host-first, node_at-entered, Contains-cases, AllPairs-first, Write, after_access, IsUnderway, with_device-other, IsMember, PendingWrite, AreOwnWrites}
use Rattle.contest_machine.proofs.Numbering.OnWay.{one_performed, performed}
use Rattle.contest_machine.proofs.Asking.Guided.{AreOutside}

module _ (view : Topology) (before seen : AllRegisters) (id next : ℕ) (devices : List Device)
    (bound : List ℕ) (underway : IsUnderway view before seen id devices next bound)
    (host : IsMember view devices view.host) where
  abbrev paths : List (List ℕ)
  paths = paths_of devices

  past_host : Before [] bound
  past_host = after bound
      (All-contains (λ l. Before l bound) paths host.0.path underway.walked.before
      (path_listed devices host.0 host.1))
    where
      after : (b : List ℕ) → Before host.0.path b → Before [] b
      after [] earlier = absurd (not_before_empty host.0.path earlier)
      after (y ∷ b) earlier = tt

  pub host_listed : Contains paths []
  host_listed = underway.walked.host_met past_host

  -- a path of the list that is not empty leads to another device
  pub listed_other : (path : List ℕ) (at : PortRef) → Contains paths path
      → entered view path ≡ Some at → path ≢ [] → at.node ≢ view.host
  listed_other path at listed leads some same =
      some (underway.walked.once path [] listed host_listed
      (node_at-entered view path at leads ∙ ap (λ n. Some n) same))

  first_kind : (all : List Device) → devices ≡ all → host.0.kind ≡ Endpoint id
  first_kind [] is = absurd (omega (arith, (subst (λ l. Contains l host.0) is host.1).1))
  first_kind (first ∷ rest) is = go (Contains-cases first rest host.0 listed)
    where
      listed : Contains (first ∷ rest) host.0
      listed = subst (λ l. Contains l host.0) is host.1

      empty : host.0.path ≡ []
      empty = underway.walked.once host.0.path [] (path_listed devices host.0 host.1) host_listed
          host.2

      go : (first ≡ host.0) ⊎ Contains rest host.0 → host.0.kind ≡ Endpoint id
      go (inl same) =
          ap (λ (d : Device). d.kind) (sym same)
          ∙ host-first view id first rest underway.proper.host_is_endpoint
          (subst (λ l. AreDescribed view id [] l) is underway.described)
          (ap (λ (d : Device). d.path) same ∙ empty)
      go (inr later) =
          absurd (not_before_empty first.path
          (subst (Before first.path) empty
          (All-contains (Before first.path) (paths_of rest) host.0.path
          (AllPairs-first Before first.path (paths_of rest)
          (subst (λ l. AllPairs Before (paths_of l)) is underway.walked.ordered))
          (path_listed rest host.0 later))))

  pub host_base : (seen view.host).base_id ≡ id
  host_base = has host.0.kind (first_kind devices refl)
      (underway.held host.0 view.host host.1 host.2).marked.base_id
    where
      has : (kind : Kind) → kind ≡ Endpoint id → HasBaseId (seen view.host) kind
          → (seen view.host).base_id ≡ id
      has (Endpoint given) is shown = let same : given ≡ id = cc in shown ∙ same
      has (Switch ports entry) is shown = absurd (cc)

-- writes to other devices leave the host
pub host_stays : (view : Topology) (all : List (List ℕ)) (todo : List PendingWrite)
    (now : AllRegisters)
    → ((path : List ℕ) (at : PortRef) → Contains all path → entered view path ≡ Some at
    → path ≢ [] → at.node ≢ view.host)
    → AreOwnWrites all todo → AreOutside todo
    → performed view now todo view.host ≡ now view.host
host_stays view all [] now others own outside = refl
host_stays view all (p ∷ rest) now others own outside =
    go (entered view p.path) refl
    (λ next. host_stays view all rest next others own.1 outside.1)
  where
    go : (o : Option PortRef) → entered view p.path ≡ o
        → ((next : AllRegisters) → performed view next rest view.host ≡ next view.host)
        → performed view (one_performed now p o) rest view.host ≡ now view.host
    go None is on = on now
    go (Some at) is on =
        on (after_access now at (Write p.offset p.value))
        ∙ with_device-other now at.node view.host _
        (λ same. others p.path at own.0.0 is outside.0 (sym same))
