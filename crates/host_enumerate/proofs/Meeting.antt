-- What lock and tag of a device tell: whether it was met.
use Rattle.host_enumerate.proofs.Prelude.{◌≡◌, ◌≢◌, ℕ, ◌<◌, List, [], ◌∷◌, Option, Some, None, Contains, arith, ◌⊎◌, inl, inr, subst, sym, refl, ap, ◌∙◌, cases_eq, All-contains, PortRef, Device, Topology, entered, node_at, IsReached, Before, IsMet, AllRegisters, IsForeign, IsNext, paths_of, ChangesOnly, Contains-first, Contains-rest, Contains-cases, entered-inside, path_listed, device_on, tag-some, node_at-entered, IsUnmet, IsUnderway, EndsAtLock}

-- a device of the list is this one
abbrev pub IsMember : Topology → List Device → ℕ → Type 0
IsMember topology devices node =
    (device : Device) × Contains devices device × (node_at topology device.path ≡ Some node)

-- a device was met, or it was not
pub member_or_unmet : (topology : Topology) (devices : List Device) (node : ℕ)
    → IsMember topology devices node ⊎ IsUnmet topology devices node
member_or_unmet topology [] node = inr (λ device listed same. omega (arith, listed.1))
member_or_unmet topology (first ∷ devices) node =
    go (node_at topology first.path) refl (member_or_unmet topology devices node)
  where
    unlike : (o : Option ℕ) → node_at topology first.path ≡ o → o ≢ Some node
        → IsUnmet topology devices node → IsUnmet topology (first ∷ devices) node
    unlike o is other unmet device listed same = at (Contains-cases first devices device listed)
      where
        at : (first ≡ device) ⊎ Contains devices device → ⊥
        at (inl equal) =
            other (sym is ∙ (ap (λ (d : Device). node_at topology d.path) equal ∙ same))
        at (inr later) = unmet device later same

    go : (o : Option ℕ) → node_at topology first.path ≡ o
        → IsMember topology devices node ⊎ IsUnmet topology devices node
        → IsMember topology (first ∷ devices) node ⊎ IsUnmet topology (first ∷ devices) node
    go o is (inl member) = inl (member.0, Contains-rest first devices member.0 member.1, member.2)
    go None is (inr unmet) = inr (unlike None is (λ same. absurd (cc)) unmet)
    go (Some n) is (inr unmet) = at (cases_eq n node)
      where
        at : (n ≡ node) ⊎ (n ≢ node)
            → IsMember topology (first ∷ devices) node ⊎ IsUnmet topology (first ∷ devices) node
        at (inl same) = inl (first, Contains-first first devices, is ∙ ap (λ k. Some k) same)
        at (inr other) = inr (unlike (Some n) is (λ same. other (cc)) unmet)

module _ (topology : Topology) (before now : AllRegisters) (host_id next : ℕ)
    (devices : List Device) (bound : List ℕ)
    (underway : IsUnderway topology before now host_id devices next bound) where
  -- the lock of a device that was met is the host's ID
  pub member-lock : (node : ℕ) → IsMember topology devices node → (now node).lock ≡ host_id
  member-lock node member = (underway.held member.0 node member.1 member.2).marked.lock

  -- a device with another lock was not met
  pub unmet-lock : (node : ℕ) → (now node).lock ≢ host_id → IsUnmet topology devices node
  unmet-lock node other device listed same = other (member-lock node (device, listed, same))

  -- one without a tag was not met
  pub unmet-untagged : (node : ℕ) → (now node).tag ≡ 0 → IsUnmet topology devices node
  unmet-untagged node none device listed same =
      tag-some topology host_id devices device underway.described listed
      (sym (underway.held device node listed same).marked.tag ∙ none)

  -- one with a tag was
  pub member-tagged : (node : ℕ) → node < topology.nodes → (now node).lock ≡ host_id
      → (now node).tag ≢ 0
      → IsMember topology devices node
  member-tagged node inside own tagged = go (member_or_unmet topology devices node)
    where
      go : IsMember topology devices node ⊎ IsUnmet topology devices node
          → IsMember topology devices node
      go (inl member) = member
      go (inr unmet) =
          absurd (tagged (ap (λ d. d.tag) (underway.others node unmet)
          ∙ underway.untagged node inside
          (ap (λ d. d.lock) (sym (underway.others node unmet)) ∙ own)))

  -- so a path that leads to it is met
  pub met-tagged : (at : PortRef) → entered topology bound ≡ Some at
      → (now at.node).lock ≡ host_id → (now at.node).tag ≢ 0
      → IsMet topology (paths_of devices) bound
  met-tagged at enters own tagged =
      let inside = entered-inside topology bound at underway.proper enters in
      let member = member-tagged at.node inside own tagged in
      let listed = path_listed devices member.0 member.1 in
      record {
        met_on = member.0.path;
        listed = listed;
        same_device = member.2 ∙ sym (node_at-entered topology bound at enters);
        not_after = inr (All-contains (λ p. Before p bound) (paths_of devices) member.0.path
            underway.walked.before listed);
      }

  -- a device that was met was not held by another host
  pub member-not_foreign : (node : ℕ) → IsMember topology devices node
      → ¬ IsForeign host_id (before node).lock
  member-not_foreign node member = (underway.held member.0 node member.1 member.2).not_foreign

  -- only registers of devices that are reached changed
  pub underway-outside : (node : ℕ) → ¬ IsReached topology node → now node ≡ before node
  underway-outside node apart =
      underway.others node (λ device listed same. apart (device.path, same))

  pub underway-inside : (node : ℕ) → ChangesOnly (host_id ∷ []) (before node) (now node)
  underway-inside node = go (member_or_unmet topology devices node)
    where
      go : IsMember topology devices node ⊎ IsUnmet topology devices node
          → ChangesOnly (host_id ∷ []) (before node) (now node)
      go (inl member) = (underway.held member.0 node member.1 member.2).changes
      go (inr unmet) = subst (λ d. ChangesOnly (host_id ∷ []) (before node) d)
          (sym (underway.others node unmet))
          (record { rest = refl; routes = λ id most less other. refl })

  -- the walk ends at a device with the lock of another host
  pub ends_at_lock : (at : PortRef) → IsNext (paths_of devices) bound
      → entered topology bound ≡ Some at → IsForeign host_id (now at.node).lock
      → EndsAtLock topology before now bound (now at.node).lock
  ends_at_lock at is_next enters foreign = record {
    first = record {
      paths = paths_of devices;
      walked = underway.walked;
      next = is_next;
      node = at.node;
      leads = node_at-entered topology bound at enters;
      lock = ap (λ d. d.lock) (sym (underway.others at.node unmet));
      foreign = subst (λ id. IsForeign id (now at.node).lock) (sym underway.id) foreign;
      none_before = λ met node listed leads.
          subst (λ id. ¬ IsForeign id (before node).lock) (sym underway.id)
          (member-not_foreign node (member met node listed leads));
    };
    kept = λ met node listed leads.
        member-lock node (member met node listed leads) ∙ sym underway.id;
    unmet_stay = λ node none. underway.others node
        (λ device listed same. none device.path (path_listed devices device listed) same);
    outside = underway-outside;
    inside = λ node reached.
        subst (λ id. ChangesOnly (id ∷ []) (before node) (now node)) (sym underway.id)
        (underway-inside node);
  }
    where
      unmet : IsUnmet topology devices at.node
      unmet = unmet-lock at.node foreign.1

      member : (met : List ℕ) (node : ℕ) → Contains (paths_of devices) met
          → node_at topology met ≡ Some node → IsMember topology devices node
      member met node listed leads =
          let found = device_on devices met listed in
          (found.0, found.1, ap (λ p. node_at topology p) found.2 ∙ leads)
