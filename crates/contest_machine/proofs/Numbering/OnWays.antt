-- What a walker has done stands whatever the other does.
use Rattle.contest_machine.proofs.Prelude.{◌≡◌, ◌≢◌, ℕ, ◌+◌, ◌<◌, List, [], ◌∷◌, length, Option, Some, None, Contains, ◌⊎◌, inl, inr, subst, sym, refl, ap, ◌∙◌, cases_eq, Contains-append_left, Contains-append_right, PortRef, Registers, Device, Topology, entered, node_at, AllRegisters, paths_of, path_listed, Contains-first, Write, after_access, IsTakable, IsUnmet, IsUnderway, IsMember, member_or_unmet, underway-elsewhere, PendingWrite, Stage, Ask, Claim, Check, Test, Features, Information, Status, Free, Done, Lost, Walker, kept, fresh, Keeps, IsAtPath, Knows, IsMine}
use Rattle.contest_machine.proofs.Numbering.OnWay.{one_performed, performed, bound_at, IsApart, taken_as, IsFresh, IsOnWay}
use Rattle.contest_machine.proofs.Keeping.Lists.{Leads, leads_or_not}
use Rattle.contest_machine.proofs.Keeping.Frame.{IsTurn, unchanged, kept_stays}
use Rattle.contest_machine.proofs.Keeping.Stepped.{some_left}
use Rattle.contest_machine.proofs.Numbering.Performing.{performed-agree, performed-beside}

-- A host stays underway, whatever happens to devices that it has not met, if none of them comes to
-- bear its ID or is changed while it does.
module _ (topology : Topology) (before seen : AllRegisters) (host_id next : ℕ)
    (devices : List Device) (bound : List ℕ)
    (underway : IsUnderway topology before seen host_id devices next bound)
    (new : AllRegisters) (Apart : ℕ → Type 0) (decide : (node : ℕ) → Apart node ⊎ (¬ Apart node))
    (unmet_apart : (node : ℕ) → Apart node → IsUnmet topology devices node)
    (met_stays : (node : ℕ) → IsMember topology devices node → new node ≡ seen node)
    (own_stays : (node : ℕ) → ¬ Apart node → (new node).lock ≡ host_id → new node ≡ seen node)
    (hosted : IsMember topology devices topology.host ⊎ Apart topology.host) where
  abbrev pick : Registers → Registers → (node : ℕ)
      → IsMember topology devices node ⊎ IsUnmet topology devices node
      → Apart node ⊎ (¬ Apart node) → Registers
  pick was is node (inl member) apart = was
  pick was is node (inr unmet) (inl apart) = was
  pick was is node (inr unmet) (inr beside) = is

  abbrev mixed : AllRegisters → AllRegisters → AllRegisters
  mixed was is node =
      pick (was node) (is node) node (member_or_unmet topology devices node) (decide node)

  pick-member : (was is : Registers) (node : ℕ) → IsMember topology devices node
      → (m : IsMember topology devices node ⊎ IsUnmet topology devices node)
      → (d : Apart node ⊎ (¬ Apart node)) → pick was is node m d ≡ was
  pick-member was is node member (inl also) d = refl
  pick-member was is node member (inr unmet) d = absurd (unmet member.0 member.1 member.2)

  pick-was : (was is : Registers) (node : ℕ)
      → IsMember topology devices node ⊎ Apart node
      → (m : IsMember topology devices node ⊎ IsUnmet topology devices node)
      → (d : Apart node ⊎ (¬ Apart node)) → pick was is node m d ≡ was
  pick-was was is node (inl member) m d = pick-member was is node member m d
  pick-was was is node (inr apart) (inl member) d = refl
  pick-was was is node (inr apart) (inr unmet) (inl also) = refl
  pick-was was is node (inr apart) (inr unmet) (inr beside) = absurd (beside apart)

  pick-unmet : (node : ℕ) → IsUnmet topology devices node
      → (m : IsMember topology devices node ⊎ IsUnmet topology devices node)
      → (d : Apart node ⊎ (¬ Apart node))
      → pick (seen node) (new node) node m d ≡ pick (before node) (new node) node m d
  pick-unmet node unmet (inl member) d = absurd (unmet member.0 member.1 member.2)
  pick-unmet node unmet (inr none) (inl apart) = underway.others node unmet
  pick-unmet node unmet (inr none) (inr beside) = refl

  pick-untagged : (node : ℕ) → node < topology.nodes
      → (m : IsMember topology devices node ⊎ IsUnmet topology devices node)
      → (d : Apart node ⊎ (¬ Apart node))
      → (pick (before node) (new node) node m d).lock ≡ host_id
      → (pick (before node) (new node) node m d).tag ≡ 0
  pick-untagged node inside (inl member) d own = underway.untagged node inside own
  pick-untagged node inside (inr unmet) (inl apart) own = underway.untagged node inside own
  pick-untagged node inside (inr unmet) (inr beside) own =
      let same = own_stays node beside own ∙ underway.others node unmet in
      ap (λ (d : Registers). d.tag) same
      ∙ underway.untagged node inside (ap (λ (d : Registers). d.lock) (sym same) ∙ own)

  pub underway-stays : IsUnderway topology (mixed before new) (mixed seen new) host_id devices
      next bound
  underway-stays =
      underway-elsewhere topology before seen host_id next devices bound underway
      (mixed before new) (mixed seen new)
      (ap (λ (d : Registers). d.base_id)
      (pick-was (before topology.host) (new topology.host) topology.host hosted
      (member_or_unmet topology devices topology.host) (decide topology.host)) ∙ underway.id)
      (λ member node listed leads. (
        pick-member (before node) (new node) node (member, listed, leads)
            (member_or_unmet topology devices node) (decide node),
        pick-member (seen node) (new node) node (member, listed, leads)
            (member_or_unmet topology devices node) (decide node),
      ))
      (λ node unmet. pick-unmet node unmet (member_or_unmet topology devices node) (decide node))
      (λ node inside own.
      pick-untagged node inside (member_or_unmet topology devices node) (decide node) own)

  pub mixed_is : (node : ℕ) → ¬ Apart node → mixed seen new node ≡ new node
  mixed_is node beside = go (member_or_unmet topology devices node) (decide node)
    where
      go : (m : IsMember topology devices node ⊎ IsUnmet topology devices node)
          → (d : Apart node ⊎ (¬ Apart node)) → pick (seen node) (new node) node m d ≡ new node
      go (inl member) d = sym (met_stays node member)
      go (inr unmet) (inl apart) = absurd (beside apart)
      go (inr unmet) (inr none) = refl

pub at_path_or_not : (w : Walker) (node : ℕ) → IsAtPath w node ⊎ (¬ IsAtPath w node)
at_path_or_not w node = go (node_at w.view w.path)
  where
    go : (o : Option ℕ) → (o ≡ Some node) ⊎ (o ≢ Some node)
    go None = inr (λ same. absurd (cc))
    go (Some n) = at (cases_eq n node)
      where
        at : (n ≡ node) ⊎ (n ≢ node) → (Some n ≡ Some node) ⊎ (Some n ≢ Some node)
        at (inl same) = inl (ap (λ k. Some k) same)
        at (inr other) = inr (λ same. other (cc))

apart_or_not : (w : Walker) (stage : Stage) (node : ℕ)
    → IsApart w stage node ⊎ (¬ IsApart w stage node)
apart_or_not w Ask node = inr (λ a. a)
apart_or_not w Claim node = inr (λ a. a)
apart_or_not w Check node = at_path_or_not w node
apart_or_not w Test node = inr (λ a. a)
apart_or_not w Features node = at_path_or_not w node
apart_or_not w Information node = at_path_or_not w node
apart_or_not w Status node = inr (λ a. a)
apart_or_not w Free node = inr (λ a. a)
apart_or_not w Done node = inr (λ a. a)
apart_or_not w Lost node = inr (λ a. a)

abbrev pub with_lock : ℕ → Registers → Registers
with_lock id device = record device { lock = id }

-- The other has a turn: the walker is as far as before.
pub theirs_on_way : (w o after : Walker) (old new : AllRegisters) → IsTurn o after old new
    → IsMine o old → IsMine w old → o.id ≢ w.id → w.id < 0xff → IsOnWay w old → IsOnWay w new
theirs_on_way w o after old new turn theirs mine differ fits way = record {
  before = _;
  seen = _;
  underway = underway-stays w.view way.before way.seen w.id w.next w.devices (bound_at w w.stage)
      way.underway (performed w.view new w.todo) (IsApart w w.stage) (apart_or_not w w.stage)
      way.new met_stays own_stays way.hosted;
  seen_is = mixed_is w.view way.before way.seen w.id w.next w.devices (bound_at w w.stage)
      way.underway (performed w.view new w.todo) (IsApart w w.stage) (apart_or_not w w.stage)
      way.new met_stays own_stays way.hosted;
  new = way.new;
  hosted = way.hosted;
  fresh = claimed w.stage refl _ was (λ node apart inside.
      kept_fresh node (at_path w.stage node apart) inside) way.fresh;
}
  where
    keeps_member : (node : ℕ) → IsMember w.view w.devices node → Keeps w node
    keeps_member node member = (
      member.0.path,
      Contains-append_left (paths_of w.devices) (fresh w.stage w.path) member.0.path
          (path_listed w.devices member.0 member.1),
      member.2,
    )

    same : (node : ℕ) → new node ≡ old node
        → performed w.view new w.todo node ≡ performed w.view old w.todo node
    same = performed-agree w.view (kept w) w.todo old new mine.own
        (λ node keeps. kept_stays o after w old new turn theirs mine differ fits node keeps)

    met_stays : (node : ℕ) → IsMember w.view w.devices node
        → performed w.view new w.todo node ≡ way.seen node
    met_stays node member =
        same node (kept_stays o after w old new turn theirs mine differ fits node
        (keeps_member node member))
        ∙ sym (way.seen_is node
        (λ apart. way.new node apart member.0 member.1 member.2))

    own_stays : (node : ℕ) → ¬ IsApart w w.stage node
        → (performed w.view new w.todo node).lock ≡ w.id
        → performed w.view new w.todo node ≡ way.seen node
    own_stays node beside own =
        same node (go (leads_or_not w.view (kept w) node)) ∙ sym (way.seen_is node beside)
      where
        go : Leads w.view (kept w) node ⊎ (¬ Leads w.view (kept w) node) → new node ≡ old node
        go (inl keeps) = kept_stays o after w old new turn theirs mine differ fits node keeps
        go (inr none) =
            unchanged o after old new turn theirs w.id differ fits node
            (ap (λ (d : Registers). d.lock)
            (sym (performed-beside w.view (kept w) w.todo new mine.own node none)) ∙ own)

    -- of a device that is apart, what it was is as before
    was : (node : ℕ) → IsApart w w.stage node
        → mixed w.view way.before way.seen w.id w.next w.devices (bound_at w w.stage)
        way.underway (performed w.view new w.todo) (IsApart w w.stage) (apart_or_not w w.stage)
        way.new met_stays own_stays way.hosted way.before (performed w.view new w.todo) node
        ≡ way.before node
    was node apart =
        pick-was w.view way.before way.seen w.id w.next w.devices (bound_at w w.stage)
        way.underway (performed w.view new w.todo) (IsApart w w.stage) (apart_or_not w w.stage)
        way.new met_stays own_stays way.hosted (way.before node)
        (performed w.view new w.todo node) node (inr apart)
        (member_or_unmet w.view w.devices node) (apart_or_not w w.stage node)

    claimed : (stage : Stage) → w.stage ≡ stage → (mix : AllRegisters)
        → ((node : ℕ) → IsApart w stage node → mix node ≡ way.before node)
        → ((node : ℕ) → IsApart w stage node → Contains (fresh stage w.path) w.path
        → new node ≡ old node)
        → IsFresh w way.before old stage → IsFresh w mix new stage
    claimed Ask is mix was stays so = tt
    claimed Claim is mix was stays so = tt
    claimed Check is mix was stays so = λ node at held.
        let same = unchanged o after old new turn theirs w.id differ fits node held in
        let told = so node at (ap (λ (d : Registers). d.lock) (sym same) ∙ held) in (
          subst (λ d. IsTakable w.id d) (sym (was node at)) told.0,
          same ∙ (told.1 ∙ ap (with_lock w.id) (sym (was node at))),
        )
    claimed Test is mix was stays so = tt
    claimed Features is mix was stays so = λ node at. (
      subst (λ d. IsTakable w.id d) (sym (was node at)) (so node at).0,
      same node (stays node at (Contains-first w.path []))
          ∙ ((so node at).1 ∙ ap (λ d. taken_as w.path w.id (length w.devices + 1) d)
          (sym (was node at))),
    )
    claimed Information is mix was stays so = λ node at. (
      subst (λ d. IsTakable w.id d) (sym (was node at)) (so node at).0,
      same node (stays node at (Contains-first w.path []))
          ∙ ((so node at).1 ∙ ap (λ d. taken_as w.path w.id (length w.devices + 1) d)
          (sym (was node at))),
    )
    claimed Status is mix was stays so = tt
    claimed Free is mix was stays so = tt
    claimed Done is mix was stays so = tt
    claimed Lost is mix was stays so = tt

    kept_fresh : (node : ℕ) → IsAtPath w node → Contains (fresh w.stage w.path) w.path
        → new node ≡ old node
    kept_fresh node at inside =
        kept_stays o after w old new turn theirs mine differ fits node (
          w.path,
          Contains-append_right (paths_of w.devices) (fresh w.stage w.path) w.path inside,
          at,
        )

    at_path : (stage : Stage) (node : ℕ) → IsApart w stage node → IsAtPath w node
    at_path Ask node apart = absurd apart
    at_path Claim node apart = absurd apart
    at_path Check node apart = apart
    at_path Test node apart = absurd apart
    at_path Features node apart = apart
    at_path Information node apart = apart
    at_path Status node apart = absurd apart
    at_path Free node apart = absurd apart
    at_path Done node apart = absurd apart
    at_path Lost node apart = absurd apart

-- The walker makes a write that is left: it is as far as before, too.
pub write_on_way : (w : Walker) (p : PendingWrite) (rest : List PendingWrite) (old : AllRegisters)
    (at : PortRef)
    → IsMine (record w { todo = p ∷ rest }) old → entered w.view p.path ≡ Some at
    → IsOnWay (record w { todo = p ∷ rest }) old
    → IsOnWay (record w { todo = rest }) (after_access old at (Write p.offset p.value))
write_on_way w p rest old at mine enters way = record {
  before = way.before;
  seen = way.seen;
  underway = underway w.stage way.underway;
  seen_is = λ node beside.
      way.seen_is node (beside_too w.stage node beside)
      ∙ ap (λ o. performed w.view (one_performed old p o) rest node) enters;
  new = λ node apart. way.new node (apart_too w.stage node apart);
  hosted = hosted w.stage way.hosted;
  fresh = fresh_on w.stage mine.knows way.fresh;
}
  where
    underway : (stage : Stage)
        → IsUnderway w.view way.before way.seen w.id w.devices w.next
        (bound_at (record w { todo = p ∷ rest }) stage)
        → IsUnderway w.view way.before way.seen w.id w.devices w.next
        (bound_at (record w { todo = rest }) stage)
    underway Ask u = u
    underway Claim u = u
    underway Check u = u
    underway Test u = u
    underway Features u = u
    underway Information u = u
    underway Status u = u
    underway Free u = u
    underway Done u = u
    underway Lost u = u

    apart_too : (stage : Stage) (node : ℕ) → IsApart (record w { todo = rest }) stage node
        → IsApart (record w { todo = p ∷ rest }) stage node
    apart_too Ask node a = a
    apart_too Claim node a = a
    apart_too Check node a = a
    apart_too Test node a = a
    apart_too Features node a = a
    apart_too Information node a = a
    apart_too Status node a = a
    apart_too Free node a = a
    apart_too Done node a = a
    apart_too Lost node a = a

    apart_back : (stage : Stage) (node : ℕ) → IsApart (record w { todo = p ∷ rest }) stage node
        → IsApart (record w { todo = rest }) stage node
    apart_back Ask node a = a
    apart_back Claim node a = a
    apart_back Check node a = a
    apart_back Test node a = a
    apart_back Features node a = a
    apart_back Information node a = a
    apart_back Status node a = a
    apart_back Free node a = a
    apart_back Done node a = a
    apart_back Lost node a = a

    beside_too : (stage : Stage) (node : ℕ) → ¬ IsApart (record w { todo = rest }) stage node
        → ¬ IsApart (record w { todo = p ∷ rest }) stage node
    beside_too stage node beside apart = beside (apart_back stage node apart)

    hosted : (stage : Stage)
        → IsMember w.view w.devices w.view.host
        ⊎ IsApart (record w { todo = p ∷ rest }) stage w.view.host
        → IsMember w.view w.devices w.view.host
        ⊎ IsApart (record w { todo = rest }) stage w.view.host
    hosted stage (inl member) = inl member
    hosted stage (inr apart) = inr (apart_back stage w.view.host apart)

    fresh_on : (stage : Stage) → Knows (record w { todo = p ∷ rest }) old stage
        → IsFresh (record w { todo = p ∷ rest }) way.before old stage
        → IsFresh (record w { todo = rest }) way.before
        (after_access old at (Write p.offset p.value)) stage
    fresh_on Ask known so = tt
    fresh_on Claim known so = tt
    fresh_on Check known so = absurd (some_left p rest known.0)
    fresh_on Test known so = tt
    fresh_on Features known so = λ node leads. (
      (so node leads).0,
      ap (λ o. performed w.view (one_performed old p o) rest node) (sym enters)
          ∙ (so node leads).1,
    )
    fresh_on Information known so = absurd (some_left p rest known.0)
    fresh_on Status known so = tt
    fresh_on Free known so = tt
    fresh_on Done known so = tt
    fresh_on Lost known so = tt
