-- A walker claims a device, and keeps it where the claim was won.
use Rattle.contest_machine.proofs.Prelude.{◌≡◌, ◌≢◌, ℕ, ◌+◌, ◌%◌, ◌<◌, List, [], ◌∷◌, ◌++◌, length, Some, ◌⊎◌, inl, inr, subst, sym, refl, ap, ◌∙◌, unwrap_or, cases_eq, Contains-append_left, PortRef, Registers, locked, tag-written, entered, node_at, AllRegisters, paths_of, path_listed, node_at-entered, Write, registers_with, after_access, IsTakable, IsUnmet, IsUnderway, with_device-at, with_device-other, IsMember, PendingWrite, Stage, Claim, Check, Walker, own_id, write, taken, Keeps, IsAtPath, IsMine}
use Rattle.contest_machine.proofs.Numbering.OnWay.{performed, taken_as, IsOnWay}
use Rattle.contest_machine.proofs.Keeping.Stepped.{at_stage, one_node}
use Rattle.contest_machine.proofs.Keeping.Reading.{lock_left, locked-free, locked-other}
use Rattle.contest_machine.proofs.Numbering.OnWays.{with_lock}
use Rattle.contest_machine.proofs.Numbering.Settling.{device_after, performed-one}

module _ (w : Walker) (old : AllRegisters) (fits : w.id < 0xff) (at : PortRef)
    (enters : entered w.view w.path ≡ Some at) where
  leads_here : node_at w.view w.path ≡ Some at.node
  leads_here = node_at-entered w.view w.path at enters

  not_member : (stage : Stage) → ((node : ℕ) → IsMember w.view w.devices node
      → Keeps (at_stage w stage) node) → IsMine (at_stage w stage) old
      → (old at.node).lock ≢ w.id → IsUnmet w.view w.devices at.node
  not_member stage keeps mine other device listed leads =
      other (mine.locks at.node (keeps at.node (device, listed, leads)))

  -- The ID is written to a lock that was free.
  pub claim_on_way : IsMine (at_stage w Claim) old → IsOnWay (at_stage w Claim) old
      → IsOnWay (at_stage w Check) (after_access old at (Write 0x68 w.id))
  claim_on_way mine way = record {
    before = way.before;
    seen = way.seen;
    underway = way.underway;
    seen_is = λ node beside.
        way.seen_is node (λ a. a)
        ∙ sym (with_device-other old at.node node _
        (λ same. beside (leads_here ∙ ap (λ n. Some n) (sym same))));
    new = λ node leads.
        subst (IsUnmet w.view w.devices) (sym (one_node w.view w.path at node enters leads)) unmet;
    hosted = hosted way.hosted;
    fresh = λ node leads held.
        won node (one_node w.view w.path at node enters leads) held
        (cases_eq (old at.node).lock 0xffff);
  }
    where
      new : AllRegisters
      new = after_access old at (Write 0x68 w.id)

      other : (old at.node).lock ≢ w.id
      other = mine.knows.1 at.node leads_here

      unmet : IsUnmet w.view w.devices at.node
      unmet = not_member Claim (λ node member. (
        member.0.path,
        Contains-append_left (paths_of w.devices) [] member.0.path
            (path_listed w.devices member.0 member.1),
        member.2,
      )) mine other

      was : way.before at.node ≡ old at.node
      was = sym (way.underway.others at.node unmet) ∙ way.seen_is at.node (λ a. a)

      left : new at.node
          ≡ record (old at.node) { lock = locked (old at.node).lock (w.id % 0x10000) }
      left = with_device-at old at.node _ ∙ lock_left (old at.node) at.port w.id

      won : (node : ℕ) → node ≡ at.node → (new node).lock ≡ w.id
          → ((old at.node).lock ≡ 0xffff) ⊎ ((old at.node).lock ≢ 0xffff)
          → IsTakable w.id (way.before node) × (new node ≡ record (way.before node) { lock = w.id })
      won node same held (inl free) =
          let is : way.before node ≡ old at.node = ap (λ n. way.before n) same ∙ was in
          let lock = locked-free (old at.node).lock w.id free fits in
          let whole : new node ≡ with_lock w.id (old at.node) =
          ap (λ n. new n) same ∙ (left ∙ ap (λ n. with_lock n (old at.node)) lock) in (
            inl (ap (λ (d : Registers). d.lock) is ∙ free),
            whole ∙ ap (with_lock w.id) (sym is),
          )
      won node same held (inr taken) =
          absurd (other (sym (locked-other (old at.node).lock w.id taken other fits)
          ∙ (ap (λ (d : Registers). d.lock) (sym left)
          ∙ (ap (λ n. (new n).lock) (sym same) ∙ held))))

      hosted : IsMember w.view w.devices w.view.host ⊎ ⊥
          → IsMember w.view w.devices w.view.host ⊎ IsAtPath w w.view.host
      hosted (inl member) = inl member
      hosted (inr none) = absurd none

  -- A device other than the host is kept, and is given its tag next.
  pub keep_on_way : (stage : Stage) (before seen : AllRegisters) (first : ℕ) (rest : List ℕ)
      → w.path ≡ first ∷ rest
      → IsUnderway w.view before seen w.id w.devices w.next w.path
      → ((node : ℕ) → ¬ IsAtPath w node → seen node ≡ old node)
      → IsUnmet w.view w.devices at.node
      → IsMember w.view w.devices w.view.host
      → IsTakable w.id (before at.node) → old at.node ≡ with_lock w.id (before at.node)
      → IsOnWay (taken w) old
  keep_on_way stage before seen first rest whole underway seen_is unmet host takable is = record {
    before = before;
    seen = seen;
    underway = underway;
    seen_is = λ node beside.
        seen_is node beside
        ∙ sym (todo_leaves node
        ∙ with_device-other old at.node node _
        (λ same. beside (leads_here ∙ ap (λ n. Some n) (sym same))));
    new = λ node leads.
        subst (IsUnmet w.view w.devices) (sym (one_node w.view w.path at node enters leads)) unmet;
    hosted = inl host;
    fresh = λ node leads.
        let same = one_node w.view w.path at node enters leads in (
          subst (λ n. IsTakable w.id (before n)) (sym same) takable,
          ap (λ n. performed w.view old (taken w).todo n) same
              ∙ (todo_leaves at.node ∙ (with_device-at old at.node _
              ∙ (tagged ∙ (ap (λ d. with_tag (length w.devices + 1) d) is
              ∙ (marked ∙ ap (λ n. taken_as w.path w.id (length w.devices + 1) (before n))
              (sym same)))))),
        );
  }
    where
      with_tag : ℕ → Registers → Registers
      with_tag n device = record device { tag = n }

      one : List PendingWrite
      one = write w.path 0x6c (length w.devices + 1) ∷ []

      is_one : (taken w).todo ≡ one
      is_one = go w.path whole
        where
          go : (p : List ℕ) → p ≡ first ∷ rest
              → own_id w.id p ++ write w.path 0x6c (length w.devices + 1) ∷ [] ≡ one
          go [] same = absurd (cc)
          go (x ∷ p) same = refl

      todo_leaves : (node : ℕ) → performed w.view old (taken w).todo node
          ≡ registers_with old at.node (device_after (old at.node) at.port one) node
      todo_leaves node =
          ap (λ t. performed w.view old t node) is_one
          ∙ performed-one w.view w.path at one old enters (refl, tt) node

      tagged : device_after (old at.node) at.port one
          ≡ with_tag (length w.devices + 1) (old at.node)
      tagged =
          ap (λ o. unwrap_or o (old at.node))
          (tag-written (old at.node) (length w.devices + 1))

      marked : with_tag (length w.devices + 1) (with_lock w.id (before at.node))
          ≡ taken_as w.path w.id (length w.devices + 1) (before at.node)
      marked = ap (λ p. taken_as p w.id (length w.devices + 1) (before at.node)) (sym whole)

  -- the claim was won
  pub won_on_way : (first : ℕ) (rest : List ℕ) → w.path ≡ first ∷ rest
      → IsOnWay (at_stage w Check) old → (old at.node).lock ≡ w.id
      → IsMember w.view w.devices w.view.host → IsOnWay (taken w) old
  won_on_way first rest whole way held host =
      let fresh = way.fresh at.node leads_here held in
      keep_on_way Check way.before way.seen first rest whole way.underway way.seen_is
      (way.new at.node leads_here) host fresh.0 fresh.1
