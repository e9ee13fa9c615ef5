-- The first lock of another host that a host meets which walks alone ends its walk.
use Rattle.contest_machine.proofs.Prelude.{◌≡◌, ◌≢◌, ℕ, List, [], ◌∷◌, ◌++◌, Some, same_Some, Contains, ◌⊎◌, inl, inr, subst, sym, refl, ap, ◌∙◌, append-nil, Registers, Topology, IsReached, node_at, node_at-entered, Walked, begins, AllRegisters, paths_of, IsForeign, IsNext, Stage, Ask, Check, Walker, State, fresh, kept, Keeps, IsMine, HoldsOn}
use Rattle.fabric_map.specs.Numbered.{ChangesOnly}
use Rattle.host_enumerate.specs.Ends.{EndsAtLock}
use Rattle.contest_machine.specs.AloneWalks.{accesses_on, BeginsAlone, AloneMeetsLocks}
use Rattle.contest_machine.proofs.Numbering.OnWay.{bound_at}
use Rattle.contest_machine.proofs.Numbering.Along.{IsHere, IsHereAt, front_of, port_of, here_is}
use Rattle.contest_machine.proofs.Numbering.Moving.{front_listed}
use Rattle.contest_machine.proofs.Numbering.Coming.{IsOver, IsComing}
use Rattle.contest_machine.proofs.Walking.Reads.{IsLockRead, lock_is_read}
use Rattle.contest_machine.proofs.Walking.Beside.{idler, view_on, id_on, outside_on, inside_on}
use Rattle.contest_machine.proofs.Walking.Onward.{StandsAlone, locks_till, stands_on}

-- the path is next behind those of the list
pub record IsNextBehind (w : Walker) : Type 0 where
  pub walked : Walked w.view (paths_of w.devices) w.path
  pub next : IsNext (paths_of w.devices) w.path

module _ (w : Walker) (now : AllRegisters) where
  here_at : (stage : Stage) → (stage ≡ Ask) ⊎ (stage ≡ Check) → IsHereAt w stage
      → IsHere w.path w.tried
  here_at stage (inl is) = subst (λ s. IsHereAt w s → IsHere w.path w.tried) (sym is) (λ h. h)
  here_at stage (inr is) = subst (λ s. IsHereAt w s → IsHere w.path w.tried) (sym is) (λ h. h)

  bound_is : (stage : Stage) → (stage ≡ Ask) ⊎ (stage ≡ Check) → bound_at w stage ≡ w.path
  bound_is stage (inl is) = ap (bound_at w) is
  bound_is stage (inr is) = ap (bound_at w) is

  not_over : (stage : Stage) → (stage ≡ Ask) ⊎ (stage ≡ Check) → ¬ IsOver stage
  not_over stage (inl is) over = subst IsOver is over
  not_over stage (inr is) over = subst IsOver is over

  next_behind : (w.stage ≡ Ask) ⊎ (w.stage ≡ Check) → IsComing w now → IsNextBehind w
  next_behind asks (inl over) = absurd (not_over w.stage asks over)
  next_behind asks (inr (inl starting)) =
      subst IsNextBehind (sym starting.is) (record {
        walked = begins w.view;
        next = inl refl;
      })
  next_behind asks (inr (inr along)) = record {
    walked = walked;
    next = inr (
      front_of w.tried,
      port_of w.tried,
      front_listed w.view w.devices w.path w.tried along.chained walked here,
      here_is w.path w.tried here,
    );
  }
    where
      here : IsHere w.path w.tried
      here = here_at w.stage asks along.here

      walked : Walked w.view (paths_of w.devices) w.path
      walked = subst (Walked w.view (paths_of w.devices)) (bound_is w.stage asks)
          along.way.underway.walked

module _ (state : State) (alone : BeginsAlone state) (n lock : ℕ)
    (foreign : IsForeign (accesses_on state n).walker.id lock)
    (read : IsLockRead (accesses_on state n) lock) where
  abbrev last : State
  last = accesses_on state n

  abbrev w : Walker
  w = last.walker

  abbrev view : Topology
  view = w.view

  stands : StandsAlone state.registers (idler state) (locks_till state n) last
  stands = stands_on state alone n

  mine : IsMine w last.registers
  mine = stands.sound.fair.contest.first

  behind : IsNextBehind w
  behind = next_behind w last.registers read.stage stands.sound.coming

  own_is : (state.registers view.host).base_id ≡ w.id
  own_is = ap (λ (v : Topology). (state.registers v.host).base_id) (view_on state alone n)
      ∙ (alone.id ∙ sym (id_on state alone n))

  holds : HoldsOn w.stage
  holds = go w.stage read.stage
    where
      go : (stage : Stage) → (stage ≡ Ask) ⊎ (stage ≡ Check) → HoldsOn stage
      go stage (inl is) = subst HoldsOn (sym is) tt
      go stage (inr is) = subst HoldsOn (sym is) tt

  kept_is : kept w ≡ paths_of w.devices
  kept_is = go w.stage read.stage ∙ append-nil (paths_of w.devices)
    where
      go : (stage : Stage) → (stage ≡ Ask) ⊎ (stage ≡ Check)
          → paths_of w.devices ++ fresh stage w.path ≡ paths_of w.devices ++ []
      go stage (inl is) = ap (λ s. paths_of w.devices ++ fresh s w.path) is
      go stage (inr is) = ap (λ s. paths_of w.devices ++ fresh s w.path) is

  leads : node_at view w.path ≡ Some read.at.node
  leads = node_at-entered view w.path read.at read.enters

  met_kept : (met : List ℕ) (node : ℕ) → Contains (paths_of w.devices) met
      → node_at view met ≡ Some node → Keeps w node
  met_kept met node listed at =
      (met, subst (λ l. Contains l met) (sym kept_is) listed, at)

  -- what was not met is as at first: a claim that was just made leaves its ID
  unmet : (node : ℕ)
      → ((met : List ℕ) → Contains (paths_of w.devices) met → node_at view met ≢ Some node)
      → last.registers node ≡ state.registers node
  unmet node none =
      stands.unkept holds node
      (λ keeps. none keeps.0 (subst (λ l. Contains l keeps.0) kept_is keeps.1) keeps.2)
      (λ claimed. foreign.1 (sym read.is ∙ (ap (λ n. (last.registers n).lock)
      (same_Some read.at.node node (sym leads ∙ claimed.1)) ∙ claimed.2)))

  not_met : (met : List ℕ) → Contains (paths_of w.devices) met
      → node_at view met ≢ Some read.at.node
  not_met met listed at =
      foreign.1 (sym read.is ∙ mine.locks read.at.node (met_kept met read.at.node listed at))

  ends_at : EndsAtLock view state.registers last.registers w.path lock
  ends_at = record {
    first = record {
      paths = paths_of w.devices;
      walked = behind.walked;
      next = behind.next;
      node = read.at.node;
      leads = leads;
      lock = ap (λ (d : Registers). d.lock) (sym (unmet read.at.node not_met)) ∙ read.is;
      foreign = subst (λ i. IsForeign i lock) (sym own_is) foreign;
      none_before = λ met node listed at other.
          let theirs = subst (λ i. IsForeign i (state.registers node).lock) own_is other in
          theirs.1 (sym (stands.foreign node theirs)
          ∙ mine.locks node (met_kept met node listed at));
    };
    kept = λ met node listed at.
        mine.locks node (met_kept met node listed at) ∙ sym own_is;
    unmet_stay = unmet;
    outside = λ node apart.
        outside_on state alone n node
        (subst (λ v. ¬ IsReached v node) (view_on state alone n) apart);
    inside = λ node reached.
        subst (λ i. ChangesOnly (i ∷ []) (state.registers node) (last.registers node))
        (sym (own_is ∙ id_on state alone n)) (inside_on state alone n node);
  }

pub alone_meets_locks : AloneMeetsLocks
alone_meets_locks state n lock begins meets =
    subst (λ v. EndsAtLock v state.registers (accesses_on state n).registers
    (accesses_on state n).walker.path lock) (view_on state begins n)
    (ends_at state begins n lock meets.1 (lock_is_read (accesses_on state n) lock meets.0))
