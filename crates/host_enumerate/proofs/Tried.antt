-- What is known of a path that is tried, for the call that tries it.
use Rattle.host_enumerate.proofs.Prelude.{◌≡◌, ◌≢◌, ℕ, ◌<◌, ◌≤◌, inl, List, [], ◌∷◌, ◌++◌, length, Option, Some, refl, sym, ap, subst, ◌∙◌, PortRef, Registers, Kind, Device, Topology, entered, onward, AllRegisters, Fits, IsOpened, IsForeign, IsNext, paths_of, IsMet, Ghosts, Numbering, IsAskable, IsApart, PassesOnce, AreSame, Becomes, IsTakable, IsHolder, met_as, IsUnderway, IsNumbering, IsTakenIn, IsTried, EndsAtLock}
use Rattle.host_enumerate.specs.declared.taking.Holder.{Holder}
use Rattle.host_enumerate.specs.declared.taking.Holder.TheVariants.{Taken, Met, Other}
use Rattle.host_enumerate.proofs.Opening.{opened-same}
use Rattle.host_enumerate.proofs.Entries.{askable-written}
use Rattle.host_enumerate.proofs.Meeting.{met-tagged, ends_at_lock}
use Rattle.host_enumerate.proofs.Keeping.{underway-same}
use Rattle.host_enumerate.proofs.Trying.{unmet_takable, apart_unmet, passes_once, few_met, next_few, tried}

-- What holds of devices and links, and for an ID of the host, holds as both stay.
module _ {topology later : Topology} {host_id other : ℕ} (is : later ≡ topology)
    (same : other ≡ host_id) where
  pub still_underway : {before now : AllRegisters} {next : ℕ} {devices : List Device}
      {bound : List ℕ} → IsUnderway topology before now host_id devices next bound
      → IsUnderway later before now other devices next bound
  still_underway {before} {now} {next} {devices} {bound} underway =
      subst (λ t. IsUnderway t before now other devices next bound) (sym is)
      (subst (λ n. IsUnderway topology before now n devices next bound) (sym same) underway)

  pub still_opened : {now : AllRegisters} {path : List ℕ} → IsOpened topology now host_id path
      → IsOpened later now other path
  still_opened {now} {path} opened =
      subst (λ t. IsOpened t now other path) (sym is)
      (subst (λ n. IsOpened topology now n path) (sym same) opened)

-- A path was tried.
pub record PathTried {S : Type 0} (m : Ghosts S) (old now : S) (numbering later : Numbering)
    (path : List ℕ) (kind : Option Kind) : Type 0 where
  pub topology : m.topology now ≡ m.topology old
  pub tried : (before : AllRegisters) → IsNumbering m old numbering path before
      → IsTried m now numbering later path before kind
  pub opened : IsOpened (m.topology now) (m.registers now) later.host_id path

module _ {topology : Topology} {now : AllRegisters} {host_id next : ℕ} {devices : List Device}
    {path : List ℕ} {at : PortRef}
    (some : (before : AllRegisters) × IsUnderway topology before now host_id devices next path)
    (is_next : IsNext (paths_of devices) path)
    (askable : IsAskable topology now host_id path at) where
  pub apart_takable : IsTakable host_id (now at.node) → IsApart topology path at.node
  apart_takable takable =
      apart_unmet some.1 is_next askable (unmet_takable some.1 is_next askable takable)

  pub apart_free : (now at.node).lock ≡ 0xffff → IsApart topology path at.node
  apart_free free = apart_takable (inl free)

  pub is_few : (path ≡ [] → next ≡ 0) → next < 254
  is_few begins = next_few some.1 is_next askable begins

  pub has_room : length devices ≤ 64
  has_room = few_met some.1 is_next askable

  pub once_now : (later : Topology) → later ≡ topology → PassesOnce later path
  once_now later is = subst (λ t. PassesOnce t path) (sym is)
      (passes_once some.1 is_next askable)

  module _ {later : Topology} (is_later : later ≡ topology) (locked : AllRegisters)
      {holder : Holder} (is : holder ≡ Taken)
      (held : IsHolder host_id now locked at.node holder) where
    taken : IsTakable host_id (now at.node)
        × Becomes now locked at.node (record (now at.node) { lock = host_id })
    taken = subst (λ h. IsHolder host_id now locked at.node h) is held

    pub locked_askable : IsAskable later locked host_id path at × IsApart later path at.node
    locked_askable = (
      subst (λ t. IsAskable t locked host_id path at) (sym is_later)
          (askable-written locked
          (record (now at.node) { lock = host_id }) askable taken.1 (apart_takable taken.0)
          (λ _. refl)),
      subst (λ t. IsApart t path at.node) (sym is_later) (apart_takable taken.0),
    )

    module _ (fits : Fits topology now) (begins : path ≡ [] → next ≡ 0) (after : AllRegisters)
        (next_after : ℕ) {devices_after : List Device} (kind : Kind)
        (longer : devices_after ≡ devices ++ met_as devices kind path ∷ [])
        (left : (at : PortRef) → entered later path ≡ Some at
        → IsTakenIn later host_id devices next next_after locked after path at kind) where
      left_now : IsTakenIn topology host_id devices next next_after locked after path at kind
      left_now = subst (λ t. IsTakenIn t host_id devices next next_after locked after path at kind)
          is_later (left at (ap (λ t. entered t path) is_later ∙ askable.leads))

      pub taken_on : (before : AllRegisters)
          → IsUnderway topology before now host_id devices next path
          → IsUnderway topology before after host_id devices_after next_after (onward path 0)
          × IsOpened topology after host_id path
      taken_on before underway =
          let done = tried underway is_next askable locked left_now.0 after next_after kind fits
          taken.0 begins taken.1 left_now.1 left_now.2 in (
            subst (λ l. IsUnderway topology before after host_id l next_after (onward path 0))
                (sym longer) done.0,
            done.1,
          )

  -- the device was met
  module _ (after : AllRegisters) {holder : Holder} (is : holder ≡ Met)
      (held : IsHolder host_id now after at.node holder) where
    met : ((now at.node).lock ≡ host_id) × ((now at.node).tag ≢ 0) × AreSame now after
    met = subst (λ h. IsHolder host_id now after at.node h) is held

    module _ {later : Topology} (is_later : later ≡ topology) where
      pub met_on : (before : AllRegisters)
          → IsUnderway topology before now host_id devices next path
          → IsUnderway later before after host_id devices next path
          × IsMet later (paths_of devices) path
      met_on before underway = (
        still_underway is_later refl
            (underway-same topology before now host_id next devices path underway after met.2),
        subst (λ t. IsMet t (paths_of devices) path) (sym is_later)
            (met-tagged topology before now host_id next devices path underway at askable.leads
            met.0 met.1),
      )

      pub met_opened : IsOpened later after host_id path
      met_opened = still_opened is_later refl (opened-same after askable.opened met.2)

  -- another host holds it
  pub other_ends : (after : AllRegisters) {holder : Holder} {id : ℕ} → holder ≡ Other id
      → IsHolder host_id now after at.node holder → (before : AllRegisters)
      → IsUnderway topology before now host_id devices next path
      → EndsAtLock topology before after path id
  other_ends after {holder} {id} is held before underway =
      let found = fact in
      subst (λ n. EndsAtLock topology before after path n)
      (ap (λ (d : Registers). d.lock) (found.2 at.node) ∙ found.0)
      (ends_at_lock topology before after host_id next devices path
      (underway-same topology before now host_id next devices path underway after found.2) at
      is_next askable.leads
      (subst (λ n. IsForeign host_id n)
      (sym (ap (λ (d : Registers). d.lock) (found.2 at.node) ∙ found.0)) found.1))
    where
      fact : ((now at.node).lock ≡ id) × IsForeign host_id id × AreSame now after
      fact = subst (λ h. IsHolder host_id now after at.node h) is held
