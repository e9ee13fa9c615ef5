-- What the call that begins a walk knows.
use Rattle.host_enumerate.proofs.Prelude.{◌≡◌, ℕ, List, [], ◌∷◌, Option, Some, refl, sym, ap, subst, ◌∙◌, PortRef, port_at, Kind, Device, Topology, onward, after_all_paths, AllRegisters, IsNext, paths_of, Ghosts, Numbering, IsAskable, IsUnderway, IsNumbering, IsTried}
use Rattle.host_enumerate.proofs.Tried.{PathTried, still_underway}
use Rattle.host_enumerate.proofs.Starting.{host_askable, host_met, first_enters, first_next, first_askable, first_underway}

pub begins_here : {topology : Topology} {before now : AllRegisters} {host_id : ℕ}
    {devices : List Device} {path : List ℕ} → devices ≡ [] → path ≡ []
    → IsUnderway topology before now host_id [] 0 []
    → IsUnderway topology before now host_id devices 0 path
begins_here {topology} {before} {now} {host_id} {devices} {path} none empty underway =
    subst (λ l. IsUnderway topology before now host_id l 0 path) (sym none)
    (subst (λ p. IsUnderway topology before now host_id [] 0 p) (sym empty) underway)

pub begins_askable : {topology : Topology} {now : AllRegisters} {host_id : ℕ} {path : List ℕ}
    → path ≡ [] → (before : AllRegisters) × IsUnderway topology before now host_id [] 0 []
    → (at : PortRef) × IsAskable topology now host_id path at
begins_askable {topology} {now} {host_id} {path} empty some = (
  port_at topology.host 0,
  subst (λ p. IsAskable topology now host_id p (port_at topology.host 0)) (sym empty)
      (host_askable some.1),
)

-- The host was tried, and then its neighbour is.
pub record HostTried {S : Type 0} (m : Ghosts S) (old met : S) (none numbering : Numbering)
    (host path : List ℕ) (kind : Option Kind) : Type 0 where
  pub is_none : none.devices.items ≡ []
  pub is_first : none.next_id ≡ 0
  pub is_host : host ≡ []
  pub is_path : path ≡ onward host 0
  pub some : (before : AllRegisters)
      × IsUnderway (m.topology old) before (m.registers old) none.host_id [] 0 []
  pub tried : (before : AllRegisters) → IsNumbering m old none host before
      → IsTried m met none numbering host before kind

module _ {S : Type 0} {m : Ghosts S} {old met : S} {none numbering : Numbering}
    {host path : List ℕ} {kind : Option Kind}
    (first : HostTried m old met none numbering host path kind) where
  pub first_path : path ≡ 0 ∷ []
  first_path = first.is_path ∙ ap (λ l. onward l 0) first.is_host

  pub met_host : (before : AllRegisters)
      → IsUnderway (m.topology old) before (m.registers old) none.host_id [] 0 []
      → IsNumbering m met numbering (0 ∷ []) before
  met_host before underway =
      host_met m none numbering kind first.is_none first.is_host (first.tried before
      (subst (λ n. IsUnderway (m.topology old) before (m.registers old) none.host_id
      none.devices.items n host) (sym first.is_first)
      (begins_here first.is_none first.is_host underway)))

  pub met_here : (before : AllRegisters)
      → IsUnderway (m.topology old) before (m.registers old) none.host_id [] 0 []
      → IsNumbering m met numbering path before
  met_here before underway =
      subst (λ l. IsNumbering m met numbering l before) (sym first_path) (met_host before underway)

  pub met_some : (before : AllRegisters) × IsNumbering m met numbering (0 ∷ []) before
  met_some = (first.some.0, met_host first.some.0 first.some.1)

  pub met_next : IsNext (paths_of numbering.devices.items) path
  met_next = subst (λ l. IsNext (paths_of numbering.devices.items) l) (sym first_path)
      (first_next met_some.1)

  pub met_askable : (at : PortRef)
      × IsAskable (m.topology met) (m.registers met) numbering.host_id path at
  met_askable =
      let at = (first_enters (m.topology met) met_some.1.proper).0 in (
        at,
        subst (λ l. IsAskable (m.topology met) (m.registers met) numbering.host_id l at)
            (sym first_path) (first_askable met_some.1),
      )

  -- what is said of the path to the neighbour
  pub neighbour : {after : S} {last : Numbering} {answer : Option Kind}
      → PathTried m met after numbering last path answer
      → PathTried m met after numbering last (0 ∷ []) answer
  neighbour {after} {last} {answer} second =
      subst (λ l. PathTried m met after numbering last l answer) first_path second

  -- which is a switch, whose ports are tried next
  pub switch_underway : {after : S} {last : Numbering} {answer : Option Kind} {is_kind : Kind}
      → PathTried m met after numbering last path answer → answer ≡ Some is_kind
      → (before : AllRegisters)
      → IsUnderway (m.topology old) before (m.registers old) none.host_id [] 0 []
      → IsNumbering m after last (onward path 0) before
  switch_underway {after} {last} second is before underway =
      subst (λ l. IsNumbering m after last (onward l 0) before) (sym first_path)
      (first_underway (neighbour second) met_some is before (met_host before underway))

-- a walk that came to its end
pub walk_done : {topology : Topology} {before now : AllRegisters} {host_id other next : ℕ}
    {devices : List Device} → host_id ≡ other
    → IsUnderway topology before now other devices next after_all_paths
    → (next : ℕ) × IsUnderway topology before now host_id devices next after_all_paths
walk_done {next = next} same underway = (next, still_underway refl same underway)
