-- The ports of a switch are tried one after another.
use Rattle.host_enumerate.proofs.Prelude.{◌≡◌, ℕ, ◌+◌, ◌⊎◌, inl, inr, List, [], ◌∷◌, Contains, sym, ap, subst, ◌∙◌, Device, Topology, entered, onward, AllRegisters, IsOpened, paths_of, Found, IsUnderway, IsFound}
use Rattle.fabric_map.proofs.Walks.{last_port}
use Rattle.host_enumerate.proofs.Routing.{opened-front}
use Rattle.host_enumerate.proofs.Stepping.{followed-ports, underway-entry, underway-closed}
use Rattle.host_enumerate.proofs.Looking.{apart_from_host, still_found}

-- past the port of entry
pub entry_passed : {topology : Topology} {before now : AllRegisters} {host_id next port : ℕ}
    {devices : List Device} {switch : Found} → IsFound topology now host_id devices switch
    → port ≡ switch.entry
    → IsUnderway topology before now host_id devices next (onward switch.path port)
    → IsUnderway topology before now host_id devices next (onward switch.path (port + 1))
entry_passed {topology} {before} {now} {host_id} {next} {port} {devices} {switch} found is
    underway =
    go (last_port switch.path)
  where
    by_port : port ≡ found.at.port
    by_port = is ∙ found.entry

    go : (switch.path ≡ []) ⊎ ((front : List ℕ) × (last : ℕ) × (switch.path ≡ onward front last))
        → IsUnderway topology before now host_id devices next (onward switch.path (port + 1))
    go (inl empty) = absurd (found.away empty)
    go (inr (front, last, whole)) =
        subst (λ l. IsUnderway topology before now host_id devices next (onward l (port + 1)))
        (sym whole)
        (subst (λ n. IsUnderway topology before now host_id devices next
        (onward (onward front last) (n + 1))) (sym by_port)
        (underway-entry topology before now host_id next devices front found.at last
        (subst (λ n. IsUnderway topology before now host_id devices next
        (onward (onward front last) n)) by_port
        (subst (λ l. IsUnderway topology before now host_id devices next (onward l port)) whole
        underway))
        (subst (λ l. Contains (paths_of devices) l) whole found.listed)
        (ap (λ l. entered topology l) (sym whole) ∙ found.leads)))

-- A switch was found behind a port of another one, and its ports were tried.
module _ {topology later : Topology} {now after : AllRegisters} {host_id other : ℕ}
    {devices longer : List Device} {switch child : Found} (port : ℕ) (is : later ≡ topology)
    (found : IsFound topology now host_id devices switch)
    (is_child : child.path ≡ onward switch.path port)
    (child_after : IsFound later after other longer child) where
  pub underway_back : {before : AllRegisters} {next : ℕ}
      → IsUnderway later before after other longer next (onward child.path child.ports)
      → IsUnderway later before after other longer next (onward switch.path (port + 1))
  underway_back {before} {next} went =
      underway-closed later before after other next longer switch.path child_after.at port
      child.ports
      (subst (λ l. IsUnderway later before after other longer next (onward l child.ports))
      is_child went) (ap (λ l. entered later l) (sym is_child) ∙ child_after.leads)
      (followed-ports later child_after.at.node child.ports
      (apart_from_host later child_after.at.node child.ports went.proper.host_is_endpoint
      child_after.switch) child_after.switch)

  pub found_back : {before : AllRegisters} {next : ℕ}
      → IsUnderway later before after other longer next (onward child.path child.ports)
      → IsFound later after other longer switch
  found_back went =
      still_found is found (opened-front later after other switch.path (port ∷ [])
      (subst (λ l. IsOpened later after other l) is_child child_after.opened))
      (went.walked.fronts switch.path port
      (subst (λ l. Contains (paths_of longer) l) is_child child_after.listed))
