-- Which locked device a walk meets first.
use Rattle.std.specs.Prelude.{◌≡◌, ◌≢◌, ℕ, ◌⊎◌, List, [], Contains, Some}
use Rattle.fabric_map.specs.Topology.{Topology, node_at}
use Rattle.fabric_map.specs.Walked.{onward, Walked}
use Rattle.fabric_map.specs.Routes.{AllRegisters}

-- the lock is that of another host
abbrev pub IsForeign : ℕ → ℕ → Type 0
IsForeign host_id lock = (lock ≢ 0xffff) × (lock ≢ host_id)

-- a path that may be tried after these: the host's own, or one of them and one port more
abbrev pub IsNext : List (List ℕ) → List ℕ → Type 0
IsNext paths path = (path ≡ []) ⊎ ((front : List ℕ) × (port : ℕ) × Contains paths front ×
    (path ≡ onward front port))

-- The device on this path is the first that the walk of a host meets with the lock of another host,
-- which is this ID. No device that is met before has such a lock.
pub record IsFirstLocked (topology : Topology) (registers : AllRegisters) (path : List ℕ)
    (id : ℕ) : Type 0 where
  pub paths : List (List ℕ)
  pub walked : Walked topology paths path
  pub next : IsNext paths path
  pub node : ℕ
  pub leads : node_at topology path ≡ Some node
  pub lock : (registers node).lock ≡ id
  pub foreign : IsForeign (registers topology.host).base_id id
  pub none_before : (met : List ℕ) (node : ℕ) → Contains paths met
      → node_at topology met ≡ Some node
      → ¬ IsForeign (registers topology.host).base_id (registers node).lock
