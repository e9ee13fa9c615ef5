-- Which devices are met before a path is tried: depth first, ports from 0 up, said of the paths
-- alone.
use Rattle.std.specs.Prelude.{◌≡◌, ℕ, ◌<◌, ◌⊎◌, List, [], ◌∷◌, ◌++◌, IsSome, All, AllPairs, Contains}
use Rattle.fabric_map.specs.Topology.{Topology, node_at}

-- A path stands before another in the order of lists of numbers, a front of it first.
abbrev pub Before : List ℕ → List ℕ → Type 0
Before [] [] = ⊥
Before [] (y ∷ ys) = Unit {0}
Before (x ∷ xs) [] = ⊥
Before (x ∷ xs) (y ∷ ys) = (x < y) ⊎ ((x ≡ y) × Before xs ys)

-- It is the other, or stands before it.
abbrev pub IsNotAfter : List ℕ → List ℕ → Type 0
IsNotAfter first second = (first ≡ second) ⊎ Before first second

-- a path, and one port more
abbrev pub onward : List ℕ → ℕ → List ℕ
onward path port = path ++ port ∷ []

-- the device to which a path leads has one of these paths, which is this one or stands before it
pub record IsMet (topology : Topology) (paths : List (List ℕ)) (path : List ℕ) : Type 0 where
  pub met_on : List ℕ
  pub listed : Contains paths met_on
  pub same_device : node_at topology met_on ≡ node_at topology path
  pub not_after : IsNotAfter met_on path

-- These are the paths of the devices that are met before a path is tried. Each leads to a device of
-- its own, and each without its last port is one of them. They stand in order. Whatever is behind a
-- port of such a device, on a path that stands before the one to be tried, is met, and not on a
-- later path.
pub record Walked (topology : Topology) (paths : List (List ℕ)) (bound : List ℕ) : Type 0 where
  pub host_met : Before [] bound → Contains paths []
  pub leading : All (λ path. IsSome (node_at topology path)) paths
  pub fronts : (path : List ℕ) (port : ℕ) → Contains paths (onward path port) → Contains paths path
  pub once : (p q : List ℕ) → Contains paths p → Contains paths q
      → node_at topology p ≡ node_at topology q → p ≡ q
  pub ordered : AllPairs Before paths
  pub before : All (λ path. Before path bound) paths
  pub done : (path : List ℕ) (port : ℕ) → Contains paths path
      → IsSome (node_at topology (onward path port)) → Before (onward path port) bound
      → IsMet topology paths (onward path port)

-- Every path that leads to a device is empty or begins with the host's port 0, so this one stands
-- after them all.
abbrev pub after_all_paths : List ℕ
after_all_paths = 1 ∷ []
