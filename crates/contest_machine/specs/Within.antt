-- How many devices a walker keeps, how long its paths are, and which ID it gives next.
use Rattle.std.specs.Prelude.{ℕ, ◌+◌, ◌≤◌, ◌<◌, List, [], ◌∷◌, length, Contains, IsSome}
use Rattle.fabric_map.specs.declared.map.Device.{Device}
use Rattle.fabric_map.specs.Topology.{IsTopology, node_at}
use Rattle.contest_machine.specs.declared.stages.Tried.{Tried}
use Rattle.contest_machine.specs.declared.stages.Stage.{Stage}
use Rattle.contest_machine.specs.declared.stages.Stage.TheVariants.{Ask, Claim, Check, Test, Features, Information, Status, Free, Done, Lost}
use Rattle.contest_machine.specs.Machine.{Walker, kept}

-- each of these paths has fewer ports than this
abbrev pub AreShort : ℕ → List Tried → Type 0
AreShort most [] = Unit {0}
AreShort most (top ∷ rest) = (length top.path < most) × AreShort most rest

-- No path is longer than the list of devices. An ID is given for each device at most, and the
-- host's
-- is left out once.
pub record WalkIsBounded (devices : List Device) (id next : ℕ) (path : List ℕ)
    (tried : List Tried) : Type 0 where
  pub path_is : length path ≤ length devices
  pub next_is : next ≤ length devices + 1
  pub before : next ≤ id → next ≤ length devices
  pub short : AreShort (length devices) tried

-- A walker that frees its devices, or has ended, gives no IDs and tries no paths.
abbrev pub IsBoundedAt : Stage → List Device → ℕ → ℕ → List ℕ → List Tried → Type 0
IsBoundedAt Ask devices id next path tried = WalkIsBounded devices id next path tried
IsBoundedAt Claim devices id next path tried = WalkIsBounded devices id next path tried
IsBoundedAt Check devices id next path tried = WalkIsBounded devices id next path tried
IsBoundedAt Test devices id next path tried = WalkIsBounded devices id next path tried
IsBoundedAt Features devices id next path tried = WalkIsBounded devices id next path tried
IsBoundedAt Information devices id next path tried = WalkIsBounded devices id next path tried
IsBoundedAt Status devices id next path tried = WalkIsBounded devices id next path tried
IsBoundedAt Free devices id next path tried = Unit {0}
IsBoundedAt Done devices id next path tried = Unit {0}
IsBoundedAt Lost devices id next path tried = Unit {0}

-- each path of a device that is kept leads to a device
pub record WalkerIsWithin (w : Walker) : Type 0 where
  pub proper : IsTopology w.view
  pub leading : (path : List ℕ) → Contains (kept w) path → IsSome (node_at w.view path)
  pub bounded : IsBoundedAt w.stage w.devices w.id w.next w.path w.tried
