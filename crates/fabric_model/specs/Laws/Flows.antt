-- In order per flow, while the routes of its destination stand.
use Rattle.std.specs.Prelude.{◌≡◌, ℕ, ◌+◌, ◌<◌, ◌==◌, List, [], ◌∷◌, ◌++◌, Option, ⊤}
use Rattle.rio_packets.specs.Fields.{prio_of, tt_of, ftype_of, dest_of, source_of, hop_of}
use Rattle.fabric_model.specs.Network.{Item, Network, route_at}
use Rattle.fabric_model.specs.Steps.{Step, after, after_all}
use Rattle.fabric_model.specs.Laws.History.{EndLeft, EndAnswered, taken_by, ended_by, items_ended}
use Rattle.fabric_model.specs.Laws.Holding.{how_often}

-- The items go the same way through any fabric. Each field reads what they were when they were
-- taken.
pub record SameCourse (x y : Item) : Type 0 where
  pub port : x.port ≡ y.port
  pub dest : dest_of x.taken ≡ dest_of y.taken
  pub priority : prio_of x.taken ≡ prio_of y.taken
  pub maintenance : (ftype_of x.taken == 8) ≡ (ftype_of y.taken == 8)
  pub hop : hop_of x.taken ≡ hop_of y.taken

-- The items are of one flow: of one course, one source and one transport type, which says the size
-- of their IDs. A further field makes flows finer, and the law weaker.
pub record SameFlow (x y : Item) : Type 0 where
  pub transport : tt_of x.taken ≡ tt_of y.taken
  pub source : source_of x.taken ≡ source_of y.taken
  pub course : SameCourse x y

-- no step changes to which port a switch sends packets for this destination
abbrev pub RoutesStand : Option ℕ → Network → List Step → Type 0
RoutesStand dest net [] = ⊤
RoutesStand dest net (step ∷ steps) =
    ((n : ℕ) → route_at (after net step) dest n ≡ route_at net dest n)
    × RoutesStand dest (after net step) steps

-- Of two items that are alike the one that was taken first leaves first: x is taken by one step,
-- and by a later one y leaves. If the routes of their destination stand in between, and x is the
-- earlier one, then x has left before, or was answered.
abbrev pub EarlierFirst : (Item → Item → Type 0) → Network → List Step → Type 0
EarlierFirst Alike start steps =
    (before : List Step) (first : Step) (between : List Step) (last : Step) (later : List Step)
    (x y : Item) → steps ≡ before ++ first ∷ (between ++ last ∷ later)
    → taken_by (after_all start before) first ≡ x ∷ []
    → ended_by EndLeft (after_all (after (after_all start before) first) between) last ≡ y ∷ []
    → RoutesStand (dest_of x.taken) (after (after_all start before) first) between
    → Alike x y → x.number < y.number
    → 0 < how_often x.number (items_ended (after (after_all start before) first) between EndLeft)
    + how_often x.number (items_ended (after (after_all start before) first) between EndAnswered)

pub record InOrder (start : Network) (steps : List Step) : Type 0 where
  pub earlier_first : EarlierFirst SameFlow start steps
