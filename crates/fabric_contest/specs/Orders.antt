-- Whose turns a number stands for.
use Rattle.std.specs.Prelude.{ℕ, ◌%◌, ◌==◌, List, ◌∷◌, map, if◌then◌else◌}
use Rattle.link_watch.specs.declared.side.Side.{Side}
use Rattle.link_watch.specs.declared.side.Side.TheVariants.{A, B}
use Rattle.fabric_script.specs.Soak.{numbers_behind, value_of_number}

-- an even value gives the turn to the first host
abbrev pub side_of : ℕ → Side
side_of value = if value % 2 == 0 then A else B

-- a number of the generator gives it by its upper half
abbrev pub side_by : ℕ → Side
side_by number = side_of (value_of_number number)

-- so many turns, by the numbers of the generator behind this one
abbrev pub sides_behind : ℕ → ℕ → List Side
sides_behind count number = map side_by (numbers_behind count number)

-- the first host's turn, the second's, and so many by the generator
abbrev pub sides_of : ℕ → ℕ → List Side
sides_of count seed = A ∷ B ∷ sides_behind count (seed % 2147483648)

-- 100,000 turns
abbrev pub seeded_turns : ℕ → List Side
seeded_turns seed = sides_of 99998 seed
