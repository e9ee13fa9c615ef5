-- How many bytes were taken from a reader.
use Rattle.std.specs.Prelude.{◌≡◌, ◌≤◌, ℕ, Option, List, length}
use Rattle.std.specs.Io.KnownBytes.{Consumes}

-- bytes of this number were taken
pub record ConsumesJust (old new : Option (List ℕ)) (count : ℕ) : Type 0 where
  pub taken : List ℕ
  pub told : Consumes old new taken
  pub just : length taken ≡ count

-- at most this number of bytes was taken
pub record ConsumesUpTo (old new : Option (List ℕ)) (count : ℕ) : Type 0 where
  pub taken : List ℕ
  pub told : Consumes old new taken
  pub within : length taken ≤ count
