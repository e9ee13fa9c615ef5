-- The bytes that may be read, and when they alone decide what is answered.
use Rattle.std.specs.Prelude.{◌≡◌, ◌≤◌, ℕ, List, Option, Some, length}
use Rattle.rio_chars.specs.Faults.{Rose}

-- the most bytes of an input
abbrev pub most_input : ℕ
most_input = 4194304

-- the source tells that it has these bytes, and they are not too many
pub record Offers (left : Option (List ℕ)) (bytes : List ℕ) : Type 0 where
  pub told : left ≡ Some bytes
  pub within : length bytes ≤ most_input

-- by their counts of faults neither the source nor the sink failed
pub record IsFaultless (read read_after faults faults_after : ℕ) : Type 0 where
  pub reads : ¬ Rose read read_after
  pub writes : ¬ Rose faults faults_after
