-- A packet that is read a byte at a time.
use Rattle.std.specs.Prelude.{◌≡◌, ℕ, List, [], ◌∷◌, take}
use Rattle.rio_packets.specs.Carries.{at_origin}
use Rattle.rio_packets.specs.Register.{running}

-- the bytes as they came, of which the first stands apart
abbrev pub as_they_came : ℕ → List ℕ → List ℕ
as_they_came first [] = []
as_they_came first (b ∷ bs) = first ∷ bs

-- What is kept of bytes: the bytes with their first six bits set to 0, and the register after the
-- first 82 and after all.
pub record IsBuilding (first : ℕ) (form : List ℕ) (register middle : ℕ) : Type 0 where
  pub origin : at_origin (as_they_came first form) ≡ form
  pub runs : register ≡ running form
  pub half : middle ≡ running (take 82 form)
