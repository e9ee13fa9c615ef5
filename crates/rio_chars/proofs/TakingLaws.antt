-- What was taken in two calls, one after the other.
use Rattle.std.proofs.Common.{◌≡◌, ◌<◌, ◌≤◌, ◌+◌, ℕ, Option, None, Some, IfSome, List, [], ◌++◌, length, length-append, ap, refl, ◌∙◌, arith}
use Rattle.std.specs.Io.KnownBytes.{Consumes, IsAtEnd}
use Rattle.std.proofs.KnownBytes.{Consumes-trans}
use Rattle.rio_chars.specs.Takings.{ConsumesJust, ConsumesUpTo}

pub ConsumesJust-after : (a b c : Option (List ℕ)) (bytes taken : List ℕ) (count : ℕ)
    → Consumes a b bytes → Consumes b c taken → length bytes + length taken ≡ count
    → ConsumesJust a c count
ConsumesJust-after a b c bytes taken count first second just =
    record {
      taken = bytes ++ taken;
      told = Consumes-trans a b c bytes taken first second;
      just = length-append bytes taken ∙ just;
    }

pub ConsumesUpTo-after : (a b c : Option (List ℕ)) (bytes taken : List ℕ) (count : ℕ)
    → Consumes a b bytes → Consumes b c taken → length bytes + length taken ≤ count
    → ConsumesUpTo a c count
ConsumesUpTo-after a b c bytes taken count first second within =
    record {
      taken = bytes ++ taken;
      told = Consumes-trans a b c bytes taken first second;
      within = omega (arith, length-append bytes taken);
    }

-- what was left before was longer than the limit, where one byte more than the limit was taken
pub ConsumesJust-longer : (old new : Option (List ℕ)) (limit : ℕ) → ConsumesJust old new (limit + 1)
    → IfSome old (λ left. limit < length left)
ConsumesJust-longer None new limit taken = tt
ConsumesJust-longer (Some left) None limit taken = absurd taken.told
ConsumesJust-longer (Some left) (Some rest) limit taken =
    let whole = ap length taken.told ∙ length-append taken.taken rest in
    let just = taken.just in
    omega arith

-- what was left before was within the limit, where all of it was taken
pub Consumes-within : (old new : Option (List ℕ)) (bytes : List ℕ) (limit : ℕ)
    → Consumes old new bytes → IsAtEnd new → length bytes ≤ limit
    → IfSome old (λ left. length left ≤ limit)
Consumes-within None new bytes limit told end within = tt
Consumes-within (Some left) None bytes limit told end within = absurd told
Consumes-within (Some left) (Some rest) bytes limit told end within =
    let whole = ap length told ∙ ap (λ l. length (bytes ++ l)) end ∙ length-append bytes [] in
    let none : length (let empty : List ℕ = [] in empty) ≡ 0 = refl in
    omega arith
