-- The first of several that has an answer.
use Rattle.std.specs.Prelude.{ℕ, zero, suc, Option, None}
use Rattle.std.specs.Option.{option_or}

-- the answer of the least number below n that has one
unfoldable pub least_first : {A : Type 0} → (ℕ → Option A) → ℕ → Option A
least_first answer zero = None
least_first answer (suc n) = option_or (least_first answer n) (answer n)

-- the answer of the greatest number below n that has one
unfoldable pub greatest_first : {A : Type 0} → (ℕ → Option A) → ℕ → Option A
greatest_first answer zero = None
greatest_first answer (suc n) = option_or (answer n) (greatest_first answer n)
