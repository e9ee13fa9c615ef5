-- Tables whose entries follow a rule.
use Rattle.std.proofs.Common.{◌≡◌, ℕ, zero, suc, ◌+◌, ◌<◌, List, [], ◌∷◌, get_or, refl, ap, ◌∙◌, arith}

-- what a function says of the numbers from one on
abbrev pub entries : ℕ → ℕ → (ℕ → ℕ) → List ℕ
entries zero from f = []
entries (suc count) from f = f from ∷ entries count (suc from) f

get_or-entries : (count from i : ℕ) (f : ℕ → ℕ) → i < count → get_or (entries count from f) i 0
    ≡ f (from + i)
get_or-entries zero from i f h = absurd (omega arith)
get_or-entries (suc count) from zero f h = let same : from ≡ from + 0 = omega arith in ap f same
get_or-entries (suc count) from (suc i) f h =
    let same : suc from + i ≡ from + suc i = omega arith in
    get_or-entries count (suc from) i f (omega arith) ∙ ap f same

-- each entry of a table that was compared with the rule
pub entry : (count : ℕ) (table : List ℕ) (f : ℕ → ℕ) (i : ℕ) → table ≡ entries count 0 f → i < count
    → get_or table i 0 ≡ f i
entry count table f i is h =
    let same : 0 + i ≡ i = omega arith in
    ap (λ (t : List ℕ). get_or t i 0) is ∙ get_or-entries count 0 i f h ∙ ap f same
