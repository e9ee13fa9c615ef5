-- Wrong bits on a lane, of which a special character stands between any two.
use Rattle.std.specs.Prelude.{ℕ, ◌<◌, IsTrue, Bool, true, false, List, [], ◌∷◌, Option, Some, None}
use Rattle.rio_chars.specs.declared.chars.Char.{Char}
use Rattle.rio_chars.specs.declared.chars.Char.TheVariants.{Data, Special, Invalid}
use Rattle.code_groups.specs.Changes.{with_wrong_bit, is_used}

-- each is a character that a link of this project uses: data, SC, PD, or an idle
abbrev pub AreUsed : List Char → Type 0
AreUsed [] = Unit {0}
AreUsed (c ∷ chars) = IsTrue (is_used c) × AreUsed chars

-- which bit of each group is wrong, if one is; none is of the groups after the list
abbrev pub wrong_at : Option ℕ → ℕ → ℕ
wrong_at None group = group
wrong_at (Some bit) group = with_wrong_bit bit group

abbrev pub with_wrong_bits : List (Option ℕ) → List ℕ → List ℕ
with_wrong_bits wrong [] = []
with_wrong_bits [] (group ∷ groups) = group ∷ with_wrong_bits [] groups
with_wrong_bits (one ∷ wrong) (group ∷ groups) =
    wrong_at one group ∷ with_wrong_bits wrong groups

-- whether a wrong bit may come after this character, if none may come in it
abbrev pub frees_the_next : Bool → Char → Bool
frees_the_next true c = true
frees_the_next false (Data byte) = false
frees_the_next false (Special byte) = true
frees_the_next false Invalid = false

-- Between any two wrong bits a special character stands whose group has none. The first word says
-- whether one may come at once.
abbrev pub AreApart : Bool → List Char → List (Option ℕ) → Type 0
AreApart free chars [] = Unit {0}
AreApart free [] (one ∷ wrong) = Unit {0}
AreApart free (c ∷ chars) (None ∷ wrong) = AreApart (frees_the_next free c) chars wrong
AreApart true (c ∷ chars) (Some bit ∷ wrong) = (bit < 10) × AreApart false chars wrong
AreApart false (c ∷ chars) (Some bit ∷ wrong) = ⊥
