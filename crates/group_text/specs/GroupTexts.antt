-- The texts of groups: ten digits, in the order in which the bits are sent.
use Rattle.std.specs.Prelude.{ℕ, zero, suc, ◌+◌, ◌/◌, ◌%◌, List, [], ◌∷◌, ◌++◌}

-- a number in so many binary digits: those of its half, and then its last one
abbrev pub binary_digits : ℕ → ℕ → List ℕ
binary_digits zero number = []
binary_digits (suc width) number = binary_digits width (number / 2) ++ (48 + number % 2) ∷ []

abbrev pub group_text_of : ℕ → List ℕ
group_text_of group = binary_digits 10 group

-- the texts of groups, each after a space
abbrev pub spaced_groups : List ℕ → List ℕ
spaced_groups [] = []
spaced_groups (group ∷ groups) = 32 ∷ group_text_of group ++ spaced_groups groups
