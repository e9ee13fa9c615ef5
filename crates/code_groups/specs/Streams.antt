-- Characters sent one after another, and groups heard one after another.
use Rattle.std.specs.Prelude.{◌≡◌, ◌<◌, IsTrue, ℕ, ◌+◌, List, [], ◌∷◌}
use Rattle.rio_chars.specs.declared.chars.Char.{Char}
use Rattle.code_groups.specs.declared.disparity.Disparity.{Disparity}
use Rattle.code_groups.specs.Disparities.{after_group, ones_in}
use Rattle.code_groups.specs.Groups.{has_group, group_of, disparity_after, IsHeardAs}

-- each has a group
abbrev pub HaveGroups : List Char → Type 0
HaveGroups [] = Unit {0}
HaveGroups (c ∷ chars) = IsTrue (has_group c) × HaveGroups chars

-- the groups of characters from a disparity on, and the disparity after them
abbrev pub groups_from : Disparity → List Char → List ℕ
groups_from before [] = []
groups_from before (c ∷ chars) = group_of before c ∷ groups_from (disparity_after before c) chars

abbrev pub after_chars : Disparity → List Char → Disparity
after_chars before [] = before
after_chars before (c ∷ chars) = after_chars (disparity_after before c) chars

-- the disparity of a receiver after groups, which are maybe none of any character
abbrev pub after_groups : Disparity → List ℕ → Disparity
after_groups before [] = before
after_groups before (group ∷ groups) = after_groups (after_group before group) groups

-- what a receiver takes groups for that come one after another
abbrev pub AreHeardAs : Disparity → List ℕ → List Char → Type 0
AreHeardAs before [] heard = heard ≡ []
AreHeardAs before (group ∷ groups) [] = ⊥
AreHeardAs before (group ∷ groups) (c ∷ heard) =
    IsHeardAs before group c × AreHeardAs (after_group before group) groups heard

-- how many bits of groups are ones
abbrev pub ones_of : List ℕ → ℕ
ones_of [] = 0
ones_of (group ∷ groups) = ones_in 10 group + ones_of groups

-- each is a number of ten bits
abbrev pub HaveTenBits : List ℕ → Type 0
HaveTenBits [] = Unit {0}
HaveTenBits (group ∷ groups) = (group < 1024) × HaveTenBits groups
