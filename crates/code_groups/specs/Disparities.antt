-- The running disparity, and how a sub-block of a code group leads it on.
use Rattle.std.specs.Prelude.{ℕ, zero, suc, ◌+◌, ◌-◌, ◌*◌, ◌/◌, ◌%◌, ◌^◌, ◌==◌, nat_lt, if◌then◌else◌}
use Rattle.code_groups.specs.declared.disparity.Disparity.{Disparity}
use Rattle.code_groups.specs.declared.disparity.Disparity.TheVariants.{Negative, Positive}

abbrev pub other_disparity : Disparity → Disparity
other_disparity Negative = Positive
other_disparity Positive = Negative

-- how many of the last so many bits of a number are ones
abbrev pub ones_in : ℕ → ℕ → ℕ
ones_in zero number = 0
ones_in (suc width) number = number / 2 ^ width % 2 + ones_in width number

-- The disparity after a sub-block of 6 or 4 bits: positive after more ones, negative after more
-- zeros. Of as many, 000111 and 0011 lead to positive, and 111000 and 1100 to negative. Any other
-- leaves it as it was.
abbrev pub after_block : ℕ → ℕ → Disparity → Disparity
after_block width block before =
    if nat_lt width (2 * ones_in width block) then Positive else
    if nat_lt (2 * ones_in width block) width then Negative else
    if block == 2 ^ (width / 2) - 1 then Positive else
    if block == 2 ^ width - 2 ^ (width / 2) then Negative else before

-- the disparity after a group of ten bits: its first six and its last four, code group or not
abbrev pub after_group : Disparity → ℕ → Disparity
after_group before group = after_block 4 (group % 16) (after_block 6 (group / 16) before)

-- so many more ones than half of all bits: 1 at positive, if it is counted from negative
abbrev pub level : Disparity → ℕ
level Negative = 0
level Positive = 1
