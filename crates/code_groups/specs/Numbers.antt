-- Characters by numbers, as the tables have them.
use Rattle.std.specs.Prelude.{ℕ, ◌+◌, ◌-◌, ◌*◌, nat_lt, if◌then◌else◌}
use Rattle.rio_chars.specs.declared.chars.Char.{Char}
use Rattle.rio_chars.specs.declared.chars.Char.TheVariants.{Data, Special, Invalid}
use Rattle.code_groups.specs.declared.disparity.Disparity.{Disparity}
use Rattle.code_groups.specs.Disparities.{level}
use Rattle.code_groups.specs.Groups.{has_group, group_of, disparity_after}

-- the character of a number: a byte of data, 256 more for a special one, and then none
abbrev pub char_at : ℕ → Char
char_at number =
    if nat_lt number 256 then Data number else
    if nat_lt number 512 then Special (number - 256) else Invalid

-- what the table has for a character: its group, and after it the disparity; or 0
abbrev pub sent_entry : Disparity → Char → ℕ
sent_entry before c =
    if has_group c then group_of before c + 1024 * level (disparity_after before c) else 0
