-- Characters in rows, as the groups of four lanes.
use Rattle.std.specs.Prelude.{ℕ, List, [], ◌∷◌}
use Rattle.rio_chars.specs.declared.chars.Char.{Char}
use Rattle.code_groups.specs.declared.disparity.Disparity.{Disparity}
use Rattle.code_groups.specs.declared.disparity.Disparity.TheVariants.{Negative}
use Rattle.code_groups.specs.Groups.{group_of, disparity_after}
use Rattle.lane_rows.specs.declared.sending.FourSenders.{FourSenders}

abbrev pub new_senders : FourSenders
new_senders = record { a = Negative; b = Negative; c = Negative; d = Negative }

-- after a group on the first lane, with this disparity, the next lane is first, and this one last
abbrev pub turned_senders : FourSenders → Disparity → FourSenders
turned_senders lanes after = record { a = lanes.b; b = lanes.c; c = lanes.d; d = after }

-- the same after a character
abbrev pub senders_after : FourSenders → Char → FourSenders
senders_after lanes c = turned_senders lanes (disparity_after lanes.a c)

-- the groups of characters that go on one lane after another, and the lanes after them
abbrev pub rows_from : FourSenders → List Char → List ℕ
rows_from lanes [] = []
rows_from lanes (c ∷ chars) = group_of lanes.a c ∷ rows_from (senders_after lanes c) chars

abbrev pub after_rows : FourSenders → List Char → FourSenders
after_rows lanes [] = lanes
after_rows lanes (c ∷ chars) = after_rows (senders_after lanes c) chars
