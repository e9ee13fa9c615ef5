use Rattle.std.proofs.Common.{List, ℕ, sym, subst}
use Rattle.rio_chars.specs.Written.{Writes}
use Rattle.rio_chars.proofs.WrittenLaws.{Writes-nil}
use Rattle.code_groups.proofs.StreamLaws.{none_left}
use Rattle.group_text.proofs.ListLaws.{tens_left}
use Rattle.rio_lane.specs.LaneAnswers.{joined_groups}
use Rattle.rio_lane.proofs.WordLaws.{groups_told}
use Rattle.rio_lane.proofs.coding.write_joined.Goals as goal

pub group_text-requires : goal.group_text-requires
group_text-requires g c =
    (tens_left c.args.groups.now _ c.in-len1-up.len_at_least c.requires).0

pub write_groups-requires : goal.write_groups-requires
write_groups-requires g c =
    (tens_left c.args.groups.now 0 c.in-len1-up.len_at_least c.requires).1

pub returns-in_default : goal.returns-in_default
returns-in_default g c =
    let out = c.args.outbox.now in
    let empty = none_left c.args.groups.now c.in_default.len_below in
    subst (λ (gs : List ℕ). Writes out out (joined_groups gs)) (sym empty) (Writes-nil out)

pub returns : goal.returns
returns g c =
    let digits = rw c.group_text.ensures at c.write.ensures in
    groups_told c.args.groups.now _ c.in-len1-up.len_at_least digits c.write_groups.ensures
