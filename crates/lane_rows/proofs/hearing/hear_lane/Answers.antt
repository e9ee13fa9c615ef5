use Rattle.std.proofs.Common.{sym, ◌∙◌, subst}
use Rattle.code_groups.specs.Streams.{HaveTenBits}
use Rattle.lane_rows.proofs.RowLaws.{tens_fourth}
use Rattle.lane_rows.proofs.hearing.hear_lane.Goals as goal

pub hear_all-requires : goal.hear_all-requires
hear_all-requires c =
    subst HaveTenBits (sym (c.as_slice.ensures.value ∙ c.in_ok-own.ensures))
    (tens_fourth c.args.lane c.args.groups.now c.requires)
