use Rattle.std.proofs.Common.{[], refl, sym, ◌∙◌, subst, append-nil}
use Rattle.code_groups.proofs.StreamLaws.{none_left}
use Rattle.lane_sync.specs.Syncing.{LaneHearsAll}
use Rattle.lane_sync.proofs.lane.hear_all.Goals as goal

pub returns : goal.returns
returns c =
    let state = c.loop-left.state in
    let empty = none_left c.loop-left.left.now c.in_default.len_below in
    subst (LaneHearsAll c.args.commas c.args.begin c.args.groups.now state)
    (append-nil c.loop-left.chars.items ∙ sym c.new.ensures)
    (c.loop-left.invariant.rest state []
    (subst (λ left. LaneHearsAll c.args.commas state left state []) (sym empty) (refl, refl)))
