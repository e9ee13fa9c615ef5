use Rattle.std.proofs.Common.{[], refl, sym, ◌∙◌, subst, append-nil}
use Rattle.code_groups.proofs.StreamLaws.{none_left}
use Rattle.lane_bits.specs.BitHearing.{HearsPieces}
use Rattle.lane_bits.proofs.pieces.hear_pieces.Goals as goal

pub returns : goal.returns
returns c =
    let state = c.loop-left.state in
    let empty = none_left c.loop-left.left.now c.in_default.len_below in
    subst (HearsPieces c.args.commas c.args.begin c.args.pieces.now state)
    (append-nil c.loop-left.chars.items ∙ sym c.new.ensures)
    (c.loop-left.invariant.rest state []
    (subst (λ left. HearsPieces c.args.commas state left state []) (sym empty) (refl, refl)))
