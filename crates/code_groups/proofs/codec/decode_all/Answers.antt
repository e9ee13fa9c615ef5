use Rattle.std.proofs.Common.{[], refl, sym, subst, append-nil}
use Rattle.code_groups.specs.Streams.{AreHeardAs}
use Rattle.code_groups.proofs.StreamLaws.{none_left}
use Rattle.code_groups.proofs.codec.decode_all.Goals as goal

pub returns : goal.returns
returns c =
    let empty = none_left c.loop-left.left.now c.in_default.len_below in
    subst (AreHeardAs c.args.before c.args.groups.now) (append-nil c.loop-left.heard.items)
    (c.loop-left.invariant.rest []
    (subst (λ left. AreHeardAs c.loop-left.disparity left []) (sym empty) refl))
