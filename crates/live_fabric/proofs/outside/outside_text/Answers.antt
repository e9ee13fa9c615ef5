use Rattle.std.proofs.Common.{ℕ, List, Some, subst}
use Rattle.live_fabric.specs.Outside.{OutsideWhole}
use Rattle.live_fabric.proofs.outside.outside_text.Goals as goal

pub returns : goal.returns
returns c = λ taken holds may.
    subst (λ (before : List ℕ). OutsideWhole taken c.args.line.now (Some before)
    (Some c.carry_into.new.sink.text.items) c.carry_into.new.live) c.new-sink.ensures
    (c.in_ok-carry_into.ensures taken holds may)
