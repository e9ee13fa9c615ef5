use Rattle.std.proofs.Common.{◌≡◌, ◌++◌, replicate}
use Rattle.rio_chars.specs.declared.chars.Char.TheVariants.{Special}
use Rattle.lane_rows.proofs.sending.push_idles.Given as goal

abbrev pub invariant-loop-left : goal.invariant-loop-left
invariant-loop-left l =
    l.chars.items ++ replicate l.left (Special 0xbc)
    ≡ l.initial.chars.items ++ replicate l.fn.count (Special 0xbc)

abbrev pub decreases-loop-left : goal.decreases-loop-left
decreases-loop-left l = l.left
