use Rattle.std.proofs.Common.{◌≡◌, ◌+◌, ◌-◌, ◌∙◌, length, take, drop, ap, arith}
use Rattle.link_wires.proofs.QueueLaws.{moved_more}
use Rattle.link_wires.proofs.queue.move_up.Goals as goal

pub loop-left-preserved : goal.loop-left-preserved
loop-left-preserved c =
    moved_more _ _ _ c.args.by _ _ (omega arith) c.loop-left.invariant c.move_block.ensures

pub returns-clause-moved : goal.returns-clause-moved
returns-clause-moved c =
    let by = c.args.by in
    let old = c.args.chars.now in
    let left = c.loop-left.left in
    let none : left ≡ 0 = omega (arith, c.loop-left-test.false) in
    let all : by ≡ left + by = omega (arith, none) in
    ap (λ n. drop n c.loop-left.chars) all
    ∙ c.loop-left.invariant.above
    ∙ ap (λ n. drop n (take (length old - by) old)) none
