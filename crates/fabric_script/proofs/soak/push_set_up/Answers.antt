use Rattle.std.proofs.Common.{◌∙◌, ap, subst, length, rules, arith}
use Rattle.std.specs.Array.Iter.{array_into_iter_items}
use Rattle.std.proofs.lemmas.List.{nil_from_length}
use Rattle.fabric_script.specs.Soak.{soak_set_up}
use Rattle.fabric_script.proofs.SoakLaws.{AreSoFar, length-numbered, so_far_none, so_far_next, so_far_few, so_far_all}
use Rattle.fabric_script.proofs.soak.push_set_up.Goals as goal

pub loop-line-init : goal.loop-line-init
loop-line-init c = so_far_none c.args.lines.now.items
    (array_into_iter_items c.into_iter-line-iterator.result) c.requires (search rules)

pub push_line-requires : goal.push_line-requires
push_line-requires c =
    let few = so_far_few c.loop-line.lines.items _ c.loop-line.invariant in
    omega (arith, few)

pub loop-line-preserved : goal.loop-line-preserved
loop-line-preserved c =
    so_far_next c.loop-line.lines.items c.push_line.new.lines.items c.in-Some.line
    (array_into_iter_items c.next.new.self)
    (subst (AreSoFar c.loop-line.lines.items) (search rules) c.loop-line.invariant)
    c.in_ok-push_line.ensures.numbered

pub returns-clause-count : goal.returns-clause-count
returns-clause-count c =
    let none = nil_from_length (array_into_iter_items c.loop-line.line-iterator)
    c.in-None.ensures.steps.0 in
    ap length (so_far_all c.loop-line.lines.items
    (subst (AreSoFar c.loop-line.lines.items) none c.loop-line.invariant))
    ∙ length-numbered 1 soak_set_up
