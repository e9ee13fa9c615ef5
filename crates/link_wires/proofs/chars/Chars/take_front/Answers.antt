use Rattle.std.proofs.Common.{◌≡◌, ◌-◌, ◌++◌, ◌∙◌, length, min, take, ap, arith}
use Rattle.link_wires.proofs.QueueLaws.{take_both}
use Rattle.link_wires.proofs.chars.Chars.take_front.Goals as goal

pub returns-clause-got : goal.returns-clause-got
returns-clause-got c =
    let front = c.self.inside.front in
    let count = c.args.count in
    let before = c.min-before.result in
    let which : before ≡ min count (length front) =
    omega (arith, c.min-before.ensures, ap length c.as_slice-front.ensures) in
    c.in_ok-extend_from_slice-2.ensures.items
    ∙ ap (λ l. l ++ take (count - before) c.as_slice.result.now)
    (c.in_ok-extend_from_slice.ensures.items
    ∙ ap (λ l. l ++ take before c.as_slice-front.result.now) c.clear.ensures.items
    ∙ ap (take before) c.as_slice-front.ensures)
    ∙ ap (λ l. take before front ++ take (count - before) l) c.as_slice.ensures
    ∙ take_both front c.self.inside.back count before which
    ∙ ap (take count) c.self.view_is
