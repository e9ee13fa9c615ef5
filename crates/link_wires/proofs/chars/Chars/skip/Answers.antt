use Rattle.std.proofs.Common.{◌++◌, ◌∙◌, drop, ap, sym, arith}
use Rattle.link_wires.proofs.QueueLaws.{drop_past}
use Rattle.link_wires.proofs.chars.Chars.skip.Goals as goal

pub returns-else-count-front : goal.returns-else-count-front
returns-else-count-front c =
    let count = c.args.count in
    ap (λ l. l ++ c.skip-else-count-front.new.self) c.clear.ensures
    ∙ c.skip-else-count-front.ensures
    ∙ sym (drop_past c.self.inside.front c.self.inside.back c.len-front.result count
    (sym c.len-front.ensures.number) (omega (arith, c.if-count-front.false)))
    ∙ ap (drop count) c.self.view_is
