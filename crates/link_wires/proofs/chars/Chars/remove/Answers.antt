use Rattle.std.proofs.Common.{◌++◌, [], ◌∙◌, take, drop, ap, sym, arith}
use Rattle.link_wires.proofs.QueueLaws.{changed_past}
use Rattle.link_wires.proofs.chars.Chars.remove.Goals as goal

pub returns-then-len-end-clause-removed : goal.returns-then-len-end-clause-removed
returns-then-len-end-clause-removed c =
    let place = c.args.place in
    let end = c.args.end in
    ap (λ l. c.self.inside.front ++ l) c.remove-then-len-end.ensures
    ∙ changed_past c.self.inside.front c.self.inside.back [] c.len-cut.result place end
    (sym c.len-cut.ensures.number) (omega (arith, c.if-cut-place.true))
    (omega (arith, c.if-cut-place.true, c.requires.order))
    ∙ ap (λ l. take place l ++ drop end l) c.self.view_is
