use Rattle.std.proofs.Common.{◌<◌, ◌++◌, ◌∙◌, length, slice_set, ap, sym, arith}
use Rattle.std.proofs.lemmas.List.{set-append_left, set-append_right}
use Rattle.link_wires.proofs.chars.Chars.set.Goals as goal

pub returns-then-place-cut : goal.returns-then-place-cut
returns-then-place-cut c =
    let place = c.args.place in
    let front = c.self.inside.front in
    let back = c.self.inside.back in
    let before : place < length front =
    omega (arith, c.if-place-cut.true, c.len-cut.ensures.number) in
    ap (λ l. l ++ back) c.set.ensures
    ∙ sym (set-append_left front back place c.args.ch before)
    ∙ ap (λ l. slice_set l place c.args.ch) c.self.view_is

pub returns-else-place-cut : goal.returns-else-place-cut
returns-else-place-cut c =
    let place = c.args.place in
    let front = c.self.inside.front in
    let back = c.self.inside.back in
    ap (λ l. front ++ l) c.set-else-place-cut.ensures
    ∙ sym (set-append_right front back c.len-cut.result place c.args.ch
    (sym c.len-cut.ensures.number) (omega (arith, c.if-place-cut.false)))
    ∙ ap (λ l. slice_set l place c.args.ch) c.self.view_is
