use Rattle.std.proofs.Common.{◌≤◌, ◌++◌, ◌∷◌, [], ◌∙◌, take, drop, ap, sym, arith}
use Rattle.std.proofs.lemmas.Result.{on_ok_weaker}
use Rattle.link_wires.proofs.QueueLaws.{changed_past}
use Rattle.link_wires.proofs.chars.Chars.insert.Goals as goal

pub returns-then-len-place-clause-put : goal.returns-then-len-place-clause-put
returns-then-len-place-clause-put c =
    let place = c.args.place in
    let past : c.len-cut.result ≤ place = omega (arith, c.if-cut-place.true) in
    let put = changed_past c.self.inside.front c.self.inside.back (c.args.ch ∷ [])
    c.len-cut.result place place (sym c.len-cut.ensures.number) past past in
    on_ok_weaker c.insert-then-len-place.result (λ is. ap (λ l. c.self.inside.front ++ l) is ∙ put
    ∙ ap (λ l. take place l ++ c.args.ch ∷ drop place l) c.self.view_is)
    c.insert-then-len-place.ensures.put
