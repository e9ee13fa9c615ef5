use Rattle.std.proofs.Common.{◌≡◌, ◌∙◌, ◌+◌, ◌++◌, ◌∷◌, ap, take, drop, sym}
use Rattle.std.proofs.lemmas.List.{drop-drop}
use Rattle.std.proofs.lemmas.Result.{on_ok_weaker}
use Rattle.link_wires.proofs.QueueLaws.{behind_head}
use Rattle.link_wires.proofs.queue.Queue+Char.insert.Goals as goal

pub returns-clause-put : goal.returns-clause-put
returns-clause-put c =
    let head = c.self.inside.head in
    let chars = c.self.inside.items.items in
    let put : drop head (take (head + c.args.place) chars
    ++ c.args.ch ∷ drop (head + c.args.place) chars)
    ≡ take c.args.place c.args.self.now ++ c.args.ch ∷ drop c.args.place c.args.self.now =
    behind_head chars (c.args.ch ∷ drop (head + c.args.place) chars) head c.args.place
    c.self.invariant
    ∙ ap (λ rest. take c.args.place (drop head chars) ++ c.args.ch ∷ rest)
    (sym (drop-drop c.args.place head chars))
    ∙ ap (λ l. take c.args.place l ++ c.args.ch ∷ drop c.args.place l) c.self.view_is in
    on_ok_weaker c.insert_near_end.result (λ is. ap (drop head) is ∙ put)
    c.insert_near_end.ensures.put
