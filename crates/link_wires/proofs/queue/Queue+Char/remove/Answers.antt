use Rattle.std.proofs.Common.{◌+◌, ◌-◌, ◌++◌, ◌∙◌, ap, take, drop, sym}
use Rattle.std.proofs.lemmas.List.{drop-drop}
use Rattle.link_wires.proofs.QueueLaws.{behind_head}
use Rattle.link_wires.proofs.queue.Queue+Char.remove.Goals as goal

pub returns-then-place-len : goal.returns-then-place-len
returns-then-place-len c =
    let place = c.args.place in
    let end = c.args.end in
    c.skip.ensures
    ∙ drop-drop (end - place) c.self.inside.head c.close_up.new.chars.items
    ∙ c.close_up.ensures.moved
    ∙ ap (λ l. take place l ++ drop end l) c.self.view_is

pub returns-else-place-len : goal.returns-else-place-len
returns-else-place-len c =
    let head = c.self.inside.head in
    let chars = c.self.inside.items.items in
    ap (drop head) (c.drop-drain.ensures.items ∙ c.drain.ensures.kept)
    ∙ behind_head chars (drop (head + c.args.end) chars) head c.args.place c.self.invariant
    ∙ ap (λ rest. take c.args.place (drop head chars) ++ rest)
    (sym (drop-drop c.args.end head chars))
    ∙ ap (λ l. take c.args.place l ++ drop c.args.end l) c.self.view_is
