use Rattle.std.proofs.Common.{◌≡◌, ◌+◌, ◌-◌, ◌∙◌, length, take, drop, ap, arith, rules, length-drop}
use Rattle.std.proofs.lemmas.List.{length-take-le, take-take}
use Rattle.link_wires.proofs.QueueLaws.{closed_up, part_written}
use Rattle.link_wires.proofs.queue.close_up.Goals as goal

pub returns-clause-moved : goal.returns-clause-moved
returns-clause-moved c =
    let chars = c.args.chars.now.items in
    let head = c.args.head in
    let place = c.args.place in
    let end = c.args.end in
    let part = c.move_up.new.chars in
    let taken : c.slice_mut.result.now ≡ take end (drop head chars) =
    c.slice_mut.ensures.value ∙ ap (λ n. take n (drop head chars)) (omega arith) in
    let size : length c.slice_mut.result.now ≡ end =
    ap length taken
    ∙ length-take-le end (drop head chars)
    (omega (arith, c.requires.end, length-drop head chars)) in
    let moved : drop (end - place) part ≡ take place (drop head chars) =
    c.move_up.ensures.moved
    ∙ ap (λ l. take (length c.slice_mut.result.now - (end - place)) l) taken
    ∙ ap (λ n. take n (take end (drop head chars))) (omega (arith, size, c.requires.order))
    ∙ take-take place end (drop head chars) c.requires.order in
    let whole : length part ≡ end = c.move_up.ensures.length ∙ size in
    ap (drop (head + (end - place)))
    (part_written chars part head c.args.chars.now.len (search rules)
    (omega (arith, whole, c.requires.end)))
    ∙ closed_up chars part head place end c.requires.order c.requires.end whole moved
