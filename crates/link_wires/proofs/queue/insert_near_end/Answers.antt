use Rattle.std.proofs.Common.{◌≡◌, ◌+◌, ◌-◌, ◌∙◌, length, take, drop, slice_set, ap, arith, rules, length-drop}
use Rattle.std.proofs.lemmas.List.{length_push}
use Rattle.std.proofs.lemmas.Slice.{between_to_end}
use Rattle.link_wires.proofs.QueueLaws.{part_written, put_in}
use Rattle.link_wires.proofs.queue.insert_near_end.Goals as goal

pub returns-clause-put : goal.returns-clause-put
returns-clause-put c =
    let old = c.args.chars.now.items in
    let place = c.args.place in
    let more = c.push.new.self.items in
    let part = c.move_up.new.chars in
    let all : c.push.new.self.len ≡ length more = search rules in
    let behind : c.slice_mut.result.now ≡ drop place more =
    c.slice_mut.ensures.value
    ∙ between_to_end more place c.push.new.self.len (omega (arith, all)) in
    let size : length part ≡ length (drop place more) =
    c.move_up.ensures.length ∙ ap length behind in
    let long : length more ≡ length old + 1 =
    ap length c.in-Ok.ensures.items ∙ length_push old c.args.ch in
    ap (λ l. slice_set l place c.args.ch)
    (part_written more part place c.push.new.self.len all
    (omega (arith, size, long, c.requires, length-drop place more)))
    ∙ put_in old more part place c.args.ch c.requires c.in-Ok.ensures.items size
    (c.move_up.ensures.moved ∙ ap (λ l. take (length l - 1) l) behind)
