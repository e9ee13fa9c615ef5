use Rattle.std.proofs.Common.{◌≡◌, ◌+◌, ◌-◌, ◌++◌, ◌∙◌, length, take, drop, replicate, ap, sym, arith, rules}
use Rattle.std.proofs.lemmas.List.{with_items_is}
use Rattle.rio_chars.specs.declared.chars.Char.TheVariants.{Invalid}
use Rattle.link_wires.proofs.QueueLaws.{behind_room}
use Rattle.link_wires.proofs.queue.make_room.Goals as goal

pub returns-clause-chars : goal.returns-clause-chars
returns-clause-chars c =
    let chars = c.args.chars.now.items in
    let len = c.len-len.result in
    let size = c.in-Some.size in
    let moved = c.move_up.new.chars in
    let all : length chars ≡ len = search rules in
    let whole : length moved ≡ c.resize.new.self.len =
    c.move_up.ensures.length ∙ c.as_mut_slice.ensures.len in
    ap (drop (c.args.head.now + (size - len))) (with_items_is c.resize.new.self moved whole)
    ∙ behind_room chars c.resize.new.self.items moved Invalid c.args.head.now len size all
    (omega (arith, c.in-Some.ensures))
    (c.in-Ok.ensures.items
    ∙ ap (λ n. take size chars ++ replicate (size - n) Invalid) (sym c.len-len.ensures))
    (c.move_up.ensures.moved
    ∙ ap (λ l. take (length l - (size - len)) l) c.as_mut_slice.ensures.value)
