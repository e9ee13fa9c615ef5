use Rattle.std.proofs.Common.{◌-◌, ◌++◌, ◌∙◌, take, ap, sym, arith}
use Rattle.link_wires.proofs.QueueLaws.{take_past, drop_past}
use Rattle.link_wires.proofs.chars.move_cut.Goals as goal

pub returns-in_ok-put-clause-front : goal.returns-in_ok-put-clause-front
returns-in_ok-put-clause-front c =
    let front = c.args.front.now in
    let cut = c.len-cut.result in
    let place = c.args.place in
    c.in_ok-put.ensures.put
    ∙ ap (λ l. front ++ take (place - cut) l) c.as_slice-else-place-cut.ensures
    ∙ sym (take_past front c.args.back.now cut place (sym c.len-cut.ensures.number)
    (omega (arith, c.if-place-cut.false)))

pub returns-in_ok-put-clause-back : goal.returns-in_ok-put-clause-back
returns-in_ok-put-clause-back c =
    c.skip.ensures
    ∙ sym (drop_past c.args.front.now c.args.back.now c.len-cut.result c.args.place
    (sym c.len-cut.ensures.number) (omega (arith, c.if-place-cut.false)))
