use Rattle.std.proofs.Common.{◌+◌, ◌-◌, ◌≤◌, sym, arith}
use Rattle.std.proofs.lemmas.Bool.{le-ltb}
use Rattle.trace_reactions.proofs.input_half.InputHalf.has_room.Goals as goal

pub returns-in-None : goal.returns-in-None
returns-in-None c =
    let kept = c.args.self.now in
    let few = c.from-buffers.type_inv in
    let same = c.from-buffers.ensures in
    let full = c.in-None.ensures in
    let higher = c.saturating_sub-higher.ensures in
    let wide = c.from.ensures in
    let over : kept.buffers ≤ kept.held + (3 - c.args.prio)
    = grind (arith, few, same, full, higher, wide) in
    sym (le-ltb (kept.held + (3 - c.args.prio)) kept.buffers over)
