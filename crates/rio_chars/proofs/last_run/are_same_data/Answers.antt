use Rattle.std.proofs.Common.{◌<◌, length, arith}
use Rattle.rio_chars.proofs.RunLaws.{same-data-more}
use Rattle.rio_chars.proofs.last_run.are_same_data.Goals as goal

pub loop-i-preserved : goal.loop-i-preserved
loop-i-preserved c =
    let loop = c.loop-i in
    let within : loop.i < length c.args.some.now = omega arith in
    let inside : loop.i < length c.args.others.now = omega arith in
    rw (
      c.is_data.ensures,
      c.is_data-in-loop-i.ensures,
      c.byte.ensures,
      c.byte-in-loop-i.ensures,
    ) (same-data-more c.args.some.now c.args.others.now loop.i _ loop.are_same within inside
    loop.invariant)
