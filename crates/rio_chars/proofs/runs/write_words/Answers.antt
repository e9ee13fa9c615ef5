use Rattle.std.proofs.Common.{◌<◌, length, arith}
use Rattle.rio_chars.proofs.SpacedLaws.{words-step}
use Rattle.rio_chars.proofs.runs.write_words.Goals as goal

pub loop-i-preserved : goal.loop-i-preserved
loop-i-preserved c =
    let i = c.loop-i.i in
    let most = c.min-most.result in
    let few : i < most = omega (arith, c.loop-i-test.true) in
    let below : i < length c.loop-i.words =
    omega (arith, few, c.min-most.ensures, c.loop-i.auto.words) in
    let within : i < length c.args.chars.now = omega (arith, few, c.min-most.ensures) in
    rw c.data_word.ensures (words-step c.loop-i.words c.args.chars.now i _ _ below within
    c.in-Data.is c.loop-i.invariant)
