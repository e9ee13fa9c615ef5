use Rattle.std.proofs.Common.{◌≤◌, ◌+◌, length, rules, arith}
use Rattle.rio_chars.proofs.SpacedLaws.{words-four}
use Rattle.rio_chars.proofs.runs.write_fours.Goals as goal

pub loop-i-preserved : goal.loop-i-preserved
loop-i-preserved c =
    let i = c.loop-i.i in
    let is = c.in-Data-Data-Data-Data in
    let size = c.loop-i.invariant.1 in
    let below : i + 4 ≤ length c.loop-i.words =
    omega (arith, size, c.loop-i-test.true, c.requires.words) in
    let within : i + 4 ≤ length c.args.chars.now =
    omega (arith, c.loop-i-test.true, c.requires.chars) in (
      omega (arith, c.loop-i-test.true),
      search rules,
      rw (
        c.data_word.ensures,
        c.data_word-in-loop-i.ensures,
        c.data_word-in-loop-i-2.ensures,
        c.data_word-in-loop-i-3.ensures,
      ) (words-four c.loop-i.words c.args.chars.now i is.a is.b is.c
          is.d _ _ _ _ below within is.is-0 is.is-1 is.is-2 is.is-3 c.loop-i.invariant.2),
    )
