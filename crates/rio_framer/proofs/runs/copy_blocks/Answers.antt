use Rattle.std.proofs.Common.{◌≡◌, ◌≤◌, ◌+◌, ◌-◌, length, refl, rules, arith}
use Rattle.rio_framer.proofs.DataLaws.{copied-block}
use Rattle.rio_framer.proofs.runs.copy_blocks.Goals as goal

pub loop-i-preserved : goal.loop-i-preserved
loop-i-preserved c =
    let i = c.loop-i.i in
    let bytes = c.loop-i.bytes in
    let block = c.copy_block.new.bytes in
    let within : i + 16 ≤ length bytes =
    omega (arith, c.loop-i-test.true, c.loop-i.invariant.1, c.requires.bytes) in
    let size : length block ≡ i + 16 - i =
    omega (arith, within, c.if-not-copy_block.ensures.len) in (
      omega (arith, c.loop-i-test.true),
      search rules,
      copied-block bytes block c.args.chars.now i (i + 16) (omega arith) (omega (arith, within))
          size c.loop-i.invariant.2 (c.if-not-copy_block.ensures.is refl),
    )
