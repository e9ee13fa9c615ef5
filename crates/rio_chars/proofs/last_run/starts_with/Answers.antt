use Rattle.std.proofs.Common.{length, ◌+◌, arith, refl, sym, ◌∙◌}
use Rattle.std.proofs.Math.Seq.{take-length}
use Rattle.rio_chars.proofs.RunLaws.{same-part-more}
use Rattle.rio_chars.proofs.last_run.starts_with.Goals as goal

pub loop-i-preserved : goal.loop-i-preserved
loop-i-preserved c =
    let i = c.loop-i.i in (
      omega (arith, c.loop-i-test.true),
      same-part-more c.args.run.now c.args.chars.now i (i + 16) (omega arith) c.loop-i.invariant.1
          (c.if-not-are_same_data.ensures refl),
    )

pub returns : goal.returns
returns c same =
    let run = c.args.run.now in
    sym (take-length run)
    ∙ same-part-more run c.args.chars.now c.loop-i.i (length run) (omega arith)
    c.loop-i.invariant.1 (c.are_same_data-2.ensures same)
