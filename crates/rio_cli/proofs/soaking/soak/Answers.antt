use Rattle.std.proofs.Common.{Err, ap, subst, ◌∙◌}
use Rattle.fabric_replay.specs.Summing.{SummedUndetected}
use Rattle.rio_cli.proofs.SoakLaws.{says_undetected}
use Rattle.rio_cli.proofs.soaking.soak.Goals as goal

pub returns-in-Err-Undetected-clause-says : goal.returns-in-Err-Undetected-clause-says
returns-in-Err-Undetected-clause-says g c =
    let e = c.in-Err-Undetected in
    let undetected = c.summary.ensures.undetected e.field-0-0 e.field-0-1 e.field-0-2
    (e.is ∙ ap Err e.field-0-is) in
    says_undetected c.args.seed c.write_answer-in-Err-Undetected.result _ _ _ _ (record {
      line = e.field-0-0;
      port = e.field-0-1;
      event = e.field-0-2;
      summed = subst (λ lines. SummedUndetected lines e.field-0-0 e.field-0-1 e.field-0-2)
          c.in-Ok.ensures.lines undetected;
    }) c.write_answer-in-Err-Undetected.ensures.answers
