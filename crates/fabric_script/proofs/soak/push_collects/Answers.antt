use Rattle.std.proofs.Common.{◌∙◌, ◌++◌, ◌∷◌, [], ap, append-nil, append_assoc, sym, arith}
use Rattle.fabric_script.specs.declared.lines.Line.TheVariants.{Collect}
use Rattle.fabric_script.specs.Soak.{times, numbered_from}
use Rattle.fabric_script.proofs.SoakLaws.{times-push, times-none}
use Rattle.fabric_script.proofs.soak.push_collects.Goals as goal

pub loop-init : goal.loop-init
loop-init c = record {
  numbered = λ before is. is ∙ ap (λ ls. numbered_from 1 ls)
      (sym (append-nil before) ∙ ap (λ ls. before ++ ls) (times-none (Collect c.args.node)));
  count = omega arith;
}

pub loop-preserved : goal.loop-preserved
loop-preserved c =
    let line = Collect c.args.node in
    let i = c.loop.counter in
    let count = c.in_ok-push_line.ensures.count in
    let old = c.loop.invariant.count in
    record {
      numbered = λ before is.
          c.in_ok-push_line.ensures.numbered (before ++ times i line)
          (c.loop.invariant.numbered before is)
          ∙ ap (λ ls. numbered_from 1 ls) (append_assoc before (times i line) (line ∷ [])
          ∙ ap (λ ls. before ++ ls) (times-push i line
          ∙ ap (λ n. times n line) (omega arith)));
      count = omega (arith, count, old);
    }
