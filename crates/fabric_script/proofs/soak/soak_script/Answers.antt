use Rattle.std.proofs.Common.{◌≡◌, ◌∙◌, ◌%◌, ◌++◌, ap, append-nil, append_assoc, sym, subst, arith}
use Rattle.fabric_script.specs.Soak.{soak_names, soak_set_up, round_lines, last_rounds, numbered_from}
use Rattle.fabric_script.specs.Scripts.{ScriptPasses}
use Rattle.fabric_script.proofs.SoakLaws.{steps_behind, rounds_end, rounds-push, soak_parts}
use Rattle.fabric_script.proofs.SoakPasses.{soak_passes}
use Rattle.fabric_script.proofs.soak.soak_script.Goals as goal

pub loop-init : goal.loop-init
loop-init c =
    let set_up = c.in_ok-push_set_up.ensures in
    let steps = c.in_ok-push_steps.ensures in
    let a = set_up.count in
    let b = steps.count in
    let front = soak_set_up ++ steps_behind 1 2000 (c.args.seed % 2147483648) in
    record {
      names = c.in_ok-names.ensures;
      numbered = steps.numbered soak_set_up set_up.numbered
          ∙ ap (λ ls. numbered_from 1 ls)
          (sym (append-nil front) ∙ ap (λ ls. front ++ ls) rounds_end);
      count = omega (arith, a, b);
    }

pub loop-preserved : goal.loop-preserved
loop-preserved c =
    let old = c.loop.invariant in
    let added = c.in_ok-push_round.ensures in
    let a = old.count in
    let b = added.count in
    let front = soak_set_up ++ steps_behind 1 2000 (c.args.seed % 2147483648) in
    record {
      names = old.names;
      numbered = added.numbered _ old.numbered
          ∙ ap (λ ls. numbered_from 1 ls)
          (append_assoc front (last_rounds c.loop.counter) (round_lines 8)
          ∙ ap (λ ls. front ++ ls) (rounds-push c.loop.counter
          ∙ ap (λ n. last_rounds n) (omega arith)));
      count = omega (arith, a, b);
    }

pub returns-clause-lines : goal.returns-clause-lines
returns-clause-lines c =
    let end : c.loop.counter ≡ 16 = omega arith in
    c.loop.invariant.numbered
    ∙ ap (λ n. numbered_from 1 ((soak_set_up ++ steps_behind 1 2000 (c.args.seed % 2147483648))
    ++ last_rounds n)) end ∙ soak_parts c.args.seed

pub returns-clause-passes : goal.returns-clause-passes
returns-clause-passes c =
    let end : c.loop.counter ≡ 16 = omega arith in
    let lines = c.loop.invariant.numbered
    ∙ ap (λ n. numbered_from 1 ((soak_set_up ++ steps_behind 1 2000 (c.args.seed % 2147483648))
    ++ last_rounds n)) end ∙ soak_parts c.args.seed in
    subst (λ ns. ScriptPasses ns c.loop.lines.items) (sym c.loop.invariant.names)
    (subst (λ ls. ScriptPasses soak_names ls) (sym lines) (soak_passes c.args.seed))
