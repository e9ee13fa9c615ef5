use Rattle.std.proofs.Common.{◌≡◌, ◌+◌, ◌/◌, ◌++◌, sym, subst, arith}
use Rattle.fabric_script.specs.Soak.{soak_step_lines, numbered_from}
use Rattle.fabric_script.proofs.SoakLaws.{IsUpTo, up_to_none, up_to_next, up_to_all}
use Rattle.fabric_script.proofs.soak.push_steps.Goals as goal

pub loop-step-init : goal.loop-step-init
loop-step-init c = record {
  small = c.requires.small;
  count = omega arith;
  numbered = λ before is. up_to_none c.args.seed c.args.lines.now.items before is;
}

pub loop-step-preserved : goal.loop-step-preserved
loop-step-preserved c =
    let number = c.loop-step.number in
    let next = c.next_number-number.ensures.next in
    let new = c.push_round_behind.new.lines.items in
    let old = c.loop-step.invariant in
    let one = c.in_ok-push_step.ensures in
    let two = c.in_ok-push_round_behind.ensures in
    let a = old.count in
    let b = one.count in
    let d = two.count in
    record {
      small = c.next_number-number.ensures.small;
      count = omega (arith, a, b, d);
      numbered = λ before is.
          subst (λ x. IsUpTo c.args.seed (c.loop-step.step + 1) x new before) (sym next)
          (up_to_next c.args.seed c.loop-step.step number c.loop-step.lines.items
          c.push_step.new.lines.items new before c.loop-step-test.true (old.numbered before is)
          (λ ls at. subst (λ x. c.push_step.new.lines.items
          ≡ numbered_from 1 (ls ++ soak_step_lines (x / 65536))) next (one.numbered ls at))
          two.numbered);
    }

pub returns-clause-numbered : goal.returns-clause-numbered
returns-clause-numbered c = λ before is.
    let end : c.loop-step.step ≡ 2000 = omega arith in
    up_to_all c.args.seed c.loop-step.number c.loop-step.lines.items before
    (subst (λ i. IsUpTo c.args.seed i c.loop-step.number c.loop-step.lines.items before) end
    (c.loop-step.invariant.numbered before is))
