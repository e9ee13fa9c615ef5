use Rattle.std.proofs.Common.{arith}
use Rattle.rio_chars.proofs.DecimalText.{DigitsFrom-begin, DigitsFrom-step, power_step}
use Rattle.rio_chars.proofs.digits.write_decimal.Goals as goal

pub loop-rest-init : goal.loop-rest-init
loop-rest-init c = record {
  within = omega arith;
  below = omega arith;
  digits =
      DigitsFrom-begin c.args.number c.args.digits.now (omega arith) (omega arith) (omega arith);
}

pub loop-rest-preserved : goal.loop-rest-preserved
loop-rest-preserved c =
    let loop = c.loop-rest in
    let step = power_step loop.rest loop.begin (omega arith) loop.invariant.below in
    record {
      within = omega arith;
      below = step.1;
      digits =
          DigitsFrom-step c.args.number loop.rest loop.begin loop.digits (omega arith) (omega arith)
          step.0 (omega arith) loop.invariant.digits;
    }
