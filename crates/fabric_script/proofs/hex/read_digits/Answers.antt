use Rattle.std.proofs.Common.{◌≡◌, ◌<◌, rules, arith}
use Rattle.fabric_script.proofs.DigitWords.{no_digits-count, no_digits-stop, digits-turn, below-turn, digits-fit}
use Rattle.fabric_script.proofs.hex.read_digits.Goals as goal

pub returns-then-word-count : goal.returns-then-word-count
returns-then-word-count c = no_digits-count c.args.word.now c.args.count c.if-word-count.true

pub returns-in_default : goal.returns-in_default
returns-in_default c = no_digits-stop c.args.word.now c.args.count c.loop-digit.digit-index
    (omega arith) c.in_default.ensures

pub overflow_add-value : goal.overflow_add-value
overflow_add-value c =
    let digit = c.in-Some.ensures in
    let few : c.loop-digit.digit-index < 8 = omega arith in
    let low : c.from.result < 16 = omega (arith, digit.0) in
    search (
      rules,
      digits-fit c.loop-digit.digit-index c.loop-digit.value c.from.result few
          c.loop-digit.invariant.below low,
    )

pub loop-digit-preserved : goal.loop-digit-preserved
loop-digit-preserved c =
    let digit = c.in-Some.ensures in
    let same : c.from.result ≡ c.in-Some.low = search rules in
    rw same record {
      read = digits-turn c.args.word.now c.loop-digit.digit-index c.loop-digit.value c.in-Some.low
          (omega arith) c.loop-digit.invariant.read digit.0 digit.1;
      below = below-turn c.loop-digit.digit-index c.loop-digit.value c.in-Some.low
          c.loop-digit.invariant.below digit.0;
    }
