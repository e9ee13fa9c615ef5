use Rattle.std.proofs.Common.{rules, tests, arith}
use Rattle.fabric_script.proofs.Decimals.{no_decimal-empty, no_decimal-zero, no_decimal-long, decimal_zero}
use Rattle.fabric_script.proofs.numbers.read_number.Goals as goal

pub returns-then-is_empty : goal.returns-then-is_empty
returns-then-is_empty c = no_decimal-empty c.args.word.now (search (rules, tests))

pub returns-then-word-eq1 : goal.returns-then-word-eq1
returns-then-word-eq1 c = decimal_zero c.args.word.now c.if-word-eq48.true c.if-word-eq1.true

pub returns-else-word-eq1 : goal.returns-else-word-eq1
returns-else-word-eq1 c = no_decimal-zero c.args.word.now c.if-word-eq48.true c.if-word-eq1.false

pub returns-then-word-gt-MOST_DIGITS : goal.returns-then-word-gt-MOST_DIGITS
returns-then-word-gt-MOST_DIGITS c = no_decimal-long c.args.word.now (omega arith)
