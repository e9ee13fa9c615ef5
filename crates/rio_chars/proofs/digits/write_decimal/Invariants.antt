use Rattle.std.proofs.Common.{◌≤◌, ◌<◌, ◌^◌}
use Rattle.rio_chars.proofs.DecimalText.{DigitsFrom}
use Rattle.rio_chars.proofs.digits.write_decimal.Given as goal

abbrev pub invariant-loop-rest : goal.invariant-loop-rest
invariant-loop-rest l = record {
  within : l.begin ≤ 9;
  below : l.rest < 10 ^ l.begin;
  digits : DigitsFrom l.number l.rest l.begin l.digits;
}

abbrev pub decreases-loop-rest : goal.decreases-loop-rest
decreases-loop-rest l = l.rest
