use Rattle.std.proofs.Common.{◌≡◌, ◌<◌, ◌^◌, drop}
use Rattle.std.specs.Str.{all_ascii_digits}
use Rattle.fabric_script.proofs.Decimals.{read_on}
use Rattle.fabric_script.proofs.numbers.read_digits.Given as goal

abbrev pub invariant-loop-byte : goal.invariant-loop-byte
invariant-loop-byte l = record {
  value : read_on l.value (drop l.byte-index l.word) ≡ read_on 0 l.word;
  digits : all_ascii_digits (drop l.byte-index l.word) ≡ all_ascii_digits l.word;
  below : l.value < 10 ^ l.byte-index;
}
