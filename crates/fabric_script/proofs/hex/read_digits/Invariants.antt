use Rattle.std.proofs.Common.{◌≡◌, ◌<◌, ◌^◌, take}
use Rattle.fabric_script.specs.Texts.{digits_text}
use Rattle.fabric_script.proofs.hex.read_digits.Given as goal

abbrev pub invariant-loop-digit : goal.invariant-loop-digit
invariant-loop-digit l = record {
  read : take l.digit-index l.word ≡ digits_text l.digit-index l.value;
  below : l.value < 16 ^ l.digit-index;
}
