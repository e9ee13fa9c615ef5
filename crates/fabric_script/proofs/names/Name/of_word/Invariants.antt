use Rattle.std.proofs.Common.{◌≡◌, take}
use Rattle.arrayvec.specs.ArrayVec.{array_vec_len}
use Rattle.fabric_script.proofs.names.Name.of_word.Given as goal

abbrev pub invariant-loop-byte : goal.invariant-loop-byte
invariant-loop-byte l = record {
  items : l.items.items ≡ take l.byte-index l.word;
  count : array_vec_len l.items ≡ l.byte-index;
}
