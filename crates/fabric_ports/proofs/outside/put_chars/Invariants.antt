use Rattle.std.proofs.Common.{◌≡◌, ◌+◌, ◌++◌, take}
use Rattle.std.specs.Vec.{vec_len, vec_capacity}
use Rattle.fabric_ports.proofs.outside.put_chars.Given as goal

abbrev pub invariant-loop-c : goal.invariant-loop-c
invariant-loop-c l = record {
  items : l.replies.items ≡ l.initial.replies.items ++ take l.c-index l.chars;
  len : vec_len l.replies ≡ vec_len l.initial.replies + l.c-index;
  capacity : vec_capacity l.replies ≡ vec_capacity l.initial.replies;
}
