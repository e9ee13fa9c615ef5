use Rattle.std.proofs.Common.{refl, arith}
use Rattle.fabric_script.specs.Words.{words_left}
use Rattle.conform_lines.proofs.ItemLaws.{link_bytes_long, no_spoiled}
use Rattle.conform_lines.proofs.items.read_spoiled.Goals as goal

pub returns-in_default : goal.returns-in_default
returns-in_default c =
    no_spoiled _ (words_left c.args.words) refl (λ bytes long.
    (rw c.in_default.is at c.in_ok-bytes.ensures) bytes)

pub returns-then-len-le4 : goal.returns-then-len-le4
returns-then-len-le4 c = λ item h.
    let long = link_bytes_long (words_left c.args.words) c.in-Some.bytes.items
    (rw c.in-Some.is at c.in_ok-bytes.ensures) in
    omega (arith, long, c.len.ensures.value)
