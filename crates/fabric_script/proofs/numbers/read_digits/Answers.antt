use Rattle.std.proofs.Common.{sym, ap, ◌∙◌, rules, tests, arith}
use Rattle.std.specs.Str.{all_ascii_digits}
use Rattle.std.proofs.lemmas.List.{drop_all}
use Rattle.fabric_script.proofs.Decimals.{read_on, all_digits-stop, no_decimal-other, no_decimal-large, decimal_of_digits}
use Rattle.fabric_script.proofs.numbers.read_digits.Goals as goal

pub returns-then-not-is_ascii_digit : goal.returns-then-not-is_ascii_digit
returns-then-not-is_ascii_digit c =
    let stop = all_digits-stop c.args.word.now c.loop-byte.byte-index (omega arith)
    (search (rules, tests)) in
    no_decimal-other c.args.word.now (sym c.loop-byte.invariant.digits ∙ stop)

pub returns-then-value-from : goal.returns-then-value-from
returns-then-value-from c =
    let end = drop_all c.loop-byte.byte-index c.args.word.now (omega arith) in
    let value = sym c.loop-byte.invariant.value ∙ ap (read_on c.loop-byte.value) end in
    no_decimal-large c.args.word.now c.loop-byte.value value (omega arith)

pub returns : goal.returns
returns c =
    let end = drop_all c.loop-byte.byte-index c.args.word.now (omega arith) in
    let value = sym c.loop-byte.invariant.value ∙ ap (read_on c.loop-byte.value) end in
    let digits = sym c.loop-byte.invariant.digits ∙ ap all_ascii_digits end in
    decimal_of_digits c.args.word.now c.loop-byte.value c.requires.some c.requires.first digits
    value (omega arith)
