use Rattle.std.proofs.Common.{◌≡◌, length, refl, arith}
use Rattle.library_calls.proofs.WordLaws.{four_chars, read_one, read_back}
use Rattle.library_calls.proofs.words.read_symbol.Goals as goal

pub returns : goal.returns
returns c =
    let numbers = c.args.numbers.now in
    let read = c.read_run-count in
    let four : length numbers ≡ 4 = omega (arith, c.in-len4.len_at_least, c.in-len4.len_below) in
    let chars = four_chars numbers _ _ _ _ four c.wire_char.ensures c.wire_char-2.ensures
    c.wire_char-3.ensures c.wire_char-4.ensures in
    let said = read_one numbers _ c.new.result read.result.0 read.result.1 c.in-Ctl.symbol chars
    four c.new.ensures read.ensures.count read.ensures.told c.in-Ctl.is
    c.if-count-ne-SYMBOL.false in
    (c.in-Ctl.symbol, said, c.symbol_told.ensures)

pub returns-then-count-ne-SYMBOL : goal.returns-then-count-ne-SYMBOL
returns-then-count-ne-SYMBOL c = (
  λ symbol says.
      let numbers = c.args.numbers.now in
      let read = c.read_run-count in
      let four : length numbers ≡ 4 = omega (arith, c.in-len4.len_at_least, c.in-len4.len_below) in
      let chars = four_chars numbers _ _ _ _ four c.wire_char.ensures c.wire_char-2.ensures
      c.wire_char-3.ensures c.wire_char-4.ensures in
      c.if-count-ne-SYMBOL.true (read_back numbers _ c.new.result read.result.0 read.result.1
      symbol chars c.new.ensures read.ensures.count read.ensures.told says).0,
  refl,
)

pub returns-in_default-read : goal.returns-in_default-read
returns-in_default-read c = (
  λ symbol says.
      let numbers = c.args.numbers.now in
      let read = c.read_run-count in
      let four : length numbers ≡ 4 = omega (arith, c.in-len4.len_at_least, c.in-len4.len_below) in
      let chars = four_chars numbers _ _ _ _ four c.wire_char.ensures c.wire_char-2.ensures
      c.wire_char-3.ensures c.wire_char-4.ensures in
      c.in_default-read.not-Ctl symbol (read_back numbers _ c.new.result read.result.0 read.result.1
      symbol chars c.new.ensures read.ensures.count read.ensures.told says).1,
  refl,
)
