use Rattle.std.proofs.Common.{◌%◌, ◌<◌, bit_xor, get_or, ap, ◌∙◌, arith}
use Rattle.std.proofs.lemmas.Nat.{xor_lt, and_mask}
use Rattle.rio_symbols.specs.declared.crc.TheConstants.{CRC5_TABLE}
use Rattle.rio_symbols.proofs.CrcLaws.{entry_remainder, crc5_entry-lt}
use Rattle.rio_symbols.proofs.crc.feed.Goals as goal

pub bounds-from : goal.bounds-from
bounds-from c =
    let fits : bit_xor c.args.register (c.args.number % 32) < 32 =
    xor_lt 5 c.args.register (c.args.number % 32) c.requires (omega arith) in
    omega (arith, fits, c.from.ensures, ap (bit_xor c.args.register) (and_mask c.args.number 5))

pub returns-clause-value : goal.returns-clause-value
returns-clause-value c =
    let fits : bit_xor c.args.register (c.args.number % 32) < 32 =
    xor_lt 5 c.args.register (c.args.number % 32) c.requires (omega arith) in
    ap (λ n. get_or CRC5_TABLE n 0)
    (c.from.ensures ∙ ap (bit_xor c.args.register) (and_mask c.args.number 5))
    ∙ entry_remainder (bit_xor c.args.register (c.args.number % 32)) fits

pub returns-clause-small : goal.returns-clause-small
returns-clause-small c =
    let value = returns-clause-value c in
    rw value (crc5_entry-lt (bit_xor c.args.register (c.args.number % 32)))
