use Rattle.std.proofs.Common.{◌≡◌, ◌*◌, ◌/◌, ◌%◌, ◌^◌, bit_xor, ap, sym, ◌∙◌, arith}
use Rattle.std.proofs.lemmas.Nat.{shl_whole}
use Rattle.rio_symbols.specs.Crc5.{crc5_entry}
use Rattle.rio_symbols.proofs.CrcLaws.{crc5_of-table, crc5_value-of_bits}
use Rattle.rio_symbols.proofs.crc.crc5.Goals as goal

pub returns-clause-bits : goal.returns-clause-bits
returns-clause-bits c =
    let n = c.field_number-bits.result in
    let whole : n * 2 % 4294967296 ≡ n * 2 =
    shl_whole n 19 1 32 c.field_number-bits.ensures.small (omega arith) in
    let same : n * 2 / 2 ^ 0 % 32 ≡ n * 2 % 32 = omega arith in
    sym (crc5_of-table c.args.symbol.now n c.feed-register.result c.feed-register-2.result
    c.feed-register-3.result c.feed.result
    c.field_number-bits.ensures.bits
    (c.feed-register.ensures.value ∙ ap (λ m. crc5_entry (bit_xor 31 (m / 2 ^ 15 % 32))) whole)
    (c.feed-register-2.ensures.value
    ∙ ap (λ m. crc5_entry (bit_xor c.feed-register.result (m / 2 ^ 10 % 32))) whole)
    (c.feed-register-3.ensures.value
    ∙ ap (λ m. crc5_entry (bit_xor c.feed-register-2.result (m / 2 ^ 5 % 32))) whole)
    (c.feed.ensures.value ∙ ap (λ m. crc5_entry (bit_xor c.feed-register-3.result (m % 32))) whole
    ∙ ap (λ m. crc5_entry (bit_xor c.feed-register-3.result m)) (sym same)))

pub returns-clause-value : goal.returns-clause-value
returns-clause-value c =
    crc5_value-of_bits c.args.symbol.now c.feed.result c.feed.ensures.small
    (sym (returns-clause-bits c))
