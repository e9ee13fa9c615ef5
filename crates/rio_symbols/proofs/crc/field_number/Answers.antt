use Rattle.std.proofs.Common.{◌≡◌, ◌+◌, ◌*◌, ◌∙◌, ap, arith}
use Rattle.crc_division.specs.Bits.{bits}
use Rattle.rio_symbols.specs.Crc5.{field_bits}
use Rattle.rio_symbols.proofs.CrcLaws.{bits-fields}
use Rattle.rio_symbols.proofs.crc.field_number.Goals as goal

pub returns-clause-bits : goal.returns-clause-bits
returns-clause-bits c =
    let s = c.symbol.inside in
    let whole : c.append.result ≡ (((s.s0 * 32 + s.p0) * 32 + s.p1) * 8 + s.s1) * 8 + s.cmd =
    omega arith in
    ap (bits 19) whole ∙ bits-fields _ c.symbol.invariant ∙ ap field_bits c.symbol.view_is
