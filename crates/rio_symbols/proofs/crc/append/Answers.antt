use Rattle.std.proofs.Common.{◌*◌, ◌^◌, bit_or, ap, ◌∙◌, arith}
use Rattle.std.proofs.lemmas.Nat.{or_shifted, shl_whole}
use Rattle.rio_symbols.proofs.crc.append.Goals as goal

-- the number has room above the field, and the field does not reach it
pub returns : goal.returns
returns c =
    ap (λ high. bit_or high c.from.result)
    (shl_whole c.args.number 16 c.args.width 32 c.requires.room (omega arith))
    ∙ ap (bit_or (c.args.number * 2 ^ c.args.width)) c.from.ensures
    ∙ or_shifted c.args.number c.args.width c.args.field c.requires.fits
