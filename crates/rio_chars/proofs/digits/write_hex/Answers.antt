use Rattle.std.proofs.Common.{◌≡◌, ◌<◌, ◌*◌, length, arith}
use Rattle.rio_chars.proofs.HexLaws.{hex_of-step}
use Rattle.rio_chars.proofs.digits.write_hex.Goals as goal

pub loop-i-preserved : goal.loop-i-preserved
loop-i-preserved c =
    let below : c.loop-i.i < length c.args.bytes.now = omega arith in
    let fits : length c.loop-i.room ≡ 2 * length c.args.bytes.now = omega arith in
    rw (c.hex_digit.ensures, c.hex_digit-in-loop-i.ensures)
    (hex_of-step c.loop-i.room c.args.bytes.now c.loop-i.i below fits c.loop-i.invariant)
