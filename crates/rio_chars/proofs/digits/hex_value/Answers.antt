use Rattle.std.proofs.Common.{◌<◌, arith}
use Rattle.rio_chars.proofs.HexTable.{entry_digit, entry_none}
use Rattle.rio_chars.proofs.digits.hex_value.Goals as goal

pub returns : goal.returns
returns c =
    let below : c.args.digit < 256 = omega arith in
    rw c.from.ensures (record {
      digit = entry_digit c.args.digit below;
      none = entry_none c.args.digit below;
    })
