use Rattle.std.proofs.Common.{rules}
use Rattle.fabric_script.proofs.HexWords.{no_hex}
use Rattle.fabric_script.proofs.hex.read_bytes.Goals as goal

pub returns-in_default : goal.returns-in_default
returns-in_default c =
    no_hex c.args.word.now (search rules) (rw c.in_default.is at c.in_ok-bytes.ensures)
