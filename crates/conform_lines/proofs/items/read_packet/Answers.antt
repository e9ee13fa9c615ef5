use Rattle.std.proofs.Common.{refl}
use Rattle.fabric_script.specs.Words.{words_left}
use Rattle.conform_lines.proofs.ItemLaws.{no_packet}
use Rattle.conform_lines.proofs.items.read_packet.Goals as goal

pub returns-in-None : goal.returns-in-None
returns-in-None c =
    no_packet _ (words_left c.args.words) refl (rw c.in-None.is at c.in_ok-bytes.ensures)
