use Rattle.std.proofs.Common.{set, slice_index, ap, ◌+◌, ◌*◌, ◌∙◌, List}
use Rattle.rio_chars.specs.declared.chars.Char.{Char}
use Rattle.rio_chars.specs.declared.chars.Char.TheVariants.{Data}
use Rattle.link_wires.proofs.SendLaws.{data_with_ack}
use Rattle.link_wires.proofs.sends.write_packet.Goals as goal

pub returns : goal.returns
returns c =
    ap (λ (l : List Char). set l 0 (Data (8 * c.args.ack + slice_index c.args.bytes.now 0)))
    c.write_data.ensures
    ∙ data_with_ack c.args.ack c.args.bytes.now c.requires.some
