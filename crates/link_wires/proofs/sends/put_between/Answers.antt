use Rattle.std.proofs.Common.{◌++◌, List, ap, ◌∙◌}
use Rattle.rio_chars.specs.declared.chars.Char.{Char}
use Rattle.link_model.specs.ReadingSpelt.{data_chars, symbol_chars_of, bytes_with_ack}
use Rattle.link_wires.proofs.SendLaws.{packet_behind}
use Rattle.link_wires.proofs.sends.put_between.Goals as goal

pub returns-clause-chars : goal.returns-clause-chars
returns-clause-chars c =
    c.in_ok-put_symbol-2.ensures.chars
    ∙ ap (λ (l : List Char). l ++ symbol_chars_of c.args.end)
    (c.in_ok-put_packet.ensures.chars
    ∙ ap (λ (l : List Char). l ++ data_chars (bytes_with_ack c.args.ack c.args.packet.now))
    c.in_ok-put_symbol.ensures.chars)
    ∙ packet_behind c.args.chars.now.items c.args.start c.args.ack c.args.packet.now c.args.end
