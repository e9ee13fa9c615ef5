use Rattle.std.proofs.Common.{append_assoc}
use Rattle.link_model.specs.ReadingSpelt.{data_chars, symbol_chars_of, bytes_with_ack, packet_chars_of}
use Rattle.rio_framer.proofs.sending.packet_chars.Goals as goal

pub returns : goal.returns
unfolding packet_chars_of bytes_with_ack
returns c =
    rw (
      c.push_chars-2.ensures,
      c.as_slice-3.ensures.value,
      c.symbol_chars-2.ensures,
      c.push_data.ensures,
      c.as_slice-2.ensures.value,
      c.with_ack.ensures.bytes,
      c.push_chars.ensures,
      c.as_slice.ensures.value,
      c.symbol_chars.ensures,
      c.new-chars.ensures,
    )
    (append_assoc (symbol_chars_of c.args.start.now)
    (data_chars (bytes_with_ack c.args.ack c.args.packet.now)) (symbol_chars_of c.args.end.now))
