use Rattle.std.proofs.Common.{List, ℕ, length, ap, ◌∙◌, subst}
use Rattle.rio_packets.specs.declared.making.Header.{Header}
use Rattle.rio_packets.specs.Fields.{body_of}
use Rattle.rio_packets.specs.LinkForm.{LinkForm}
use Rattle.library_calls.specs.Rooms.{laid_over}
use Rattle.library_calls.proofs.WordLaws.{with_ack_is, with_ack_length}
use Rattle.library_calls.proofs.words.write_packet.Goals as goal

pub returns : goal.returns
returns c =
    let packet = c.in-Ok.packet in
    let ack = c.args.ack in
    let bytes = c.as_slice.ensures.value ∙ c.with_ack.ensures.bytes in (
      packet,
      record {
        fields = c.in-Some.ensures.0;
        ack_fits = c.if-ack-ge32.false;
        has_room = c.if-room-lt-PACKET.false;
      },
      (
        c.in-Some.ensures.0,
        subst (λ (h : Header). LinkForm (body_of h.prio h.ftype h.large h.dest h.source
            c.args.rest.now) packet) c.in-Some.ensures.1 c.in-Ok.ensures.ok,
      ),
      c.put_bytes.ensures.room ∙ ap (λ (b : List ℕ). laid_over b c.args.room.now)
          (bytes ∙ with_ack_is ack packet),
      c.put_bytes.ensures.count ∙ ap length bytes ∙ with_ack_length ack packet,
    )
