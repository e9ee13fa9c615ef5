-- The runs of one packet and of one status are traces of their scripts.
use Rattle.fabric_trace.proofs.Prelude.{◌<◌, true, [], ◌∷◌, arith, refl, false, All-from_recursion, bits, number, division_steps, complemented, field_bits, crc5_message, crc5_of, crc5_value, symbol_bytes, spelled, is_spelling, highest_below, packet_event, run, place_after, kind, window, come, port_turned, bursts, new_endpoint, greatest_first, carried, body_of, IsBody, LinkForm, fed, shifted, shifted_times, LinkForm-made, packet, Hold, Free, Take, Leave, Linked, AtNode, sends, Sent, Got, Stepped, Signed, Runs, near, far, packet_chars, accepted_chars, packet_script, packet_trace, status_chars, telling_script, telling_trace}
use Rattle.link_model.specs.ReadingSpelt.{symbol_chars_of, bytes_with_ack, packet_chars_of}
use Rattle.link_port.specs.Acts.{replies}
use Rattle.rio_packets.specs.Making.{with_crc, with_more}

body : IsBody (body_of 0 15 false 2 1 (0xca ∷ 0xfe ∷ 0x00 ∷ 0x01 ∷ []))
body = record {
  even = refl;
  least = omega arith;
  most = omega arith;
  range =
      All-from_recursion (λ b. b < 256) (body_of 0 15 false 2 1 (0xca ∷ 0xfe ∷ 0x00 ∷ 0x01 ∷ [])) (
        omega arith,
        (
          omega arith,
          (
            omega arith,
            (
              omega arith,
              (omega arith, (omega arith, (omega arith, (omega arith, tt)))),
            ),
          ),
        ),
      );
  origin = omega arith;
}

form : LinkForm (body_of 0 15 false 2 1 (0xca ∷ 0xfe ∷ 0x00 ∷ 0x01 ∷ [])) packet
unfolding with_crc with_more fed shifted shifted_times
form = LinkForm-made (body_of 0 15 false 2 1 (0xca ∷ 0xfe ∷ 0x00 ∷ 0x01 ∷ [])) body

pub packet_runs : Runs packet_script packet_trace
unfolding run place_after kind spelled is_spelling crc5_value crc5_of crc5_message field_bits bits
    number division_steps complemented packet_event carried fed shifted shifted_times with_crc
    with_more symbol_bytes symbol_chars_of bytes_with_ack packet_chars_of bursts port_turned
    highest_below window come sends replies greatest_first
packet_runs = (
  Stepped (AtNode (Take 0 packet)) ∷ [],
  _,
  refl,
  record { packet = packet; endpoint = refl; form = form; lines = refl },
  (
    Signed (Sent near packet_chars) ∷ [],
    _,
    refl,
    refl,
    (
      Signed (Got far packet_chars) ∷ Stepped (Linked (Hold far packet))
          ∷ Signed (Sent far accepted_chars) ∷ [],
      _,
      refl,
      refl,
      (
        Signed (Got near accepted_chars) ∷ Stepped (Linked (Free near packet)) ∷ [],
        _,
        refl,
        refl,
        (
          Stepped (AtNode (Leave 1 packet)) ∷ [],
          _,
          refl,
          record {
            endpoint = refl;
            device = new_endpoint 2 true;
            stands = refl;
            form = tt;
            lines = refl;
          },
          refl,
        ),
      ),
    ),
  ),
)

-- a status of the one port, and none of the other
pub telling_runs : Runs telling_script telling_trace
unfolding run place_after kind spelled is_spelling crc5_value crc5_of crc5_message field_bits bits
    number division_steps complemented packet_event carried fed shifted shifted_times with_crc
    with_more symbol_bytes symbol_chars_of bytes_with_ack packet_chars_of bursts port_turned
    highest_below window come sends replies greatest_first
telling_runs = (
  Signed (Sent near status_chars) ∷ [],
  _,
  refl,
  refl,
  ([], _, refl, refl, (Signed (Got far status_chars) ∷ [], _, refl, refl, refl)),
)
