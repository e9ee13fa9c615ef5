use Rattle.std.proofs.Common.{◌≡◌, ◌*◌, ◌/◌, ◌%◌, bit_xor, sym, ap, ◌∙◌, arith}
use Rattle.rio_packets.specs.Tables.{after_zeros}
use Rattle.rio_packets.proofs.LinearLaws.{fed-split}
use Rattle.check_words.proofs.packet_words.feed.Goals as goal

pub returns : goal.returns
returns c =
    let moved : c.from.result * 256 % 65536 ≡ c.args.register % 256 * 256 = omega arith in
    ap (λ n. bit_xor n (c.from.result * 256 % 65536))
    (c.after_byte.ensures ∙ ap (λ n. after_zeros 0 (bit_xor n c.args.byte)) c.high.ensures)
    ∙ ap (bit_xor (after_zeros 0 (bit_xor (c.args.register / 256) c.args.byte))) moved
    ∙ sym (fed-split c.args.register c.args.byte (omega arith) (omega arith))
