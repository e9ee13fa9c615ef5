use Rattle.std.proofs.Common.{ap, ◌∙◌, sym, arith}
use Rattle.std.proofs.lemmas.List.{drop_more, drop_all}
use Rattle.rio_packets.specs.Register.{fed_all}
use Rattle.check_words.proofs.packet_words.run.Goals as goal

pub loop-byte-preserved : goal.loop-byte-preserved
loop-byte-preserved c =
    let bytes = c.args.message.now in
    let i = c.loop-byte.byte-index in
    rw c.feed-register.ensures (sym
    (ap (fed_all c.loop-byte.register) (drop_more bytes i 0 (omega arith))) ∙ c.loop-byte.invariant)

pub returns : goal.returns
returns c =
    let bytes = c.args.message.now in
    sym (ap (fed_all c.loop-byte.register) (drop_all c.loop-byte.byte-index bytes (omega arith)))
    ∙ c.loop-byte.invariant
