use Rattle.std.proofs.lemmas.List.{take_rest}
use Rattle.std.proofs.Common.{◌∙◌, refl, sym}
use Rattle.rio_chars.proofs.FrontLaws.{AppendsFront-begin, AppendsFront-more}
use Rattle.rio_chars.proofs.writing.write_all.Goals as goal

pub loop-rest-init : goal.loop-rest-init
loop-rest-init g c =
    let begun = AppendsFront-begin (g.K.Sink.written c.args.sink.now) c.args.bytes.now in
    (begun.0, begun.1, refl)

pub loop-rest-preserved : goal.loop-rest-preserved
loop-rest-preserved g c =
    let more =
    AppendsFront-more _ _ (g.K.Sink.written c.write.new.self) c.args.bytes.now
    c.loop-rest.rest.now c.in_ok-count.count c.loop-rest.invariant.0 c.loop-rest.invariant.1
    c.in_ok-count.ensures.bytes in (
      more.0,
      more.1
          ∙ sym (take_rest c.loop-rest.rest.now c.in_ok-count.count),
      c.in_ok-count.ensures.counts
          ∙ c.loop-rest.invariant.2,
    )
