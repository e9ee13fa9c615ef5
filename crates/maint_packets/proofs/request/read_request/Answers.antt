use Rattle.std.proofs.Common.{◌≡◌, ◌<◌, sym, ◌∙◌, subst, unwrap_or, rules}
use Rattle.rio_packets.specs.LinkForm.{AreBytes}
use Rattle.rio_packets.specs.Fields.{dest_of, source_of}
use Rattle.maint_packets.proofs.AnswerLaws.{IDs-small}
use Rattle.maint_packets.proofs.request.read_request.Goals as goal

pub returns-clause-dest : goal.returns-clause-dest
returns-clause-dest c small =
    let bytes = c.in_ok-bytes.bytes.now in
    let range : AreBytes bytes = c.in_ok-bytes.ensures.range in
    let e : unwrap_or (dest_of bytes) 0 ≡ c.in_ok-dest.field-0 = search rules in
    subst (λ n. n < 256) e (IDs-small bytes range (sym c.is_large.ensures ∙ small)).0

pub returns-clause-source : goal.returns-clause-source
returns-clause-source c small =
    let bytes = c.in_ok-bytes.bytes.now in
    let range : AreBytes bytes = c.in_ok-bytes.ensures.range in
    let e : unwrap_or (source_of bytes) 0 ≡ c.in_ok-source.field-0 = search rules in
    subst (λ n. n < 256) e (IDs-small bytes range (sym c.is_large.ensures ∙ small)).1
