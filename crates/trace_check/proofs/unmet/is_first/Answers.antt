use Rattle.std.proofs.Common.{Some, sym, ap, ◌∙◌}
use Rattle.std.proofs.lemmas.Option.{same_Some}
use Rattle.std.proofs.lemmas.Slice.Eq.{bytes_eq-Decides}
use Rattle.trace_check.proofs.unmet.is_first.Goals as goal

pub returns-in-Some : goal.returns-in-Some
returns-in-Some c =
    let first = c.in-Some.first in
    let packet = c.args.packet.now in
    let decides = bytes_eq-Decides first packet in (
      λ yes. c.in-Some.is ∙ ap Some (decides.0 (sym c.eq.ensures ∙ yes)),
      λ same. c.eq.ensures ∙ decides.1 (same_Some first packet (sym c.in-Some.is ∙ same)),
    )
