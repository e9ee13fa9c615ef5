use Rattle.std.proofs.Common.{sym, ap, ◌∙◌}
use Rattle.fabric_model.specs.Network.{first_packet}
use Rattle.trace_check.proofs.network.Network.unmet_held.Goals as goal

pub returns-then-is_first : goal.returns-then-is_first
returns-then-is_first c = λ nodes net is is_in.
    let p = c.args.port in
    ap (λ r. first_packet (net.received p r)) (sym c.prio-prio.ensures.value)
    ∙ sym (c.first_held-first.ensures nodes net is is_in) ∙ c.is_first.ensures.0 c.if-is_first.true

pub returns-else-is_first : goal.returns-else-is_first
returns-else-is_first c = λ nodes net is is_in.
    let p = c.args.port in
    let told = c.first_held-first.ensures nodes net is is_in
    ∙ ap (λ r. first_packet (net.received p r)) c.prio-prio.ensures.value in (
      c.prio-prio.ensures.value,
      (
        told,
        λ same. let yes = c.is_first.ensures.1 (told ∙ same) in cc (yes, c.if-is_first.false),
      ),
    )
