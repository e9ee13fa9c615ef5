use Rattle.std.proofs.Common.{sym, ◌∙◌}
use Rattle.trace_check.proofs.network.Network.unmet_free.Goals as goal

pub returns-then-is_first : goal.returns-then-is_first
returns-then-is_first c = λ nodes net is is_in.
    sym (c.first_lent-first.ensures nodes net is is_in) ∙ c.is_first.ensures.0 c.if-is_first.true

pub returns-else-is_first : goal.returns-else-is_first
returns-else-is_first c = λ nodes net is is_in.
    let told = c.first_lent-first.ensures nodes net is is_in in (
      told,
      λ same. let yes = c.is_first.ensures.1 (told ∙ same) in cc (yes, c.if-is_first.false),
    )
