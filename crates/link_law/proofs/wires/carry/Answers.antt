use Rattle.link_law.proofs.Prelude.{List, ap, ◌∙◌, answers}
use Rattle.rio_symbols.specs.Fields.{Fields}
use Rattle.link_law.proofs.wires.carry.Goals as goal

pub returns-clause-told : goal.returns-clause-told
returns-clause-told c = record {
  got_is = c.in_ok-undetected.ensures.got;
  moves_are = c.in_ok-undetected.ensures.moves;
  answers_are =
      c.in_ok-reply.ensures.sent
      ∙ ap (λ (replies : List Fields). (answers replies).chars)
      (c.as_slice.ensures.value ∙ c.in_ok-undetected.ensures.replies);
  found_is = c.in_ok-undetected.ensures.undetected;
}
