use Rattle.std.proofs.Common.{refl, inl, inr}
use Rattle.std.proofs.KnownBytes.{Keeps-refl}
use Rattle.rio_follow.proofs.program.follow_words.Goals as goal

pub returns-in-Some : goal.returns-in-Some
returns-in-Some g c = inr (inr (inl (
  record {
    question = c.in-Some.question;
    asks = c.in-Some.ensures;
    failed = c.answer_question.result;
    told = c.answer_question.ensures;
    ends = c.told.ensures;
  },
  (Keeps-refl _, refl),
)))

pub returns-then-asks_reactions : goal.returns-then-asks_reactions
returns-then-asks_reactions g c =
    inr (inl (rw c.if-asks_reactions.true at c.asks_reactions.ensures, c.react.ensures))
