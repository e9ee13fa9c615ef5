use Rattle.std.proofs.Common.{inl, inr, refl}
use Rattle.std.proofs.KnownBytes.{Keeps-refl}
use Rattle.rio_live.proofs.program.serve_words.Goals as goal

pub returns-in-Some : goal.returns-in-Some
returns-in-Some g c = inr (inl (
  record {
    question = c.in-Some.question;
    asks = c.in-Some.ensures;
    tells = c.tell_question.ensures;
  },
  (Keeps-refl _, refl),
))
