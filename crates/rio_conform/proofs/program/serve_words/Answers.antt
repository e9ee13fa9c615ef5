use Rattle.std.proofs.Common.{refl, inl, inr}
use Rattle.rio_conform.specs.Program.{play_asked}
use Rattle.rio_conform.proofs.program.serve_words.Goals as goal

pub returns-in-Some-clause-did : goal.returns-in-Some-clause-did
returns-in-Some-clause-did g c = inl (
  c.tell_question-status.result,
  record {
    question = c.in-Some.question;
    asks = c.in-Some.ensures;
    tells = c.tell_question-status.ensures;
  },
  refl,
)

pub returns-clause-did : goal.returns-clause-did
returns-clause-did g c = inr (inl (
  play_asked c.in-Some-read_asked.asked,
  c.in-Some-read_asked.ensures.asks,
  refl,
  c.in_default.ensures,
  c.play-verdict.ensures.plays,
))
