use Rattle.std.proofs.Common.{refl, inl, inr}
use Rattle.std.proofs.KnownBytes.{Keeps-refl}
use Rattle.rio_port.proofs.LogLaws.{SaysLog-none, SaysLog-asked, no_port_asked}
use Rattle.rio_port.proofs.program.serve_words.Goals as goal

pub returns-in-Some-clause-did : goal.returns-in-Some-clause-did
returns-in-Some-clause-did g c = rw c.unlogged.ensures.status (inl (
  record {
    question = c.in-Some.question;
    asks = c.in-Some.ensures;
    tells = c.tell_question.ensures;
  },
  (Keeps-refl (g.S.Source.left c.args.source.now), refl),
))

pub returns-in-Some-clause-says : goal.returns-in-Some-clause-says
returns-in-Some-clause-says g c = rw c.unlogged.ensures.failed (SaysLog-none _ _ _)

pub returns-in-Some-settings_of-clause-did : goal.returns-in-Some-settings_of-clause-did
returns-in-Some-settings_of-clause-did g c = inr (inl (
  c.split_log-logs.result.is_asked,
  _,
  c.in-Some-settings_of.settings,
  c.split_log-logs.ensures,
  c.in-Some-settings_of.ensures.asks,
  c.in_default.ensures,
  c.serve.ensures.serves,
))

pub returns-in-Some-settings_of-clause-says : goal.returns-in-Some-settings_of-clause-says
returns-in-Some-settings_of-clause-says g c =
    SaysLog-asked _ _ _ _ _ _ _ _ c.split_log-logs.ensures c.serve.ensures.logs

pub returns-in-None-clause-did : goal.returns-in-None-clause-did
returns-in-None-clause-did g c = rw c.unlogged-in-None.ensures.status (inr (inr (
  no_port_asked _ _ _ c.split_log-logs.ensures c.in-None.ensures.asks,
  c.in_default.ensures,
  refl,
  Keeps-refl (g.K.Sink.written c.args.sink.now),
  refl,
  (Keeps-refl (g.S.Source.left c.args.source.now), refl),
)))

pub returns-in-None-clause-says : goal.returns-in-None-clause-says
returns-in-None-clause-says g c = rw c.unlogged-in-None.ensures.failed (SaysLog-none _ _ _)
