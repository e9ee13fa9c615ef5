use Rattle.live_fabric.proofs.AnsweringLaws.{on_err}
use Rattle.live_fabric.proofs.AskedLaws.{ask_answered}
use Rattle.live_fabric.proofs.session.Session.ask.Goals as goal

pub returns-in_err-outcome-clause-breaks : goal.returns-in_err-outcome-clause-breaks
returns-in_err-outcome-clause-breaks g c =
    on_err c.from_residual.result c.in_err-outcome.ensures.breaks

pub returns-clause-answered : goal.returns-clause-answered
returns-clause-answered g c = λ held holds.
    ask_answered held c.args.number c.args.words.now c.args.outbox.now c.tell_ask.new.outbox
    c.write.new.self c.tell_ask.new.self c.in_ok-outcome.outcome
    (c.in_ok-outcome.ensures.told held holds) c.write.ensures
