use Rattle.live_fabric.proofs.AnsweringLaws.{on_err}
use Rattle.live_fabric.proofs.SessionLaws.{session_answered}
use Rattle.live_fabric.proofs.session.Session.answer.Goals as goal

pub returns-in_err-going-clause-breaks : goal.returns-in_err-going-clause-breaks
returns-in_err-going-clause-breaks g c =
    on_err c.from_residual.result c.in_err-going.ensures.breaks

pub returns-clause-answered : goal.returns-clause-answered
returns-clause-answered g c = λ held holds.
    session_answered held c.args.number c.args.line.now c.args.outbox.now c.tell.new.outbox
    c.write.new.self c.tell.new.self c.in_ok-going.going
    (c.in_ok-going.ensures.told held holds) c.write.ensures
