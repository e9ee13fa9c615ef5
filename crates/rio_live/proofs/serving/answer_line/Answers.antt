use Rattle.std.proofs.Common.{[], subst, append-nil}
use Rattle.rio_chars.specs.Written.{Writes}
use Rattle.rio_chars.proofs.WrittenLaws.{Writes-then}
use Rattle.live_fabric.specs.Sessions.{SessionHeld, SessionHolds, SessionAnswered, SessionBreaks}
use Rattle.live_fabric.proofs.AnsweringLaws.{on_each, on_each_err}
use Rattle.live_fabric.proofs.SessionLaws.{session_whole}
use Rattle.rio_live.proofs.serving.answer_line.Goals as goal

pub returns-clause-answered : goal.returns-clause-answered
returns-clause-answered g c =
    let out = c.args.outbox.now in
    let mid = c.answer-answered.new.outbox in
    let next = c.flush.new.self in
    let session = c.answer-answered.new.self in
    on_each
    (λ going. (held : SessionHeld) → SessionHolds c.args.session.now held
    → SessionAnswered held c.args.number c.args.line.now out mid session going)
    (λ going. (held : SessionHeld) → SessionHolds c.args.session.now held
    → SessionAnswered held c.args.number c.args.line.now out next session going)
    c.answer-answered.result
    (λ going was held holds. session_whole held c.args.number
    c.args.line.now out mid next session going (was held holds) c.flush.ensures.written)
    c.answer-answered.ensures.answered

pub returns-clause-breaks : goal.returns-clause-breaks
returns-clause-breaks g c =
    let out = c.args.outbox.now in
    let mid = c.answer-answered.new.outbox in
    let last = c.flush.new.self in
    let line = c.args.line.now in
    on_each_err
    ((held : SessionHeld) → SessionHolds c.args.session.now held
    → SessionBreaks held c.args.number line out mid)
    ((held : SessionHeld) → SessionHolds c.args.session.now held
    → SessionBreaks held c.args.number line out last)
    c.answer-answered.result
    (λ breaks held holds.
    let b = breaks held holds in
    record {
      text = b.text;
      is = b.is;
      told = subst (Writes out last) (append-nil b.text)
          (Writes-then b.text [] b.told c.flush.ensures.written);
    })
    c.answer-answered.ensures.breaks
