use Rattle.std.proofs.Common.{rules, refl, sym, ap, ◌∙◌, subst}
use Rattle.rio_chars.specs.Written.{Writes}
use Rattle.refusal_words.specs.Citing.{refusal_line}
use Rattle.refusal_words.specs.Reasons.{script_reason}
use Rattle.live_fabric.specs.Sessions.{SessionTold}
use Rattle.live_fabric.proofs.AnsweringLaws.{on_err}
use Rattle.live_fabric.proofs.SessionLaws.{told_own, told_serve, told_ask, breaks_ask, session_breaks_at_once}
use Rattle.live_fabric.proofs.FacingLaws.{may_outside}
use Rattle.live_fabric.proofs.OutsideLaws.{spelled_held, refused_held, outside_taken, outside_refused}
use Rattle.live_fabric.proofs.OwnedLaws.{told_standard}
use Rattle.live_fabric.proofs.session.Session.tell.Goals as goal

pub returns-in-Some-clause-told : goal.returns-in-Some-clause-told
returns-in-Some-clause-told g c = λ held holds.
    told_own held c.args.number c.args.line.now c.args.outbox.now c.obey.new.self c.in-Some.own
    c.in-Some.ensures (c.obey.ensures held holds)

pub returns-in-Some-serve_words-clause-told : goal.returns-in-Some-serve_words-clause-told
returns-in-Some-serve_words-clause-told g c = λ held holds.
    told_serve held c.args.number c.args.line.now c.args.outbox.now c.serve.new.outbox
    c.serve.new.self c.in-Some-serve_words.words.now (search rules) c.in-Some-serve_words.ensures
    (c.in_ok-serve.ensures.told held holds)

pub returns-in-Some-ask_words-clause-told : goal.returns-in-Some-ask_words-clause-told
returns-in-Some-ask_words-clause-told g c = λ held holds.
    let number = c.args.number in
    let line = c.args.line.now in
    let out = c.args.outbox.now in
    let next = c.tell_ask.new.outbox in
    let now = c.tell_ask.new.self in
    let outcome = c.in_ok-outcome.outcome in
    subst (λ going. SessionTold held number line out next now going) (sym c.after_ask.ensures)
    (told_ask held number line out next now c.in-Some-ask_words.words.now outcome
    c.in-Some-ask_words.ensures (c.in_ok-outcome.ensures.told held holds))

pub returns-in_err-outcome-clause-breaks : goal.returns-in_err-outcome-clause-breaks
returns-in_err-outcome-clause-breaks g c =
    on_err c.from_residual-in_err-outcome.result
    (λ held holds. breaks_ask held c.args.number c.args.line.now c.args.outbox.now
    c.tell_ask.new.outbox c.in-Some-ask_words.words.now c.in-Some-ask_words.ensures
    (c.in_err-outcome.ensures.breaks held holds))

pub returns-in-Some-standard_words-clause-told : goal.returns-in-Some-standard_words-clause-told
returns-in-Some-standard_words-clause-told g c = λ held holds.
    told_standard held c.in-Some-standard_words.words.now c.args.number c.args.line.now
    c.args.outbox.now c.standard.new.outbox c.standard.new.self c.in-Some-standard_words.ensures
    (c.in_ok-standard.ensures.told held holds)

pub tell_outside-requires : goal.tell_outside-requires
tell_outside-requires g c =
    let held = c.requires.0 in
    let holds = c.requires.1 in
    let session = c.args.self.now in
    let line = c.args.line.now in
    let outside = c.in-Ok-Some.outside in
    let spells = spelled_held held session c.set_up.result.now c.facing.result.now line outside
    holds c.set_up.ensures c.facing.ensures
    (rw c.in-Ok-Some.field-0-is at (c.in-Ok-Some.ensures.read)) in
    (held, holds, may_outside session.live held.taken holds.live line outside spells)

pub returns-in_err-tell_outside-in-Ok-Some-clause-breaks :
    goal.returns-in_err-tell_outside-in-Ok-Some-clause-breaks
returns-in_err-tell_outside-in-Ok-Some-clause-breaks g c =
    on_err c.from_residual-in_err-tell_outside-in-Ok-Some.result
    (λ held holds. session_breaks_at_once held c.args.number c.args.line.now c.args.outbox.now
    c.tell_outside.new.outbox c.in_err-tell_outside-in-Ok-Some.ensures.same)

pub returns-in_ok-tell_outside-in-Ok-Some-clause-told :
    goal.returns-in_ok-tell_outside-in-Ok-Some-clause-told
returns-in_ok-tell_outside-in-Ok-Some-clause-told g c = λ held holds.
    let session = c.args.self.now in
    let line = c.args.line.now in
    let outside = c.in-Ok-Some.outside in
    let spells = spelled_held held session c.set_up.result.now c.facing.result.now line outside
    holds c.set_up.ensures c.facing.ensures
    (rw c.in-Ok-Some.field-0-is at (c.in-Ok-Some.ensures.read)) in
    outside_taken held c.args.number line c.args.outbox.now c.tell_outside.new.outbox
    c.tell_outside.new.self outside spells
    (c.in_ok-tell_outside-in-Ok-Some.ensures.told held holds
    (may_outside session.live held.taken holds.live line outside spells))

pub returns-in-Err-Refused-clause-told : goal.returns-in-Err-Refused-clause-told
returns-in-Err-Refused-clause-told g c = λ held holds.
    let session = c.args.self.now in
    let line = c.args.line.now in
    let reason = c.in-Err-Refused.reason in
    outside_refused held c.args.number line c.args.outbox.now c.write_refusal.new.outbox session
    reason c.script_reason.result.now holds
    (refused_held held session c.set_up.result.now c.facing.result.now line reason holds
    c.set_up.ensures c.facing.ensures (c.in-Err-Refused.ensures.refused reason (cc)))
    (c.script_reason.ensures ∙ ap script_reason c.in-Err-Refused.reason-is)
    (subst (λ r. Writes c.args.outbox.now c.write_refusal.new.outbox
    (refusal_line r c.script_reason.result.now)) c.in-Err-Refused.reason-is
    c.write_refusal.ensures)

pub returns-in-Err-NoMemory-clause-breaks : goal.returns-in-Err-NoMemory-clause-breaks
returns-in-Err-NoMemory-clause-breaks g c = λ held holds.
    session_breaks_at_once held c.args.number c.args.line.now c.args.outbox.now c.args.outbox.now
    refl
