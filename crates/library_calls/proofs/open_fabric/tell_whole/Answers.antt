use Rattle.std.proofs.Common.{sym, ◌∙◌}
use Rattle.library_calls.proofs.FabricLaws.{tells_whole, tells_front}
use Rattle.library_calls.proofs.open_fabric.tell_whole.Goals as goal

pub returns-then-failed-clause-told : goal.returns-then-failed-clause-told
returns-then-failed-clause-told g c = λ held holds.
    let answered = c.answer-answered in
    tells_front held c.args.number c.args.line.now c.args.outbox.now answered.new.outbox
    c.flush.new.self c.args.session.now answered.new.self holds c.requires.empty
    c.flush.ensures.written answered.result answered.ensures.answered answered.ensures.breaks

pub returns-clause-told : goal.returns-clause-told
returns-clause-told g c = λ held holds.
    let answered = c.answer-answered in
    tells_whole held c.args.number c.args.line.now c.args.outbox.now answered.new.outbox
    c.flush.new.self c.args.session.now answered.new.self holds c.requires.empty
    c.flush.ensures.written answered.result answered.ensures.answered answered.ensures.breaks
    (sym (sym c.if-failed.false ∙ c.failed.ensures)) c.flush.ensures.empty
