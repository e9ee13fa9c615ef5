use Rattle.std.proofs.Common.{sym, ◌∙◌}
use Rattle.library_calls.proofs.FabricAskLaws.{asks_whole, asks_front}
use Rattle.library_calls.proofs.fabric_asks.ask_whole.Goals as goal

pub returns-then-failed-clause-told : goal.returns-then-failed-clause-told
returns-then-failed-clause-told g c = λ held holds.
    let asked = c.ask-asked in
    asks_front c.args.number c.args.words.now c.args.outbox.now asked.new.outbox
    c.args.session.now asked.new.self held c.flush.new.self holds c.requires.empty
    c.flush.ensures.written asked.result asked.ensures.answered asked.ensures.breaks

pub returns-clause-told : goal.returns-clause-told
returns-clause-told g c = λ held holds.
    let asked = c.ask-asked in
    asks_whole c.args.number c.args.words.now c.args.outbox.now asked.new.outbox
    c.args.session.now asked.new.self held c.flush.new.self holds c.requires.empty
    c.flush.ensures.written asked.result asked.ensures.answered asked.ensures.breaks
    (sym (sym c.if-failed.false ∙ c.failed.ensures)) c.flush.ensures.empty
