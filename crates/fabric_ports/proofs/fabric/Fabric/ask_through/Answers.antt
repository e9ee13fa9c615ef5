use Rattle.std.proofs.Common.{[], rules, subst, sym, ◌∙◌}
use Rattle.rio_chars.specs.Written.{Writes}
use Rattle.fabric_ports.proofs.AnswerLaws.{told_same}
use Rattle.fabric_ports.proofs.FlushLaws.{all_told, front_told, ok_replied, err_ended}
use Rattle.fabric_ports.proofs.fabric.Fabric.ask_through.Goals as goal

pub returns-then-failed-clause-ended : goal.returns-then-failed-clause-ended
returns-then-failed-clause-ended g c =
    let same = told_same _ _ _ _ _ _ c.tell_ask-told.ensures c.requires.can in
    let flushed : Writes c.tell_ask-told.new.writer.outbox.now c.flush.new.self [] =
    subst (λ o. Writes o c.flush.new.self []) (search (rules, same)) c.flush.ensures.written in
    front_told _ _ _ _ _ c.tell_ask-told.ensures
    c.requires.op c.requires.prio c.requires.empty flushed

pub returns-clause-replied : goal.returns-clause-replied
returns-clause-replied g c =
    let went = sym c.failed.ensures ∙ c.if-failed.false in
    let same = told_same _ _ _ _ _ _ c.tell_ask-told.ensures c.requires.can in
    let flushed : Writes c.tell_ask-told.new.writer.outbox.now c.flush.new.self [] =
    subst (λ o. Writes o c.flush.new.self []) (search (rules, same)) c.flush.ensures.written in
    ok_replied _ _ _ _ _ _ _ _ _ c.answer.result (all_told _ _ _ _ _ c.tell_ask-told.ensures
    c.requires.op c.requires.prio c.requires.empty flushed went c.flush.ensures.empty
    c.answer.result c.answer.ensures)

pub returns-clause-ended : goal.returns-clause-ended
returns-clause-ended g c =
    let went = sym c.failed.ensures ∙ c.if-failed.false in
    let same = told_same _ _ _ _ _ _ c.tell_ask-told.ensures c.requires.can in
    let flushed : Writes c.tell_ask-told.new.writer.outbox.now c.flush.new.self [] =
    subst (λ o. Writes o c.flush.new.self []) (search (rules, same)) c.flush.ensures.written in
    err_ended _ _ _ _ _ _ _ _ _ c.answer.result (all_told _ _ _ _ _ c.tell_ask-told.ensures
    c.requires.op c.requires.prio c.requires.empty flushed went c.flush.ensures.empty
    c.answer.result c.answer.ensures)
