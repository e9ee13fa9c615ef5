use Rattle.port_lines.specs.Lines.{asked_answer}
use Rattle.library_calls.proofs.TextLaws.{told_but}
use Rattle.library_calls.proofs.open_port.tell_whole.Goals as goal

pub returns-clause-text : goal.returns-clause-text
returns-clause-text g c =
    told_but c.args.outbox.now c.answer.new.outbox c.flush.new.self
    (asked_answer c.args.clocked.now c.args.asked).text c.requires c.in_ok-answer.ensures.text
    c.flush.ensures.written c.failed.result c.failed.ensures c.flush.ensures.empty
