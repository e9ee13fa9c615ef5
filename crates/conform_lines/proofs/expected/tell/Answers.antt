use Rattle.std.proofs.Common.{Ok}
use Rattle.port_lines.specs.Lines.{asked_answer}
use Rattle.conform_lines.proofs.TellingLaws.{told_all}
use Rattle.conform_lines.proofs.expected.tell.Goals as goal

pub returns-clause-text : goal.returns-clause-text
returns-clause-text g c =
    told_all c.args.outbox.now c.answer.new.outbox c.flush.new.self
    (asked_answer c.args.port.now (Ok c.args.request)).text c.requires c.in_ok-answer.ensures.text
    c.flush.ensures.written c.failed.result c.failed.ensures c.flush.ensures.empty
