use Rattle.std.proofs.Common.{[], ℕ, List, subst, append-nil}
use Rattle.rio_chars.specs.Written.{Writes}
use Rattle.rio_chars.proofs.WrittenLaws.{Writes-then}
use Rattle.port_lines.specs.Lines.{asked_answer}
use Rattle.rio_port.proofs.LogLaws.{kept_all}
use Rattle.rio_port.proofs.serving.tell.Goals as goal

pub returns-clause-text : goal.returns-clause-text
returns-clause-text g c =
    let text = (asked_answer c.args.port.now c.args.asked).text in
    let Whole : List ℕ → Type 0 =
    λ bytes. Writes c.args.outbox.now c.flush.new.self bytes in
    kept_all c.args.outbox.now c.flush.new.self text c.failed.result c.requires
    (subst Whole (append-nil text)
    (Writes-then text [] c.in_ok-answer.ensures.text c.flush.ensures.written))
    c.failed.ensures c.flush.ensures.empty
