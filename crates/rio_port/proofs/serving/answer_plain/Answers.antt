use Rattle.std.proofs.Common.{[], ℕ, List, refl, subst, append-nil}
use Rattle.rio_chars.specs.Written.{Writes}
use Rattle.rio_chars.proofs.WrittenLaws.{Writes-then}
use Rattle.port_lines.specs.Lines.{asked_answer}
use Rattle.rio_port.proofs.serving.answer_plain.Goals as goal

pub returns-clause-answer : goal.returns-clause-answer
returns-clause-answer g c =
    let given = asked_answer c.args.port.now c.in_ok-asked.asked in
    let Whole : List ℕ → Type 0 =
    λ text. Writes c.args.outbox.now c.flush.new.self text in (
      given,
      record { asked = c.in_ok-asked.asked; reads = c.in_ok-asked.ensures; is = refl },
      c.in_ok-answer.ensures.stands,
      subst Whole (append-nil given.text)
          (Writes-then given.text [] c.in_ok-answer.ensures.text c.flush.ensures.written),
    )
