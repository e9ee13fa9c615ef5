use Rattle.std.proofs.Common.{◌≡◌, [], ℕ, List, refl, subst, ◌∙◌, append-nil}
use Rattle.rio_chars.specs.Written.{Writes}
use Rattle.rio_chars.proofs.WrittenLaws.{Writes-then}
use Rattle.port_lines.specs.Lines.{asked_answer}
use Rattle.rio_port.proofs.serving.answer_line.Goals as goal

pub returns-clause-answer : goal.returns-clause-answer
returns-clause-answer g c =
    let given = asked_answer c.args.port.now c.in_ok-asked.asked in
    let kept : c.as_slice.result.now ≡ given.text =
    c.as_slice.ensures ∙ c.make.ensures.kept ∙ c.in_ok-keep_answer.ensures.text in
    let Told : List ℕ → Type 0 =
    λ text. Writes c.args.outbox.now c.write.new.self text in
    let Whole : List ℕ → Type 0 =
    λ text. Writes c.args.outbox.now c.flush.new.self text in (
      given,
      record { asked = c.in_ok-asked.asked; reads = c.in_ok-asked.ensures; is = refl },
      c.in_ok-keep_answer.ensures.port,
      subst Whole (append-nil given.text)
          (Writes-then given.text [] (subst Told kept c.write.ensures) c.flush.ensures.written),
    )
