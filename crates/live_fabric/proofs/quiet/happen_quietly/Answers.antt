use Rattle.std.proofs.Common.{ℕ, List, Some, ap, subst, ◌∙◌}
use Rattle.rio_chars.specs.Written.{Writes}
use Rattle.live_fabric.specs.Answers.{HappensWhole}
use Rattle.live_fabric.specs.Pieces.{quiet_text}
use Rattle.live_fabric.proofs.QuietLaws.{happens_quietly}
use Rattle.live_fabric.proofs.quiet.happen_quietly.Goals as goal

pub returns-clause-happens : goal.returns-clause-happens
returns-clause-happens g c = λ taken holds may.
    let event = c.args.event.now in
    let now = c.happen_into.new.live in
    let told = c.in_ok-told.told in
    let items = c.happen_into.new.sink.text.items in
    happens_quietly taken c.args.number event now told c.args.outbox.now c.write.new.self
    c.args.live.now items holds
    (subst (λ (before : List ℕ). HappensWhole taken c.args.number event (Some before)
    (Some items) now told) c.new-sink.ensures
    (c.in_ok-told.ensures.happens taken holds may))
    (subst (Writes c.args.outbox.now c.write.new.self)
    (c.as_slice-2.ensures.value ∙ c.in_ok-text.ensures ∙ ap quiet_text c.as_slice.ensures)
    c.write.ensures)
