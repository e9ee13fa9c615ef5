use Rattle.std.proofs.Common.{◌≡◌, ◌+◌, ◌<◌, ◌≤◌, length, subst, refl, sym, ap, ◌∙◌, rules}
use Rattle.link_model.specs.Places.{place_after}
use Rattle.link_model.specs.Said.{said}
use Rattle.trace_counts.specs.declared.sums.Sums.{Sums}
use Rattle.trace_counts.specs.Sums.{PortCounts, noted_all, sent}
use Rattle.trace_counts.proofs.SumsLaws.{sums-front, stands-read, sums-end, room-front, counts}
use Rattle.trace_counts.specs.Room.{SumsHaveRoom}
use Rattle.trace_counts.proofs.RoomLaws.{on_err, room-noted_all}
use Rattle.trace_counts.proofs.tally.PortTally.send.Goals as goal

pub loop-left-init : goal.loop-left-init
loop-left-init c = (refl, refl)

pub loop-left-preserved : goal.loop-left-preserved
loop-left-preserved c =
    let run = c.read_run-count in
    let left = c.loop-left.left.now in
    let from = c.loop-left.self-inside.framer.place in
    let there : 0 < length left = search rules in
    let back = c.split_at.ensures.back in (
      sums-front c.loop-left.self-inside.sums _ from left _ run.result.0 run.result.1 run.new.self
          (run.ensures.some there) run.ensures.count run.ensures.told run.ensures.state back
          c.in_ok-note.ensures.sums ∙ c.loop-left.invariant.0,
      stands-read from left _ run.result.0 run.new.self run.ensures.count run.ensures.state back
          ∙ c.loop-left.invariant.1,
    )

pub returns-clause-sums : goal.returns-clause-sums
returns-clause-sums c =
    let few : length c.loop-left.left.now ≤ 0 = search rules in
    let chars = c.args.chars.now in
    let inside = c.self.inside in
    let from = inside.framer.place in
    sums-end c.loop-left.self-inside.sums c.note_characters.new.self
    c.loop-left.self-inside.framer.place from c.loop-left.left.now chars few
    c.loop-left.invariant.0 c.loop-left.invariant.1
    ∙ ap (λ (s : Sums). counts (place_after from chars) (noted_all s (said from chars)))
    c.in_ok-note_characters.ensures.sums
    ∙ ap (λ (v : PortCounts). sent v chars) c.self.view_is

pub returns-in_err-note_characters-clause-too_many :
    goal.returns-in_err-note_characters-clause-too_many
returns-in_err-note_characters-clause-too_many c =
    let chars = c.args.chars.now in
    let inside = c.self.inside in
    let begun : Sums = record inside.sums {
      characters = inside.sums.characters + length chars;
    } in
    let none : SumsHaveRoom (noted_all begun (said inside.framer.place chars)) → ⊥ = λ room.
    c.in_err-note_characters.ensures.too_many
    (room-noted_all begun (said inside.framer.place chars) room) in
    on_err c.from_residual.result (subst (λ (v : PortCounts). SumsHaveRoom (sent v chars).sums → ⊥)
    c.self.view_is none)

pub returns-in_err-note-clause-too_many : goal.returns-in_err-note-clause-too_many
returns-in_err-note-clause-too_many c =
    let run = c.read_run-count in
    let chars = c.args.chars.now in
    let left = c.loop-left.left.now in
    let from = c.loop-left.self-inside.framer.place in
    let there : 0 < length left = search rules in
    let inside = c.self.inside in
    let begun : Sums = record inside.sums {
      characters = inside.sums.characters + length chars;
    } in
    let events = said inside.framer.place chars in
    let whole : noted_all c.loop-left.self-inside.sums (said from left) ≡ noted_all begun events =
    c.loop-left.invariant.0
    ∙ ap (λ (s : Sums). noted_all s events) c.in_ok-note_characters.ensures.sums in
    let none : SumsHaveRoom (noted_all begun events) → ⊥ = λ room.
    c.in_err-note.ensures.too_many (room-front c.loop-left.self-inside.sums from left
    run.result.0 run.result.1 run.new.self (run.ensures.some there) run.ensures.count
    run.ensures.told run.ensures.state (subst SumsHaveRoom (sym whole) room)) in
    on_err c.from_residual-in_err-note.result
    (subst (λ (v : PortCounts). SumsHaveRoom (sent v chars).sums → ⊥) c.self.view_is none)
