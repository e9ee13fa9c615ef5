use Rattle.std.proofs.Common.{◌≡◌, ◌≤◌, ◌<◌, List, length, [], ◌∷◌, refl, ap, rules, arith}
use Rattle.std.specs.List.{flat_map}
use Rattle.std.proofs.lemmas.List.{take_rest}
use Rattle.rio_chars.proofs.WrittenLaws.{Writes-rose, Writes-whole, Writes-front}
use Rattle.rio_framer.specs.Framing.{Framing}
use Rattle.rio_cli.specs.Decoding.{placed_text}
use Rattle.rio_cli.proofs.DecodeLaws.{whole_text, Going-begin, Going-read, Going-front, Going-end}
use Rattle.rio_cli.proofs.decode.write_reading.Goals as goal

no_items : {X : Type 0} (xs : List X) → length xs ≤ 0 → xs ≡ []
no_items [] few = refl
no_items (x ∷ xs) few = absurd (omega arith)

pub loop-left-init : goal.loop-left-init
loop-left-init g c =
    Going-begin c.args.outbox.now c.args.chars.now _
    (ap (λ (f : Framing). f.place) c.new-framer.ensures)

pub loop-left-preserved : goal.loop-left-preserved
loop-left-preserved g c =
    let run = c.read_run-count in
    let there : 0 < length c.loop-left.left.now = search rules in
    Going-read c.args.outbox.now c.args.chars.now c.loop-left.place c.loop-left.left.now _
    c.loop-left.framer.place run.result.0 run.result.1 run.new.self
    run.ensures.count run.ensures.told run.ensures.state
    (take_rest c.loop-left.left.now run.result.0) (run.ensures.some there) c.loop-left.invariant
    c.write_told.ensures

pub returns-then-failed-clause-write_fault : goal.returns-then-failed-clause-write_fault
returns-then-failed-clause-write_fault g c = λ failed.
    let run = c.read_run-count in
    let begun = c.args.outbox.now in
    let there : 0 < length c.loop-left.left.now = search rules in
    let more =
    Going-read begun c.args.chars.now c.loop-left.place c.loop-left.left.now _
    c.loop-left.framer.place run.result.0 run.result.1 run.new.self
    run.ensures.count run.ensures.told run.ensures.state
    (take_rest c.loop-left.left.now run.result.0) (run.ensures.some there) c.loop-left.invariant
    c.write_told.ensures in (
      Writes-rose begun _ (flat_map placed_text more.found) c.requires.fine more.told failed,
      Going-front begun c.args.chars.now _ _ c.requires.empty more,
    )

pub returns-clause-done : goal.returns-clause-done
returns-clause-done g c = λ fine.
    let begun = c.args.outbox.now in
    let few : length c.loop-left.left.now ≤ 0 = search rules in
    let none = no_items c.loop-left.left.now few in
    let told =
    Going-end begun c.args.chars.now c.loop-left.place c.loop-left.left.now _ none
    c.loop-left.invariant c.at_rest.ensures c.write_end.ensures c.flush.ensures.written in
    Writes-whole begun _ (whole_text c.args.chars.now) c.requires.empty told fine
    c.flush.ensures.empty

pub returns-clause-write_fault : goal.returns-clause-write_fault
returns-clause-write_fault g c = λ failed.
    let begun = c.args.outbox.now in
    let text = whole_text c.args.chars.now in
    let few : length c.loop-left.left.now ≤ 0 = search rules in
    let none = no_items c.loop-left.left.now few in
    let told =
    Going-end begun c.args.chars.now c.loop-left.place c.loop-left.left.now _ none
    c.loop-left.invariant c.at_rest.ensures c.write_end.ensures c.flush.ensures.written in (
      Writes-rose begun _ text c.requires.fine told failed,
      Writes-front begun _ text c.requires.empty told,
    )
