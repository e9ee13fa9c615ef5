use Rattle.std.proofs.Common.{◌≡◌, true, false, rules, [], ◌∷◌, refl}
use Rattle.io_rounds.specs.Tasks.{Fetch}
use Rattle.io_rounds.proofs.BeginLaws.{state_of, at_itself, underway}
use Rattle.io_rounds.proofs.StateLaws.{always_else}
use Rattle.io_rounds.proofs.TakeLaws.{taken_on, taken_over, taken_smaller}
use Rattle.io_rounds.proofs.course.Course.take_all.Goals as goal

pub take-requires : goal.take-requires
take-requires g c =
    let may = c.requires in
    let tasks = Fetch c.args.node ∷ [] in
    let arrived = c.loop.invariant may.way.script c.args.output.now (state_of may.way tasks)
    (state_of may.way tasks) []
    (at_itself c.args.output.now may.way tasks) refl in
    record { way = underway arrived.at.holds; named = may.named; endpoint = may.endpoint }

pub returns-in_err-take-clause-ended : goal.returns-in_err-take-clause-ended
returns-in_err-take-clause-ended g c = always_else c.from_residual.result
    (λ script begun first s rest at is.
    let arrived = c.loop.invariant script begun first s rest at is in
    c.in_err-take.ensures.ended script begun first arrived.state rest arrived.at arrived.left)

pub returns-then-not-branch-clause-done : goal.returns-then-not-branch-clause-done
returns-then-not-branch-clause-done g c = λ script begun first s rest at is.
    let arrived = c.loop.invariant script begun first s rest at is in
    let over : c.in_ok-take.field-0 ≡ false = search rules in
    taken_over over
    (c.in_ok-take.ensures.done script begun first arrived.state rest arrived.at arrived.left)

pub loop-smaller : goal.loop-smaller
loop-smaller g c =
    let may = c.requires in
    let tasks = Fetch c.args.node ∷ [] in
    let arrived = c.loop.invariant may.way.script c.args.output.now (state_of may.way tasks)
    (state_of may.way tasks) []
    (at_itself c.args.output.now may.way tasks) refl in
    let more : c.in_ok-take.field-0 ≡ true = search rules in
    taken_smaller may.endpoint more arrived
    (c.in_ok-take.ensures.done may.way.script c.args.output.now (state_of may.way tasks)
    arrived.state [] arrived.at arrived.left)

pub loop-preserved : goal.loop-preserved
loop-preserved g c = λ script begun first s rest at is.
    let arrived = c.loop.invariant script begun first s rest at is in
    let more : c.in_ok-take.field-0 ≡ true = search rules in
    taken_on more
    (c.in_ok-take.ensures.done script begun first arrived.state rest arrived.at arrived.left)
