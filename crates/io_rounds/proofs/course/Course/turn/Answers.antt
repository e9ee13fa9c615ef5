use Rattle.std.proofs.Common.{[], ◌∷◌, refl, ap, ◌∙◌}
use Rattle.io_rounds.specs.Course.{tasks_on}
use Rattle.io_rounds.specs.Tasks.{Turn}
use Rattle.io_rounds.proofs.BeginLaws.{state_of, underway}
use Rattle.io_rounds.proofs.StateLaws.{at_sent, on_then, on_else}
use Rattle.io_rounds.proofs.course.Course.turn.Goals as goal

pub take_all-requires : goal.take_all-requires
take_all-requires g c =
    let may = c.requires in
    let tasks = Turn c.args.node ∷ [] in
    let sent = c.in_ok-resend.ensures may.way.script (state_of may.way tasks) [] may.way.holds refl
    in
    record { way = underway sent.holds; named = may.named; endpoint = may.endpoint }

pub returns-then-branch-clause-done : goal.returns-then-branch-clause-done
returns-then-branch-clause-done g c = on_then c.take_all.result
    (λ given. λ script begun first s rest at is.
    let sent = c.in_ok-resend.ensures script s rest at.holds is in
    given script begun first sent.state rest (at_sent at sent)
    (sent.left ∙ ap (λ b. tasks_on c.args.node b rest) c.if-branch.true)) c.take_all.ensures.done

pub returns-then-branch-clause-ended : goal.returns-then-branch-clause-ended
returns-then-branch-clause-ended g c = on_else c.take_all.result
    (λ given. λ script begun first s rest at is.
    let sent = c.in_ok-resend.ensures script s rest at.holds is in
    given script begun first sent.state rest (at_sent at sent)
    (sent.left ∙ ap (λ b. tasks_on c.args.node b rest) c.if-branch.true)) c.take_all.ensures.ended

pub returns-clause-done : goal.returns-clause-done
returns-clause-done g c = λ script begun first s rest at is.
    let sent = c.in_ok-resend.ensures script s rest at.holds is in
    record {
      state = sent.state;
      at = at_sent at sent;
      left = sent.left ∙ ap (λ b. tasks_on c.args.node b rest) c.if-branch.false;
    }
