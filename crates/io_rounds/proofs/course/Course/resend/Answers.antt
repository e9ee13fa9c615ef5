use Rattle.std.proofs.Common.{refl, sym, ◌∙◌}
use Rattle.io_rounds.proofs.ReplyLaws.{turn_takes, turn_replies, holds_kept}
use Rattle.io_rounds.proofs.StateLaws.{on_if}
use Rattle.io_rounds.proofs.course.Course.resend.Goals as goal

pub reply-requires-clause-may : goal.reply-requires-clause-may
reply-requires-clause-may c =
    holds_kept c.args.node c.in-Some.line _ c.requires.way c.requires.named
    (sym c.in-Some.is ∙ c.take_kept.ensures.kept) refl refl c.take_kept.ensures.left

pub returns-in-Some : goal.returns-in-Some
returns-in-Some c = on_if c.reply.result
    (λ more replies. λ script s rest holds is.
    turn_replies c.args.node c.in-Some.line more rest is holds
    (sym c.in-Some.is ∙ c.take_kept.ensures.kept) refl refl c.take_kept.ensures.left
    (λ t there next. replies script t rest there next)) c.reply.ensures

pub returns-in-None : goal.returns-in-None
returns-in-None c = λ script s rest holds is.
    turn_takes c.args.node rest is holds (sym c.in-None.is ∙ c.take_kept.ensures.kept) refl refl
    c.take_kept.ensures.left
