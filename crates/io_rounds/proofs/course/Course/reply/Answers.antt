use Rattle.std.proofs.Common.{refl, subst}
use Rattle.io_rounds.specs.Course.{EventActed}
use Rattle.io_rounds.proofs.ReplyLaws.{can_same, reply_took, reply_kept}
use Rattle.io_rounds.proofs.StateLaws.{within_stations}
use Rattle.io_rounds.proofs.course.Course.reply.Goals as goal

pub keep-requires : goal.keep-requires
keep-requires c =
    let way = c.requires.may.way in
    let acted = c.in_ok-act.ensures way.script way.events way.trace way.stations way.holds in
    within_stations c.args.node acted.holds c.requires.named

pub returns-in-Took : goal.returns-in-Took
returns-in-Took c = λ script s rest holds is.
    reply_took c.args.node c.args.line rest is c.requires.may.can.0
    (subst (λ what. EventActed c.args.names.now script s.events s.trace s.stations c.args.line what
    c.act.new.self) c.in-Took.is (c.in_ok-act.ensures script s.events s.trace s.stations holds))

pub returns-in_default : goal.returns-in_default
returns-in_default c = λ script s rest holds is.
    reply_kept c.args.node c.args.line rest c.in_ok-act.field-0 _ is
    (can_same c.args.line c.requires.may.way.holds holds c.requires.may.can) c.in_default.not-Took
    (c.in_ok-act.ensures script s.events s.trace s.stations holds) refl refl c.keep.ensures
