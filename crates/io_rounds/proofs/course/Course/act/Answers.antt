use Rattle.std.proofs.Common.{refl}
use Rattle.fabric_trace.specs.Runs.{start}
use Rattle.io_rounds.proofs.EventLaws.{follows, only_wanting, acted}
use Rattle.io_rounds.proofs.course.Course.act.Goals as goal

pub event-requires : goal.event-requires
event-requires c =
    record { may = follows c.args.names.now c.args.self.now c.args.line.now c.requires }

pub want_of-requires : goal.want_of-requires
want_of-requires c =
    let may = c.requires in
    only_wanting c.args.names.now c.args.self.now c.args.line.now c.in-Err.end may
    (c.in-Err.ensures.ended (start may.script) may.trace may.holds.stands)

pub returns-in-Ok : goal.returns-in-Ok
returns-in-Ok c = λ script events trace stations holds.
    acted c.args.names.now script events trace stations c.args.line.now c.args.self.now _
    c.in-Ok.what holds c.requires.kind (c.in-Ok.ensures.done (start script) trace holds.stands) refl
    refl
