use Rattle.std.proofs.Common.{refl, subst}
use Rattle.io_rounds.specs.Course.{EventActed}
use Rattle.io_rounds.proofs.StateLaws.{within_stations}
use Rattle.io_rounds.proofs.TakeLaws.{asks_took, asks_full}
use Rattle.io_rounds.proofs.course.Course.ask.Goals as goal

pub count_on-requires : goal.count_on-requires
count_on-requires g c =
    let way = c.requires.may.way in
    let acted = c.in_ok-act.ensures way.script way.events way.trace way.stations way.holds in
    within_stations c.args.asked.now.node acted.holds c.requires.named

pub returns-in-Took-clause-done : goal.returns-in-Took-clause-done
returns-in-Took-clause-done g c = λ script begun first s rest at is.
    let asked = c.args.asked.now in
    asks_took asked.node asked.tid asked.line rest _ at is c.requires.named
    (subst (λ what. EventActed c.args.names.now script s.events s.trace s.stations asked.line what
    c.act.new.self) c.in-Took.is (c.in_ok-act.ensures script s.events s.trace s.stations at.holds))
    c.write_asked.ensures refl refl c.count_on.ensures

pub returns-in_default : goal.returns-in_default
returns-in_default g c = record {
  done = λ script begun first s rest at is.
      let asked = c.args.asked.now in
      asks_full asked.node asked.tid asked.line rest c.in_ok-act.field-0 at is c.in_default.not-Took
      (c.in_ok-act.ensures script s.events s.trace s.stations at.holds) c.write.ensures;
  ended = tt;
}
