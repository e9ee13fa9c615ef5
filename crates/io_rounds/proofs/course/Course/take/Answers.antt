use Rattle.std.proofs.Common.{subst}
use Rattle.fabric_script.specs.declared.lines.Line.TheVariants.{Collect}
use Rattle.io_rounds.specs.Course.{EventActed}
use Rattle.io_rounds.proofs.StateLaws.{on_if, on_else}
use Rattle.io_rounds.proofs.TakeLaws.{takes_answered, takes_none, turns_on, goes_not}
use Rattle.io_rounds.proofs.course.Course.take.Goals as goal

pub serve-requires : goal.serve-requires
serve-requires g c =
    turns_on c.args.node (Collect c.args.node) c.in_ok-packet.field-0 c.act.new.self c.requires
    (λ script events trace stations holds.
    c.in_ok-packet.ensures script events trace stations holds)

pub returns-in-Left-clause-done : goal.returns-in-Left-clause-done
returns-in-Left-clause-done g c = on_if c.serve.result
    (λ more given. λ script begun first s rest at is. given script begun first s rest (record {
      before = c.args.self.now;
      at = at;
      next = is;
      acted = subst (λ what. EventActed c.args.names.now script s.events s.trace s.stations
          (Collect c.args.node) what c.act.new.self) c.in-Left.is
          (c.in_ok-packet.ensures script s.events s.trace s.stations at.holds);
    })) c.serve.ensures.done

pub returns-in-Left-clause-ended : goal.returns-in-Left-clause-ended
returns-in-Left-clause-ended g c = on_else c.serve.result
    (λ given. λ script begun first s rest at is. given script begun first s rest (record {
      before = c.args.self.now;
      at = at;
      next = is;
      acted = subst (λ what. EventActed c.args.names.now script s.events s.trace s.stations
          (Collect c.args.node) what c.act.new.self) c.in-Left.is
          (c.in_ok-packet.ensures script s.events s.trace s.stations at.holds);
    })) c.serve.ensures.ended

pub returns-in-Answered-clause-done : goal.returns-in-Answered-clause-done
returns-in-Answered-clause-done g c = λ script begun first s rest at is.
    takes_answered c.args.node rest at is
    (subst (λ what. EventActed c.args.names.now script s.events s.trace s.stations
    (Collect c.args.node) what c.act.new.self) c.in-Answered.is
    (c.in_ok-packet.ensures script s.events s.trace s.stations at.holds))

pub returns : goal.returns
returns g c = record {
  done = λ script begun first s rest at is.
      takes_none c.args.node rest c.in_ok-packet.field-0 at is
      (c.in_ok-packet.ensures script s.events s.trace s.stations at.holds)
      (goes_not c.in_ok-packet.field-0 c.in_default.not-Left c.in_default.not-Answered);
  ended = tt;
}
