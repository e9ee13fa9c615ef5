use Rattle.std.proofs.Common.{[], ◌++◌, refl, sym, ap, ◌∙◌, subst}
use Rattle.fabric_trace.specs.Runs.{start}
use Rattle.io_script.specs.IoLines.{IsNamed}
use Rattle.io_rounds.specs.Going.{left_to_do, begun_line, endpoints_of}
use Rattle.io_rounds.specs.Tasks.{tasks_of}
use Rattle.io_rounds.proofs.LineLaws.{ask_send, ask_named, carry_named, round_other, begins_other, begins_memory}
use Rattle.io_rounds.proofs.StateLaws.{on_then, on_else}
use Rattle.io_rounds.proofs.course.Course.carry.Goals as goal

pub ask-requires : goal.ask-requires
ask-requires g c =
    let line = c.args.line.now in
    let asked = c.in_ok-asked-in_default.asked in
    let is = ap (λ l. tasks_of [] l line) (sym c.deref.ensures.value)
    ∙ c.in_ok-asked-in_default.ensures [] in
    record {
      may = ask_send line asked.node asked.tid asked.line c.requires is;
      named = ask_named line asked.node asked.tid asked.line c.requires is;
    }

pub returns-in_ok-memory-in-Memory-clause-done : goal.returns-in_ok-memory-in-Memory-clause-done
returns-in_ok-memory-in-Memory-clause-done g c = λ script begun first s rest at is.
    begins_memory _ c.in-Memory.node c.in-Memory.bytes c.in_ok-memory-in-Memory.memory
    c.args.line.now rest at is c.write_begun_line.ensures c.in-Memory.is
    (subst (λ l. IsNamed c.args.names.now l) c.in-Memory.is
    (carry_named c.args.names.now (start c.requires.way.script).network c.args.line.now
    c.requires.may)) c.in_ok-memory-in-Memory.ensures refl refl c.put_memory.ensures

pub returns-in-Round-clause-done : goal.returns-in-Round-clause-done
returns-in-Round-clause-done g c = on_then c.round.result
    (λ given. λ script begun first s rest at is.
    given script begun first
    (begun_line c.args.names.now (endpoints_of script) c.args.line.now (left_to_do s rest)) rest
    (begins_other c.args.line.now rest at is c.write_begun_line-in-Round.ensures
    (round_other c.args.line.now c.in-Round.is))
    (ap (λ l. tasks_of (endpoints_of script) s.stations l ++ rest) c.in-Round.is))
    c.round.ensures.done

pub returns-in-Round-clause-ended : goal.returns-in-Round-clause-ended
returns-in-Round-clause-ended g c = on_else c.round.result
    (λ given. λ script begun first s rest at is.
    given script begun first
    (begun_line c.args.names.now (endpoints_of script) c.args.line.now (left_to_do s rest)) rest
    (begins_other c.args.line.now rest at is c.write_begun_line-in-Round.ensures
    (round_other c.args.line.now c.in-Round.is))
    (ap (λ l. tasks_of (endpoints_of script) s.stations l ++ rest) c.in-Round.is))
    c.round.ensures.ended

pub returns-in_ok-asked-in_default : goal.returns-in_ok-asked-in_default
returns-in_ok-asked-in_default g c = record {
  done = on_then c.ask.result
      (λ given. λ script begun first s rest at is.
      given script begun first
      (begun_line c.args.names.now (endpoints_of script) c.args.line.now (left_to_do s rest)) rest
      (begins_other c.args.line.now rest at is c.write_begun_line-in_default.ensures
      c.in_default.not-Memory)
      (ap (λ l. l ++ rest)
      (ap (λ l. tasks_of (endpoints_of script) l c.args.line.now)
      (sym (c.deref.ensures.value ∙ at.holds.same_stations))
      ∙ c.in_ok-asked-in_default.ensures (endpoints_of script)))) c.ask.ensures.done;
  ended = on_else c.ask.result
      (λ given. λ script begun first s rest at is.
      given script begun first
      (begun_line c.args.names.now (endpoints_of script) c.args.line.now (left_to_do s rest)) rest
      (begins_other c.args.line.now rest at is c.write_begun_line-in_default.ensures
      c.in_default.not-Memory)
      (ap (λ l. l ++ rest)
      (ap (λ l. tasks_of (endpoints_of script) l c.args.line.now)
      (sym (c.deref.ensures.value ∙ at.holds.same_stations))
      ∙ c.in_ok-asked-in_default.ensures (endpoints_of script)))) c.ask.ensures.ended;
}
