use Rattle.std.proofs.Common.{sym, ◌∙◌}
use Rattle.std.proofs.lemmas.Bool.{true≢false}
use Rattle.rio_chars.proofs.WrittenLaws.{Writes-rose}
use Rattle.io_rounds.proofs.DriveLaws.{driven_whole, driven_front, flushed, stop_flushed}
use Rattle.io_rounds.proofs.StateLaws.{on_then}
use Rattle.io_rounds.proofs.carrying.write_output.Goals as goal

pub returns-then-failed-clause-write_fault : goal.returns-then-failed-clause-write_fault
returns-then-failed-clause-write_fault g c =
    let stop = stop_flushed c.tell_output-end.ensures.front c.flush.ensures.written in
    λ is. (
      Writes-rose c.args.output.now _ stop.state.output c.requires.fine stop.told
          (sym c.failed.ensures ∙ c.if-failed.true),
      driven_front c.requires.empty stop,
    )

pub returns-clause-done : goal.returns-clause-done
returns-clause-done g c =
    let fine = sym c.failed.ensures ∙ c.if-failed.false in
    on_then c.tell_output-end.result
    (λ done. driven_whole c.requires.empty fine c.flush.ensures.empty
    (flushed done c.flush.ensures.written)) c.tell_output-end.ensures.done

pub returns-clause-write_fault : goal.returns-clause-write_fault
returns-clause-write_fault g c = λ is.
    let down = c.flush.ensures.written.stays (c.tell_output-end.ensures.failed is) in
    absurd (true≢false (sym down.0 ∙ (sym c.failed.ensures ∙ c.if-failed.false)))

pub returns-clause-no_memory : goal.returns-clause-no_memory
returns-clause-no_memory g c = λ is. driven_front c.requires.empty
    (stop_flushed c.tell_output-end.ensures.front c.flush.ensures.written)
