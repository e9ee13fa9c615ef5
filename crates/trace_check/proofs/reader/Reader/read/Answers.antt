use Rattle.std.proofs.Common.{◌∙◌, sym, subst}
use Rattle.trace_lines.specs.Reads.{line_read}
use Rattle.trace_check.specs.States.{IsLineIn}
use Rattle.trace_check.proofs.AnswerLaws.{reads_by}
use Rattle.trace_check.proofs.LineIn.{line_in}
use Rattle.trace_check.proofs.reader.Reader.read.Goals as goal

pub returns-in_ok-check-in-Ok : goal.returns-in_ok-check-in-Ok
returns-in_ok-check-in-Ok c =
    let line = line_read c.in-Ok.line in
    let spelled = c.in-Ok.ensures.line in
    let checked = c.in_ok-check-in-Ok.ensures in record {
      read = λ r is nodes. rw (c.number_of.ensures, sym c.has_ended.ensures ∙ c.if-has_ended.false)
          (reads_by c.args.short c.args.self.now.steps c.check.new.self.ended
          c.check.new.self.steps c.in_ok-check-in-Ok.field-0 spelled checked.ended checked.steps
          (checked.checked r is (subst (λ n. IsLineIn n line) (sym nodes)
          (line_in c.args.set_up.now.known line spelled.fits))));
    }
