use Rattle.std.proofs.Common.{◌≡◌, ◌≢◌, ◌++◌, IsTrue, codes, sym, ap, ◌∙◌, subst}
use Rattle.live_lines.specs.Lines.{with_feed}
use Rattle.rio_conform.specs.Answers.{Came}
use Rattle.rio_conform.proofs.AnswerLaws.{ReadSoFar, ReadSoFar-more, ReadSoFar-came, ended_at}
use Rattle.rio_conform.proofs.answers.read_answer.Goals as goal

pub returns-then-ends_answer-clause-read : goal.returns-then-ends_answer-clause-read
returns-then-ends_answer-clause-read g c =
    let line = c.read_line.new.line.items in
    let is : c.add_line.new.answer.items ≡ c.loop-left.answer.items ++ with_feed line =
    c.in-Ok.ensures ∙ ap (λ l. c.loop-left.answer.items ++ with_feed l) c.as_slice.ensures.value in
    subst (Came (g.S.Source.left c.args.source.now) (g.S.Source.left c.read_line.new.source)
    c.args.input.now c.read_line.new.self) (sym is)
    (ReadSoFar-came line c.loop-left.invariant c.in_default.ensures.line
    c.in_default.ensures.read)

pub loop-left-preserved : goal.loop-left-preserved
loop-left-preserved g c =
    let line = c.read_line.new.line.items in
    let is : c.add_line.new.answer.items ≡ c.loop-left.answer.items ++ with_feed line =
    c.in-Ok.ensures ∙ ap (λ l. c.loop-left.answer.items ++ with_feed l) c.as_slice.ensures.value in
    let other : line ≢ codes "ok" = λ same.
    let yes : IsTrue c.ends_answer.result =
    c.ends_answer.ensures.1 (c.as_slice-in-loop-left.ensures.value ∙ same) in
    absurd cc in
    subst (ReadSoFar (g.S.Source.left c.args.source.now) (g.S.Source.left c.read_line.new.source)
    c.args.input.now c.read_line.new.self) (sym is)
    (ReadSoFar-more line c.loop-left.invariant c.in_default.ensures.line
    c.in_default.ensures.read other)

pub returns-in-Err-clause-ended : goal.returns-in-Err-clause-ended
returns-in-Err-clause-ended g c =
    ended_at c.in-Err.end (g.S.Source.faults c.loop-left.source)
    (g.S.Source.faults c.read_line.new.source) c.loop-left.invariant c.in-Err.ensures.stops
