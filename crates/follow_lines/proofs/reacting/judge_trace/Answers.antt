use Rattle.std.proofs.Common.{◌≡◌, ◌+◌, ◌-◌, ◌^◌, ◌++◌, ◌∷◌, [], Err, ap, subst, arith}
use Rattle.trace_reactions.specs.Judged.{HasJudged, IsNoLine, IsWrongText}
use Rattle.follow_lines.proofs.ReactingLaws.{Reacting-begin, Reacting-ends, Reacting-hit, Reacting-line, Reacting-many}
use Rattle.follow_lines.proofs.reacting.judge_trace.Goals as goal

pub loop-lines-init : goal.loop-lines-init
loop-lines-init g c =
    Reacting-begin c.args.judge.now c.args.input.now (g.S.Source.left c.args.source.now)
    (g.S.Source.faults c.args.source.now) c.requires

pub returns-in-Err : goal.returns-in-Err
returns-in-Err g c =
    let stop = c.in-Err.ensures.stops in
    Reacting-ends c.args.judge.now.set_up c.args.before c.args.input.now
    (g.S.Source.left c.args.source.now) (g.S.Source.faults c.args.source.now) stop.0 c.in-Err.end
    c.end_trace.result c.loop-lines.invariant stop.1 stop.2 c.end_trace.ensures

pub returns-in-Err-judge_line : goal.returns-in-Err-judge_line
returns-in-Err-judge_line g c =
    let read = c.in_default.ensures.read in
    let judge = c.loop-lines.judge in
    let text = c.as_slice.ensures.value in
    rw c.judge_end.ensures (Reacting-hit c.args.judge.now.set_up c.args.before c.args.input.now
    (g.S.Source.left c.args.source.now) (g.S.Source.faults c.args.source.now)
    c.read_line.new.self c.read_line.new.line.items read.0 _ c.in-Err-judge_line.end
    c.loop-lines.invariant read.1 read.2 c.in_default.ensures.line c.in_default.ensures.counts
    (λ i. c.from.ensures i + c.from-in-Err-judge_line.ensures i)
    (λ same. subst (IsNoLine judge.set_up) text
    (c.in-Err-judge_line.ensures.no_form (ap (λ e. Err e) same)))
    (λ wrong same texts has. subst (λ t. IsWrongText judge.set_up texts t wrong) text
    (c.in-Err-judge_line.ensures.wrong wrong (ap (λ e. Err e) same) texts has)))

pub loop-lines-preserved : goal.loop-lines-preserved
loop-lines-preserved g c =
    let read = c.in_default.ensures.read in
    Reacting-line c.args.judge.now.set_up c.args.before c.args.input.now
    (g.S.Source.left c.args.source.now) (g.S.Source.faults c.args.source.now) c.judge_line.new.judge
    c.read_line.new.self c.read_line.new.line.items read.0 c.loop-lines.invariant read.1 read.2
    c.in_default.ensures.line c.in_default.ensures.counts c.judge_line.ensures.set_up
    (λ texts has. subst (λ t. HasJudged (texts ++ t ∷ []) c.judge_line.new.judge)
    c.as_slice.ensures.value (c.in_default-judge_line.ensures.taken texts has))

pub returns : goal.returns
returns g c =
    let all : c.loop-lines.lines ≡ 2 ^ 32 - 1 = omega arith in
    Reacting-many c.args.judge.now.set_up c.args.before c.args.input.now
    (g.S.Source.left c.args.source.now) (g.S.Source.faults c.args.source.now)
    c.loop-lines.invariant all
