use Rattle.std.proofs.Common.{◌+◌, refl, subst}
use Rattle.trace_check.specs.Taken.{IsSetUpOf}
use Rattle.follow_lines.specs.Following.{AreRefused}
use Rattle.follow_lines.proofs.InputLaws.{err_is}
use Rattle.follow_lines.proofs.ReactingLaws.{judges_none, judges_not_parted, judges_refused, judges_trace}
use Rattle.follow_lines.proofs.reacting.judge_input.Goals as goal

pub returns-in_err-read : goal.returns-in_err-read
returns-in_err-read g c =
    let read = rw c.requires.input at c.in_err-read.ensures.reads in
    rw (err_is c.from_residual.result c.in_err-read.field-0.0 c.from_residual.ensures.1)
    (judges_none (g.S.Source.left c.args.source.now)
    (g.S.Source.left c.read_set_up_lines.new.source) (g.S.Source.faults c.args.source.now)
    (g.S.Source.faults c.read_set_up_lines.new.source) c.read_set_up_lines.new.script.items
    c.read_set_up_lines.new.input c.in_err-read.field-0.0 read)

pub returns-in_err-judge : goal.returns-in_err-judge
returns-in_err-judge g c =
    let read = rw c.requires.input at c.in_ok-read.ensures.reads in
    rw (err_is c.from_residual-in_err-judge.result c.in_err-judge.field-0.0
    c.from_residual-in_err-judge.ensures.1)
    (judges_refused (g.S.Source.left c.args.source.now)
    (g.S.Source.left c.read_set_up_lines.new.source) (g.S.Source.faults c.args.source.now)
    (g.S.Source.faults c.read_set_up_lines.new.source) c.read_set_up_lines.new.script.items
    c.read_set_up_lines.new.input c.in_ok-read.read c.in_err-judge.field-0.0 read
    (subst (λ s. AreRefused s c.in_err-judge.field-0.0) c.as_slice.ensures.value
    c.in_err-judge.ensures.refused))

pub returns-then-not-parted : goal.returns-then-not-parted
returns-then-not-parted g c =
    let read = rw c.requires.input at c.in_ok-read.ensures.reads in
    judges_not_parted (g.S.Source.left c.args.source.now)
    (g.S.Source.left c.read_set_up_lines.new.source) (g.S.Source.faults c.args.source.now)
    (g.S.Source.faults c.read_set_up_lines.new.source) c.read_set_up_lines.new.script.items
    c.read_set_up_lines.new.input c.in_ok-read.read c.unparted.result c.in_ok-judge.judge.set_up
    read
    (subst (λ s. IsSetUpOf s c.in_ok-judge.judge.set_up) c.as_slice.ensures.value
    c.in_ok-judge.ensures.made)
    c.if-not-parted.true c.unparted.ensures

pub returns : goal.returns
returns g c =
    let read = rw c.requires.input at c.in_ok-read.ensures.reads in
    judges_trace (g.S.Source.left c.args.source.now)
    (g.S.Source.left c.read_set_up_lines.new.source) (g.S.Source.faults c.args.source.now)
    (g.S.Source.faults c.read_set_up_lines.new.source) c.read_set_up_lines.new.script.items
    c.read_set_up_lines.new.input c.in_ok-read.read c.in_ok-judge.judge.set_up
    c.judge_trace-verdict.result (c.in_ok-read.read.lines + 1)
    (g.S.Source.left c.judge_trace-verdict.new.source)
    (g.S.Source.faults c.judge_trace-verdict.new.source) read
    (subst (λ s. IsSetUpOf s c.in_ok-judge.judge.set_up) c.as_slice.ensures.value
    c.in_ok-judge.ensures.made)
    c.if-not-parted.false refl c.judge_trace-verdict.ensures
