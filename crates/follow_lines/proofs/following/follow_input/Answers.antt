use Rattle.std.proofs.Common.{◌+◌, refl, sym, ◌∙◌, subst}
use Rattle.trace_check.specs.Taken.{IsSetUpOf}
use Rattle.follow_lines.specs.Following.{AreRefused}
use Rattle.follow_lines.proofs.InputLaws.{err_is, set_up_stops, set_up_refused, not_parted, with_fault, with_trace}
use Rattle.follow_lines.proofs.following.follow_input.Goals as goal

pub returns-in_err-read-clause-follows : goal.returns-in_err-read-clause-follows
returns-in_err-read-clause-follows g c =
    let read = rw c.requires.input at c.in_err-read.ensures.reads in
    rw (err_is c.from_residual.result c.in_err-read.field-0.0 c.from_residual.ensures.1)
    (set_up_stops c.args.tell _ (g.S.Source.left c.args.source.now)
    (g.S.Source.left c.read_set_up_lines.new.source) (g.S.Source.faults c.args.source.now)
    (g.S.Source.faults c.read_set_up_lines.new.source)
    c.read_set_up_lines.new.script.items c.read_set_up_lines.new.input
    c.args.outbox.now c.requires.fine c.requires.empty c.in_err-read.field-0.0 read)

pub returns-in_err-checker-clause-follows : goal.returns-in_err-checker-clause-follows
returns-in_err-checker-clause-follows g c =
    let read = rw c.requires.input at c.in_ok-read.ensures.reads in
    let script = c.read_set_up_lines.new.script.items in
    rw (err_is c.from_residual-in_err-checker.result c.in_err-checker.field-0.0
    c.from_residual-in_err-checker.ensures.1)
    (set_up_refused c.args.tell _ (g.S.Source.left c.args.source.now)
    (g.S.Source.left c.read_set_up_lines.new.source) (g.S.Source.faults c.args.source.now)
    (g.S.Source.faults c.read_set_up_lines.new.source) script
    c.read_set_up_lines.new.input c.args.outbox.now c.requires.fine c.requires.empty
    c.in_ok-read.read c.in_err-checker.field-0.0 read
    (subst (λ s. AreRefused s c.in_err-checker.field-0.0) c.as_slice.ensures.value
    c.in_err-checker.ensures.refused))

pub returns-then-not-parted-clause-follows : goal.returns-then-not-parted-clause-follows
returns-then-not-parted-clause-follows g c =
    let read = rw c.requires.input at c.in_ok-read.ensures.reads in
    let script = c.read_set_up_lines.new.script.items in
    not_parted c.args.tell _ (g.S.Source.left c.args.source.now)
    (g.S.Source.left c.read_set_up_lines.new.source) (g.S.Source.faults c.args.source.now)
    (g.S.Source.faults c.read_set_up_lines.new.source) script
    c.read_set_up_lines.new.input c.args.outbox.now c.requires.fine c.requires.empty
    c.in_ok-read.read c.unparted.result c.in_ok-checker.checker.set_up read
    (subst (λ s. IsSetUpOf s c.in_ok-checker.checker.set_up) c.as_slice.ensures.value
    c.in_ok-checker.ensures.made)
    c.if-not-parted.true c.unparted.ensures

pub returns-then-failed-clause-follows : goal.returns-then-failed-clause-follows
returns-then-failed-clause-follows g c =
    let read = rw c.requires.input at c.in_ok-read.ensures.reads in
    let script = c.read_set_up_lines.new.script.items in
    with_fault c.args.tell _ (g.S.Source.left c.args.source.now)
    (g.S.Source.left c.read_set_up_lines.new.source) (g.S.Source.faults c.args.source.now)
    (g.S.Source.faults c.read_set_up_lines.new.source) script
    c.read_set_up_lines.new.input c.args.outbox.now c.in_ok-read.read
    c.in_ok-checker.checker c.tell_ok.new.outbox read
    (subst (λ s. IsSetUpOf s c.in_ok-checker.checker.set_up) c.as_slice.ensures.value
    c.in_ok-checker.ensures.made)
    c.in_ok-checker.ensures.taken c.if-not-parted.false c.tell_ok.ensures.told
    (sym c.failed.ensures ∙ c.if-failed.true)

pub returns-clause-follows : goal.returns-clause-follows
returns-clause-follows g c =
    let read = rw c.requires.input at c.in_ok-read.ensures.reads in
    let script = c.read_set_up_lines.new.script.items in
    with_trace c.args.tell _ (g.S.Source.left c.args.source.now)
    (g.S.Source.left c.read_set_up_lines.new.source) (g.S.Source.faults c.args.source.now)
    (g.S.Source.faults c.read_set_up_lines.new.source) script
    c.read_set_up_lines.new.input c.args.outbox.now c.in_ok-read.read
    c.in_ok-checker.checker.set_up c.follow_trace-verdict.result (c.in_ok-read.read.lines + 1)
    (g.S.Source.left c.follow_trace-verdict.new.source)
    (g.S.Source.faults c.follow_trace-verdict.new.source)
    c.tell_ok.new.outbox c.follow_trace-verdict.new.outbox read
    (subst (λ s. IsSetUpOf s c.in_ok-checker.checker.set_up) c.as_slice.ensures.value
    c.in_ok-checker.ensures.made)
    c.if-not-parted.false refl c.tell_ok.ensures.told c.follow_trace-verdict.ensures.follows
