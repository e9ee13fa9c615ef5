use Rattle.std.proofs.Common.{◌++◌, sym, ap, ◌∙◌, arith}
use Rattle.live_lines.specs.Lines.{with_feed}
use Rattle.follow_lines.proofs.SettingLaws.{Setting-begin, Setting-line, Setting-parted, Setting-stops, Setting-no_memory, Setting-long}
use Rattle.follow_lines.proofs.setting.read_set_up_lines.Goals as goal

pub loop-input-init : goal.loop-input-init
loop-input-init g c = record {
  setting =
      Setting-begin c.args.script.now.items c.args.input.now (g.S.Source.left c.args.source.now)
      (g.S.Source.faults c.args.source.now) c.requires;
  few = omega arith;
}

pub returns-in-Err-clause-reads : goal.returns-in-Err-clause-reads
returns-in-Err-clause-reads g c =
    let stop = c.in-Err.ensures.stops in
    rw c.ended.ensures (Setting-stops c.loop-input.script.items c.args.input.now
    (g.S.Source.left c.args.source.now) (g.S.Source.faults c.args.source.now) c.read_line.new.self
    stop.0 c.in-Err.end c.loop-input.invariant.setting stop.1 stop.2)

pub returns-clause-reads : goal.returns-clause-reads
returns-clause-reads g c =
    Setting-long c.loop-input.script.items c.args.input.now (g.S.Source.left c.args.source.now)
    (g.S.Source.faults c.args.source.now) c.loop-input.invariant.setting (omega arith)

pub returns-then-is_between-clause-reads : goal.returns-then-is_between-clause-reads
returns-then-is_between-clause-reads g c =
    let read = c.in_default.ensures.read in
    let between = rw c.if-is_between.true at c.is_between.ensures in
    Setting-parted c.loop-input.script.items c.args.input.now (g.S.Source.left c.args.source.now)
    (g.S.Source.faults c.args.source.now) c.read_line.new.self c.read_line.new.line.items read.0
    c.loop-input.invariant.setting read.1 read.2 c.in_default.ensures.line
    c.in_default.ensures.counts (sym c.as_slice.ensures.value ∙ between)

pub returns-in_default-add_line-clause-reads : goal.returns-in_default-add_line-clause-reads
returns-in_default-add_line-clause-reads g c =
    let read = c.in_default.ensures.read in
    Setting-no_memory c.loop-input.script.items c.args.input.now
    (g.S.Source.left c.args.source.now) (g.S.Source.faults c.args.source.now)
    c.add_line.new.script.items c.read_line.new.self read.0 c.loop-input.invariant.setting read.1
    c.in_default.ensures.counts

pub loop-input-preserved : goal.loop-input-preserved
loop-input-preserved g c =
    let read = c.in_default.ensures.read in
    let line = c.read_line.new.line.items in
    let other = rw c.if-is_between.false at c.is_between.ensures in
    let more = c.in-Ok.ensures ∙ ap (λ l. c.loop-input.script.items ++ with_feed l)
    c.as_slice-in-loop-input.ensures.value in
    let next = Setting-line c.loop-input.script.items c.args.input.now
    (g.S.Source.left c.args.source.now) (g.S.Source.faults c.args.source.now)
    c.add_line.new.script.items c.read_line.new.self line read.0 c.loop-input.invariant.setting
    read.1 read.2 c.in_default.ensures.line c.in_default.ensures.counts
    (λ same. other (c.as_slice.ensures.value ∙ same)) more in
    record { setting = next; few = next.few }
