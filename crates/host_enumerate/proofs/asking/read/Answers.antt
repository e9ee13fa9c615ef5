use Rattle.host_enumerate.proofs.Opening.{open_after_read, same_after_read}
use Rattle.host_enumerate.proofs.asking.read.Goals as goal

pub ask-requires-clause-askable : goal.ask-requires-clause-askable
ask-requires-clause-askable g c =
    let asked = c.requires.askable in (
      asked.0,
      asked.1,
      asked.2,
      open_after_read (g.M.Maint.topology c.args.maint.now) (g.M.Maint.registers c.args.maint.now)
          asked.0 c.args.path.now asked.1 c.args.offset asked.2.opened,
    )

pub returns-clause-registers : goal.returns-clause-registers
returns-clause-registers g c = same_after_read (g.M.Maint.registers c.args.maint.now)
    (g.M.Maint.registers c.ask.new.maint) c.requires.askable.1 c.args.offset
    (c.in_ok-answer.ensures.registers c.requires.askable.1 c.requires.askable.2.leads)
