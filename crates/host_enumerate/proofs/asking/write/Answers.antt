use Rattle.host_enumerate.proofs.Opening.{open_after_write}
use Rattle.host_enumerate.proofs.asking.write.Goals as goal

pub ask-requires-clause-askable : goal.ask-requires-clause-askable
ask-requires-clause-askable g c =
    let asked = c.requires.askable in (
      asked.0,
      asked.1,
      asked.3,
      open_after_write asked.3.opened asked.4,
    )
