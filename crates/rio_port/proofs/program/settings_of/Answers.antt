use Rattle.rio_port.proofs.SettingsLaws.{taking_unasked, making_unasked}
use Rattle.rio_port.proofs.program.settings_of.Goals as goal

pub returns-in-None-clause-asks : goal.returns-in-None-clause-asks
returns-in-None-clause-asks c = λ settings asks.
    making_unasked _ _ _ c.split_buffers-buffers.ensures.splits
    (taking_unasked _ _ _ c.split_taking-takes_at_once.ensures c.in-None.ensures)
    settings.buffers settings.takes_at_once settings.patience asks.1
