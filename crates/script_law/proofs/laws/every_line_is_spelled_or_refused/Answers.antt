use Rattle.script_law.proofs.LineChoice.{spelled_or_hit}
use Rattle.script_law.proofs.TextChoice.{event_or_refused}
use Rattle.script_law.proofs.laws.every_line_is_spelled_or_refused.Goals as goal

pub returns-clause-line : goal.returns-clause-line
returns-clause-line c = spelled_or_hit

pub returns-clause-event : goal.returns-clause-event
returns-clause-event c = event_or_refused
