use Rattle.link_sound.proofs.CreditHistory.{stays_in_time, room_open, no_retry_replied}
use Rattle.link_sound.proofs.WorkedCredit.{hearing, hearing_history, hearing_in_time, refused, refused_history, is_refused}
use Rattle.link_sound.proofs.credits.told_in_time_means_no_retry.Goals as goal

pub returns-clause-room : goal.returns-clause-room
returns-clause-room c = stays_in_time

pub returns-clause-never_waits : goal.returns-clause-never_waits
returns-clause-never_waits c = room_open

pub returns-clause-never_refuses : goal.returns-clause-never_refuses
returns-clause-never_refuses c = no_retry_replied

pub returns-clause-worked : goal.returns-clause-worked
returns-clause-worked c = (hearing, hearing_history, hearing_in_time)

pub returns-clause-untold : goal.returns-clause-untold
returns-clause-untold c = (refused, refused_history, is_refused)
