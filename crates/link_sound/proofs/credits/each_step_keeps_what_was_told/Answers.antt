use Rattle.link_sound.proofs.CreditSteps.{all_linked, hearer_told, teller_told, hearer_room, teller_room}
use Rattle.link_sound.proofs.credits.each_step_keeps_what_was_told.Goals as goal

pub returns-clause-linked : goal.returns-clause-linked
returns-clause-linked c = all_linked

pub returns-clause-hearer : goal.returns-clause-hearer
returns-clause-hearer c = hearer_told

pub returns-clause-teller : goal.returns-clause-teller
returns-clause-teller c = teller_told

pub returns-clause-hearer_room : goal.returns-clause-hearer_room
returns-clause-hearer_room c = hearer_room

pub returns-clause-teller_room : goal.returns-clause-teller_room
returns-clause-teller_room c = teller_room
