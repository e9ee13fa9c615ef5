use Rattle.link_machine.proofs.Prelude.{room_in_time, from_end, ends_of_link}
use Rattle.link_machine.proofs.InTime.{runs_find_room, runs_tell_truly, deliveries_ask_none}
use Rattle.link_machine.proofs.laws.told_in_time_means_no_retry.Goals as goal

pub returns-clause-begins : goal.returns-clause-begins
returns-clause-begins c = λ peer s is. room_in_time (ends_of_link (from_end peer s)) is

pub returns-clause-runs : goal.returns-clause-runs
returns-clause-runs c = runs_find_room

pub returns-clause-told : goal.returns-clause-told
returns-clause-told c = runs_tell_truly

pub returns-clause-answers : goal.returns-clause-answers
returns-clause-answers c = deliveries_ask_none
