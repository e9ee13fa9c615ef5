use Rattle.link_sound.proofs.Carrying.{all_ports, all_sound, all_carried, none_failed}
use Rattle.link_sound.proofs.histories.every_history_carries_packets.Goals as goal

pub returns-clause-carried : goal.returns-clause-carried
returns-clause-carried c = all_carried

pub returns-clause-sound : goal.returns-clause-sound
returns-clause-sound c = all_sound

pub returns-clause-failed : goal.returns-clause-failed
returns-clause-failed c = none_failed

pub returns-clause-ports : goal.returns-clause-ports
returns-clause-ports c = all_ports
