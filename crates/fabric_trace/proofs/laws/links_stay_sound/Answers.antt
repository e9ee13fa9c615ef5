use Rattle.fabric_trace.proofs.SetUps.Starting.{links_sound, never_failed}
use Rattle.fabric_trace.proofs.laws.links_stay_sound.Goals as goal

pub returns : goal.returns
returns c = record { sound = links_sound; working = never_failed }
