use Rattle.link_sound.proofs.Steps.{lost_keeps}
use Rattle.link_sound.proofs.laws.events_may_be_lost.Goals as goal

pub returns : goal.returns
returns c = lost_keeps
