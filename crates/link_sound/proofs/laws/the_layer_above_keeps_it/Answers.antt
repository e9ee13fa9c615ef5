use Rattle.link_sound.proofs.Steps.{put_keeps, other_parts}
use Rattle.link_sound.proofs.laws.the_layer_above_keeps_it.Goals as goal

pub returns-clause-put : goal.returns-clause-put
returns-clause-put c = put_keeps

pub returns-clause-other_parts : goal.returns-clause-other_parts
returns-clause-other_parts c = other_parts
