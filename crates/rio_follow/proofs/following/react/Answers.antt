use Rattle.follow_lines.proofs.ReactingLaws.{judges_nothing}
use Rattle.rio_follow.proofs.following.react.Goals as goal

pub returns-in_default : goal.returns-in_default
returns-in_default g c = judges_nothing _ _ _ _

pub returns-in_default-new : goal.returns-in_default-new
returns-in_default-new g c = judges_nothing _ _ _ _
