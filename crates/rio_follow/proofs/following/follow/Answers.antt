use Rattle.std.proofs.Common.{None}
use Rattle.follow_lines.proofs.TellingLaws.{follows_none}
use Rattle.rio_follow.proofs.following.follow.Goals as goal

pub returns-in_default : goal.returns-in_default
returns-in_default g c = (None, follows_none _ _ _ _ _ _)

pub returns-in_default-new : goal.returns-in_default-new
returns-in_default-new g c = (None, follows_none _ _ _ _ _ _)
