use Rattle.link_sound.proofs.WorkedHistory.{freed_link, whole, arrives}
use Rattle.link_sound.proofs.histories.worked_history.Goals as goal

pub returns : goal.returns
returns c = (freed_link, whole, arrives)
