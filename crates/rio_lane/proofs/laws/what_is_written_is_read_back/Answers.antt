use Rattle.rio_lane.proofs.ReadBackLaws.{read_back_new}
use Rattle.rio_lane.proofs.laws.what_is_written_is_read_back.Goals as goal

pub returns : goal.returns
returns c = read_back_new
