use Rattle.link_model.proofs.PlacesBounds.{step_bounded, all_bounded}
use Rattle.link_model.proofs.reading_laws.packet_in_progress_is_bounded.Goals as goal

pub returns : goal.returns
returns c = record { step = step_bounded; all = all_bounded }
