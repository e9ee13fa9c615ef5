use Rattle.maint_packets.proofs.AnswerLaws.{answered_same}
use Rattle.maint_packets.proofs.laws.answers_keep_devices.Goals as goal

pub returns : goal.returns
returns c = answered_same
