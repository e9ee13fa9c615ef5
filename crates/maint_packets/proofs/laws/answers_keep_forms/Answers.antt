use Rattle.maint_packets.proofs.AnswerLaws.{responses_pass, answered_within}
use Rattle.maint_packets.proofs.laws.answers_keep_forms.Goals as goal

pub returns : goal.returns
returns c = record { response = responses_pass; device = answered_within }
