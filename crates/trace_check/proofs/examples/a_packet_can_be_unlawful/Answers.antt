use Rattle.trace_check.proofs.WorkedTexts.{no_end_unlawful, freed_early_unlawful}
use Rattle.trace_check.proofs.examples.a_packet_can_be_unlawful.Goals as goal

pub returns : goal.returns
returns c = record { no_end = no_end_unlawful; freed_early = freed_early_unlawful }
