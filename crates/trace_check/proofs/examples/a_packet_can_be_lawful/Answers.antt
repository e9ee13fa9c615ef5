use Rattle.trace_check.proofs.WorkedTexts.{texts_lawful}
use Rattle.trace_check.proofs.examples.a_packet_can_be_lawful.Goals as goal

pub returns : goal.returns
returns c = texts_lawful
