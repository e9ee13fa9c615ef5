use Rattle.trace_lines.proofs.ReadLaws.{begun_spelled}
use Rattle.trace_lines.proofs.reading.read_begun.Goals as goal

pub returns-in-Ok-clause-line : goal.returns-in-Ok-clause-line
returns-in-Ok-clause-line c =
    begun_spelled c.args.set_up.now.known c.args.text.now c.in-Ok.event c.requires
    c.in-Ok.ensures.event
