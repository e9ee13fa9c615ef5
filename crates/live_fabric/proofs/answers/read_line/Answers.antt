use Rattle.live_fabric.proofs.AnsweringLaws.{reads_refused}
use Rattle.live_fabric.proofs.answers.read_line.Goals as goal

pub returns-in_ok-refuse-in-Refused-clause-read : goal.returns-in_ok-refuse-in-Refused-clause-read
returns-in_ok-refuse-in-Refused-clause-read g c = λ taken holds.
    reads_refused taken c.args.line.now c.args.outbox.now c.refuse.new.outbox c.take.new.self
    c.in-Refused.reason (rw c.in-Refused.is at (c.in_ok-take.ensures taken holds))
    c.in_ok-refuse-in-Refused.ensures.told
