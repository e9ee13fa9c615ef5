use Rattle.std.proofs.Common.{refl}
use Rattle.trace_check.proofs.Forgetting.{keeps-held, may-hold}
use Rattle.trace_check.proofs.hearing.Hearing.hold.Goals as goal

pub returns-then-came-clause-may : goal.returns-then-came-clause-may
returns-then-came-clause-may c = λ run kept.
    may-hold run c.args.self.now c.args.packet.now c.take_packet-came.result kept
    c.take_packet-came.ensures.found

pub returns-then-came-clause-held : goal.returns-then-came-clause-held
returns-then-came-clause-held c = λ run kept came.
    keeps-held run c.args.self.now _ c.args.packet.now kept
    (c.take_packet-came.ensures.taken came) refl refl refl refl

pub returns-else-came-clause-may : goal.returns-else-came-clause-may
returns-else-came-clause-may c = λ run kept.
    may-hold run c.args.self.now c.args.packet.now c.take_packet-came.result kept
    c.take_packet-came.ensures.found
