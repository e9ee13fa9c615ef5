use Rattle.std.proofs.Common.{rules, tests}
use Rattle.trace_check.proofs.SendingLaws.{lent_has}
use Rattle.trace_check.proofs.sending.has_packet.Goals as goal

pub returns-else-contains : goal.returns-else-contains
returns-else-contains c = λ net p is.
    lent_has net p c.args.waiting.now c.args.lent.now.items c.args.packet.now c.contains.result
    c.has.result is c.contains.ensures.range c.contains.ensures.value c.has.ensures
    (search (rules, tests))
