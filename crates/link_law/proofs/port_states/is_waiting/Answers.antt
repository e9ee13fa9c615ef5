use Rattle.link_law.proofs.Prelude.{◌∙◌, refl, highest, length-lists_without, prios_of, waiting_in}
use Rattle.link_law.proofs.SendLaws.{waits_by}
use Rattle.link_law.proofs.port_states.is_waiting.Goals as goal

pub returns : goal.returns
returns c =
    waits_by (waiting_in c.args.port.now) c.waiting.result (highest (waiting_in c.args.port.now))
    (length-lists_without (prios_of c.args.port.now.output) c.args.port.now.queued
    ∙ c.waiting.ensures.port.sends.four) refl c.waiting.ensures.exact
