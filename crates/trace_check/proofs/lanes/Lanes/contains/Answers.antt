use Rattle.std.proofs.Common.{◌≡◌, ◌↔◌, ℕ, List, Contains, get_or, arith, subst}
use Rattle.std.proofs.lemmas.Grind.{common_steps}
use Rattle.std.specs.Prelude.{IsTrue}
use Rattle.rio_packets.specs.Fields.{prio_of}
use Rattle.link_buffers.specs.Queues.{list_at}
use Rattle.trace_check.proofs.lanes.Lanes.contains.Goals as goal

pub returns-clause-value : goal.returns-clause-value
returns-clause-value c =
    let packet = c.args.packet.now in
    let lane = get_or c.self.inside.lanes c.from.result c.index-self-from.result in
    let same : lane.items ≡ list_at c.args.self.now (prio_of packet)
    = grind (arith, common_steps) in
    subst (λ (l : List (List ℕ)). IsTrue c.has.result ↔ Contains l packet) same c.has.ensures
