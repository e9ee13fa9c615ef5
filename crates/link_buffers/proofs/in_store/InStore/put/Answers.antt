use Rattle.std.proofs.Common.{◌<◌, arith}
use Rattle.link_buffers.specs.Queues.{packet_count}
use Rattle.link_buffers.proofs.StoreLemmas.{IsCounted-appended}
use Rattle.link_buffers.proofs.in_store.InStore.put.Goals as goal

pub invariant_of-self : goal.invariant_of-self
invariant_of-self c =
    let room = rw (← c.self.view_is) at c.requires.room in
    let some_free : packet_count c.self.inside.lists.lists < c.self.inside.lists.room =
    omega arith in
    rw c.put.ensures.lists (IsCounted-appended _ _ _ c.args.packet c.self.invariant
    c.put.ensures.few c.put.ensures.packet some_free)

pub returns-clause-store : goal.returns-clause-store
returns-clause-store c = (invariant_of-self c).store_is
