use Rattle.link_buffers.proofs.StoreLemmas.{IsOutStore-popped}
use Rattle.link_buffers.proofs.out_store.OutStore.pop.Goals as goal

pub invariant_of-self : goal.invariant_of-self
invariant_of-self c =
    rw c.pop.ensures.lists (c.self.invariant.0, IsOutStore-popped _ _ c.self.invariant.1 c.requires)

pub returns-clause-store : goal.returns-clause-store
returns-clause-store c = (invariant_of-self c).1
