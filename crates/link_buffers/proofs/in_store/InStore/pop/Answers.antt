use Rattle.std.proofs.Common.{◌<◌, length, sym, ◌∙◌}
use Rattle.std.proofs.lemmas.Option.{slice_get_within}
use Rattle.link_buffers.specs.Queues.{list_at}
use Rattle.link_buffers.proofs.StoreLemmas.{IsCounted-popped}
use Rattle.link_buffers.proofs.in_store.InStore.pop.Goals as goal

pub invariant_of-self-2 : goal.invariant_of-self-2
invariant_of-self-2 c =
    let some : 0 < length (list_at c.self.inside.lists.lists c.args.prio) =
    slice_get_within _ 0 _ (sym c.pop.ensures.value ∙ c.in_ok-packet.was) in
    rw c.pop.ensures.lists (IsCounted-popped _ _ _ _ c.self.invariant c.requires some)

pub returns-clause-store : goal.returns-clause-store
returns-clause-store c = (invariant_of-self-2 c).store_is
