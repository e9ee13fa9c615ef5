use Rattle.std.proofs.Common.{arith}
use Rattle.link_buffers.proofs.StoreLemmas.{IsOutStore-appended, IsOutStore-room}
use Rattle.link_buffers.proofs.out_store.OutStore.put.Goals as goal

pub put-requires : goal.put-requires
put-requires c few =
    let room = rw (← c.self.view_is) at c.requires.room in
    let fits = c.self.invariant.0 in
    let some =
    IsOutStore-room c.self.inside.lists.lists c.args.packet c.self.invariant.1 few room in
    omega arith

pub invariant_of-self : goal.invariant_of-self
invariant_of-self c =
    let room = rw (← c.self.view_is) at c.requires.room in
    rw c.put.ensures.lists (
      c.self.invariant.0,
      IsOutStore-appended _ c.args.packet c.self.invariant.1 c.put.ensures.few c.put.ensures.packet
          room,
    )

pub returns-clause-store : goal.returns-clause-store
returns-clause-store c = (invariant_of-self c).1
