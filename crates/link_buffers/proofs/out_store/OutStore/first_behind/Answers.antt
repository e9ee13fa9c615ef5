use Rattle.std.proofs.Common.{◌-◌, sym, ◌∙◌, arith}
use Rattle.link_buffers.proofs.PriorityLaws.{length_list_at-lists_without, highest_below-found, highest_below-passed, highest_below-zero}
use Rattle.link_buffers.proofs.out_store.OutStore.first_behind.Goals as goal

pub returns-then-place-len-clause-highest : goal.returns-then-place-len-clause-highest
returns-then-place-len-clause-highest c =
    let prio = c.loop-prio.prio - 1 in
    let long = length_list_at-lists_without c.args.prios.now c.args.self.now prio in
    sym (highest_below-found prio c.loop-prio.prio _ (omega arith) (omega arith))
    ∙ c.loop-prio.invariant

pub loop-prio-preserved : goal.loop-prio-preserved
loop-prio-preserved c =
    let prio = c.loop-prio.prio - 1 in
    let long = length_list_at-lists_without c.args.prios.now c.args.self.now prio in
    sym (highest_below-passed prio c.loop-prio.prio _ (omega arith) (omega arith))
    ∙ c.loop-prio.invariant

pub returns-clause-highest : goal.returns-clause-highest
returns-clause-highest c =
    sym (highest_below-zero c.loop-prio.prio _ (omega arith)) ∙ c.loop-prio.invariant
