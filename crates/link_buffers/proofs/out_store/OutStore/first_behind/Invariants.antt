use Rattle.std.proofs.Common.{◌≡◌}
use Rattle.link_buffers.specs.Priorities.{lists_without, highest, highest_below}
use Rattle.link_buffers.proofs.out_store.OutStore.first_behind.Given as goal

-- no higher priority has a packet that waits
abbrev pub invariant-loop-prio : goal.invariant-loop-prio
invariant-loop-prio l =
    highest_below l.prio (lists_without l.prios l.self) ≡ highest (lists_without l.prios l.self)
