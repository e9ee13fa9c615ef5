use Rattle.std.proofs.Common.{◌≡◌, ◌+◌, ◌≤◌, ◌++◌, length, drop}
use Rattle.arrayvec.specs.ArrayVec.{array_vec_len}
use Rattle.link_buffers.specs.Priorities.{packets_of, lists_without}
use Rattle.link_sender.proofs.freed.free_all.Given as goal

-- what is left of the priorities completes what all of them do
abbrev pub invariant-loop-prio : goal.invariant-loop-prio
invariant-loop-prio l = record {
  room : array_vec_len l.freed + length (drop l.prio-index l.prios) ≤ 31;
  store : lists_without (drop l.prio-index l.prios) l.store ≡ lists_without l.prios l.initial.store;
  freed : l.freed.items ++ packets_of (drop l.prio-index l.prios) l.store
      ≡ l.initial.freed.items ++ packets_of l.prios l.initial.store;
}
