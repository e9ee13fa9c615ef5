use Rattle.std.proofs.Common.{◌≡◌, ◌++◌, [], replicate}
use Rattle.link_buffers.specs.Queues.{no_packets}
use Rattle.trace_check.specs.Starting.{lent_lists}
use Rattle.trace_check.proofs.network.Network.add_node.Given as goal

abbrev pub invariant-loop : goal.invariant-loop
invariant-loop l = record {
  buffers : l.self.buffers.items ≡ l.fn.self.buffers.items ++ replicate l.counter 8;
  received : l.self.received.items ≡ l.fn.self.received.items ++ replicate l.counter no_packets;
  waiting : l.self.waiting.items ≡ l.fn.self.waiting.items ++ replicate l.counter no_packets;
  lent : lent_lists l.self ≡ lent_lists l.fn.self ++ replicate l.counter [];
  registers : l.self.registers ≡ l.fn.self.registers;
}
