use Rattle.std.proofs.Common.{◌≡◌, ◌++◌, None, replicate}
use Rattle.trace_check.proofs.links.Links.add_node.Given as goal

abbrev pub invariant-loop : goal.invariant-loop
invariant-loop l = l.self.peers.items ≡ l.fn.self.peers.items ++ replicate l.counter None
