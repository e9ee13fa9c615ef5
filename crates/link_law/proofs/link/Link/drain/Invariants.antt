use Rattle.link_law.proofs.Prelude.{◌≡◌, link}
use Rattle.link_law.proofs.DrainLaws.{Draining}
use Rattle.link_law.proofs.link.Link.drain.Given as goal

abbrev pub invariant-loop : goal.invariant-loop
invariant-loop g l =
    Draining g.W.Watch.grew (link l.fn.self l.fn.a l.fn.b) l.fn.watch (link l.self l.a l.b) l.watch
    l.counter
    × (g.W.Watch.faults l.watch ≡ g.W.Watch.faults l.fn.watch)
