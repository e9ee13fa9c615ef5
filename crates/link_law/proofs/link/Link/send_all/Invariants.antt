use Rattle.link_law.proofs.Prelude.{◌≡◌, link, left_at}
use Rattle.link_law.proofs.SendLaws.{Sent}
use Rattle.link_law.proofs.link.Link.send_all.Given as goal

abbrev pub invariant-loop-side : goal.invariant-loop-side
invariant-loop-side g l =
    Sent g.W.Watch.grew l.fn.side (link l.fn.self l.fn.a l.fn.b) l.fn.watch (link l.self l.a l.b)
    l.watch
    × (g.W.Watch.faults l.watch ≡ g.W.Watch.faults l.fn.watch) × (l.side ≡ l.fn.side)

abbrev pub decreases-loop-side : goal.decreases-loop-side
decreases-loop-side g l = left_at l.fn.side (link l.self l.a l.b)
