use Rattle.host_enumerate.proofs.plain.PlainMaint.+walk.Given as goal

abbrev pub decreases-walk : goal.decreases-walk
decreases-walk l = l.hops
