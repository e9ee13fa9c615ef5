use Rattle.std.proofs.Common.{length, arith, ap}
use Rattle.host_contest.proofs.reaching.reach.Goals as goal

pub overflow_cast-ports : goal.overflow_cast-ports
overflow_cast-ports g c =
    let short = c.requires.reached.1.short in
    let long = ap length c.as_slice-ports.ensures in
    omega (arith, short, long)
