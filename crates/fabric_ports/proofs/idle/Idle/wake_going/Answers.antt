use Rattle.std.proofs.Common.{◌+◌, inl, inr, refl, arith}
use Rattle.fabric_ports.proofs.idle.Idle.wake_going.Goals as goal

pub overflow_add-first : goal.overflow_add-first
overflow_add-first c =
    let below = c.requires (c.args.first + c.args.going.port)
    (c.args.going.port, inl refl, refl) in
    let same = c.from.ensures in
    omega (arith, below, same)

pub overflow_add-first-in-Port : goal.overflow_add-first-in-Port
overflow_add-first-in-Port c =
    let below = c.requires (c.args.first + c.in-Port.to) (c.in-Port.to, inr c.in-Port.is, refl) in
    let same = c.from-in-Port.ensures in
    omega (arith, below, same)
