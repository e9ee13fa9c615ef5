use Rattle.std.proofs.lemmas.Result.{err_from_is_err_and}
use Rattle.rio_chars.proofs.TakingLaws.{ConsumesJust-after, ConsumesUpTo-after}
use Rattle.rio_chars.proofs.reading.read_all.Goals as goal

pub returns-in_err-take_up-clause-bounded : goal.returns-in_err-take_up-clause-bounded
returns-in_err-take_up-clause-bounded g c =
    let bounded = c.take_up.ensures.bounded in
    ConsumesUpTo-after _ _ _ c.loop-piece.bytes.items bounded.0 _ c.loop-piece.invariant.told
    bounded.1 bounded.2

pub returns-in_err-take_up-clause-too_long : goal.returns-in_err-take_up-clause-too_long
returns-in_err-take_up-clause-too_long g c = λ is.
    let returned =
    err_from_is_err_and c.from_residual-in_err-take_up.result
    c.from_residual-in_err-take_up.ensures.1 in
    let long = c.take_up.ensures.too_long (cc (returned.1, returned.2, c.in_err-take_up.was)) in
    ConsumesJust-after _ _ _ c.loop-piece.bytes.items long.0 _ c.loop-piece.invariant.told long.1
    long.2
