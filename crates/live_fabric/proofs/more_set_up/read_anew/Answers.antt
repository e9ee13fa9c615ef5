use Rattle.std.proofs.Common.{refl}
use Rattle.live_fabric.proofs.more_set_up.read_anew.Goals as goal

pub returns-in-Err-Refused-clause-read : goal.returns-in-Err-Refused-clause-read
returns-in-Err-Refused-clause-read c =
    let hit = c.in-Err-Refused.ensures.refused c.in-Err-Refused.refusal (cc) in
    ((c.in-Err-Refused.refusal.line, hit), refl)
