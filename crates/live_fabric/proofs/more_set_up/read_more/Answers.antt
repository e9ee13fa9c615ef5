use Rattle.live_fabric.proofs.more_set_up.read_more.Goals as goal

pub returns-in-Err-Refused-clause-read : goal.returns-in-Err-Refused-clause-read
returns-in-Err-Refused-clause-read c =
    c.in-Err-Refused.ensures.refused c.in-Err-Refused.reason (cc)
