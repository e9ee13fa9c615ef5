use Rattle.link_port.proofs.output_half.Output.not_accepted.Goals as goal

pub returns-in-Ok : goal.returns-in-Ok
returns-in-Ok c = rw (c.in-Ok.is) (c.not_accepted.ensures 0)

pub returns-in-RetryStopped : goal.returns-in-RetryStopped
returns-in-RetryStopped c = rw (c.in-RetryStopped.is) (c.not_accepted-in-RetryStopped.ensures 0)
