use Rattle.link_port.proofs.output_half.Output.accepted.Goals as goal

pub returns-in-RetryStopped-clause-state : goal.returns-in-RetryStopped-clause-state
returns-in-RetryStopped-clause-state c =
    rw (c.in-RetryStopped.is) (c.unexpected.ensures.accepted c.args.ack)
