use Rattle.link_port.proofs.output_half.Output.retry.Goals as goal

pub returns-in-RetryStopped : goal.returns-in-RetryStopped
returns-in-RetryStopped c = rw (c.in-RetryStopped.is) (c.unexpected.ensures.retry c.args.ack)
