use Rattle.link_sender.proofs.out_ok.OutOk.time_out.Goals as goal

pub returns : goal.returns
returns c = c.not_accepted.ensures 0
