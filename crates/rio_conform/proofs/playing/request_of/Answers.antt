use Rattle.rio_conform.proofs.playing.request_of.Goals as goal

pub returns-in-Err-clause-fails : goal.returns-in-Err-clause-fails
returns-in-Err-clause-fails c = (c.in-Err._refusal, rw c.in-Err.is at c.in-Ok.ensures)
