use Rattle.rio_framer.proofs.EndedLaws.{ended-true, ended-some}
use Rattle.rio_framer.proofs.framer.Framer.ended.Goals as goal

pub returns-in-Ok-clause-event : goal.returns-in-Ok-clause-event
returns-in-Ok-clause-event c =
    let f = c.self.inside in
    ended-true f.mode f.building f.pending f.ended c.args.self.now _ c.self.view_is
    (ended-some f.mode f.building f.pending f.ended c.args.self.now c.self.view_is c.requires)
    c.carried.ensures.fits c.in-Ok.ensures.checked

pub returns-in-Err-clause-event : goal.returns-in-Err-clause-event
returns-in-Err-clause-event c =
    let f = c.self.inside in
    ended-true f.mode f.building f.pending f.ended c.args.self.now _ c.self.view_is
    (ended-some f.mode f.building f.pending f.ended c.args.self.now c.self.view_is c.requires)
    c.carried.ensures.fits c.in-Err.ensures.checked
