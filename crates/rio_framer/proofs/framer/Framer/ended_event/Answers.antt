use Rattle.std.proofs.Common.{ℕ, List, Some, sym, ap, ◌∙◌}
use Rattle.link_model.specs.declared.event.Event.TheVariants.{Pkt}
use Rattle.rio_framer.proofs.EndedLaws.{ended-true}
use Rattle.rio_framer.proofs.framer.Framer.ended_event.Goals as goal

pub returns-in-Ok : goal.returns-in-Ok
returns-in-Ok c =
    let f = c.self.inside in
    ap (λ (form : List ℕ). Some (Pkt c.in-Ok.ack form)) c.from_form.ensures
    ∙ sym (ended-true f.mode f.building f.pending f.ended c.args.self.now _ c.self.view_is
    c.if-not-self.false
    c.carried.ensures.fits c.in-Ok.ensures.checked)

pub returns-in-Err : goal.returns-in-Err
returns-in-Err c =
    let f = c.self.inside in
    sym (ended-true f.mode f.building f.pending f.ended c.args.self.now _ c.self.view_is
    c.if-not-self.false
    c.carried.ensures.fits c.in-Err.ensures.checked)
