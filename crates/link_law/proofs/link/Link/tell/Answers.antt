use Rattle.link_law.proofs.Prelude.{List, [], ◌∷◌, refl, ap, subst, ◌∙◌, Char, tell_sends, Stopped, Wires, link, from_end, told_from, sent_notes, Tell, TellsOnce, end_of, NoMemory}
use Rattle.link_law.proofs.Noting.{given_is}
use Rattle.link_law.proofs.DoesLaws.{did_end, stops_at_once}
use Rattle.link_law.proofs.DrainLaws.{tell_comes, tell_ends}
use Rattle.link_law.proofs.link.Link.tell.Goals as goal

pub returns-in_err-tell-clause-does : goal.returns-in_err-tell-clause-does
returns-in_err-tell-clause-does g c =
    let s = link c.args.self.now c.args.a.now c.args.b.now in
    let next = link c.tell.new.self c.args.a.now c.args.b.now in
    did_end g.W.Watch.grew g.W.Watch.cut (TellsOnce c.args.side) s c.args.watch.now
    c.args.watch.now NoMemory c.from_residual.result next
    (given_is c.from_residual.result NoMemory c.from_residual.ensures.1)
    (stops_at_once g.W.Watch.grew g.W.Watch.cut g.met.W.Watch.is_watch (TellsOnce c.args.side) s
    c.args.watch.now (Tell c.args.side ∷ []) refl)

pub returns-in_err-note_sent-clause-does : goal.returns-in_err-note_sent-clause-does
returns-in_err-note_sent-clause-does g c =
    let s = link c.args.self.now c.args.a.now c.args.b.now in
    let next = link c.tell.new.self c.args.a.now c.args.b.now in
    let end = c.in_err-note_sent.field-0.0 in
    let told = c.from_residual-in_err-note_sent in
    did_end g.W.Watch.grew g.W.Watch.cut (TellsOnce c.args.side) s c.args.watch.now
    c.note_sent.new.watch (end_of end) told.result next
    (given_is told.result (end_of end) told.ensures.1)
    (tell_ends g.W.Watch.grew g.W.Watch.cut c.args.side s c.args.watch.now c.note_sent.new.watch
    end
    (subst (λ (chars : List Char). Stopped g.W.Watch.grew g.W.Watch.cut c.args.watch.now
    (sent_notes c.args.side chars) c.note_sent.new.watch)
    (c.as_slice.ensures.value ∙ c.in_ok-tell.ensures.sent
    ∙ ap (λ (wires : Wires).
    (tell_sends (from_end c.args.side (link wires c.args.a.now c.args.b.now)).a).chars)
    c.self.view_is) c.in_err-note_sent.ensures.stopped))

pub returns-clause-does : goal.returns-clause-does
returns-clause-does g c =
    let s = link c.args.self.now c.args.a.now c.args.b.now in
    let next = link c.tell.new.self c.args.a.now c.args.b.now in
    tell_comes g.W.Watch.grew c.args.side s next c.args.watch.now c.note_sent.new.watch
    (c.in_ok-tell.ensures.link
    ∙ ap (λ (wires : Wires). told_from c.args.side (link wires c.args.a.now c.args.b.now))
    c.self.view_is)
    (subst (λ (chars : List Char). g.W.Watch.grew c.args.watch.now (sent_notes c.args.side chars)
    c.note_sent.new.watch) (c.as_slice.ensures.value ∙ c.in_ok-tell.ensures.sent
    ∙ ap (λ (wires : Wires).
    (tell_sends (from_end c.args.side (link wires c.args.a.now c.args.b.now)).a).chars)
    c.self.view_is)
    c.in_ok-note_sent.ensures.noted)
