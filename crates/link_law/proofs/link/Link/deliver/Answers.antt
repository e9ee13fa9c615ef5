use Rattle.link_law.proofs.Prelude.{◌≡◌, true, false, [], List, None, take, OnOk, Result, sym, ap, ◌∙◌, subst, if◌then◌else◌, stopped_at_once, told_of, undetected, Edited, Stopped, Note, other_side, has_chars, delivery_from, delivered_from, told_notes, delivery_notes, queues_of, Walks, IsSoundLink, LinkState, Wires, link, from_end, delivery_keeps, delivery_walks, LinkEnd}
use Rattle.link_machine.specs.Queues.{note_steps}
use Rattle.link_machine.specs.Queues.Walks.{WalkEnds}
use Rattle.link_watch.specs.declared.watch.NoteEnd.TheVariants as Stop
use Rattle.link_law.proofs.Noting.{given_up, on_given_up}
use Rattle.link_law.proofs.Delivering.{link_is, notes_are, on_done}
use Rattle.link_law.proofs.link.Link.deliver.Goals as goal

pub returns-then-not-has-clause-steps : goal.returns-then-not-has-clause-steps
returns-then-not-has-clause-steps g c =
    let s = link c.args.self.now c.args.a.now c.args.b.now in
    let from = c.args.from in
    let count = c.args.count in
    let none : has_chars from count s ≡ false =
    sym
    (c.has.ensures c.args.a.now c.args.b.now
    ∙ ap (λ (wires : Wires). has_chars from count (link wires c.args.a.now c.args.b.now))
    c.self.view_is)
    ∙ c.if-not-has.true in
    λ l. subst (λ b. Walks (queues_of s) (note_steps (if b
    then told_notes (other_side from) (take count (from_end from s).wire_a.chars)
    (told_of (delivery_from from count s)) else [])) (queues_of s)) (sym none) WalkEnds

-- ---- no memory for the delivery

pub returns-in_err-undetected-clause-answer : goal.returns-in_err-undetected-clause-answer
returns-in_err-undetected-clause-answer g c =
    given_up _ c.from_residual.result Stop.NoMemory c.from_residual.ensures.1

pub returns-in_err-undetected-clause-noted : goal.returns-in_err-undetected-clause-noted
returns-in_err-undetected-clause-noted g c =
    given_up _ c.from_residual.result Stop.NoMemory c.from_residual.ensures.1

pub returns-in_err-undetected-clause-stopped : goal.returns-in_err-undetected-clause-stopped
returns-in_err-undetected-clause-stopped g c =
    on_given_up c.from_residual.result
    (stopped_at_once g.met.W.Watch.is_watch
    c.args.watch.now
    (delivery_notes c.args.from c.args.count (link c.args.self.now c.args.a.now c.args.b.now)))

-- ---- a note that was not taken in

pub returns-in_err-note_delivery-clause-answer : goal.returns-in_err-note_delivery-clause-answer
returns-in_err-note_delivery-clause-answer g c =
    let told = c.from_residual-in_err-note_delivery in
    given_up _ told.result c.in_err-note_delivery.field-0.0 told.ensures.1

pub returns-in_err-note_delivery-clause-noted : goal.returns-in_err-note_delivery-clause-noted
returns-in_err-note_delivery-clause-noted g c =
    let told = c.from_residual-in_err-note_delivery in
    given_up _ told.result c.in_err-note_delivery.field-0.0 told.ensures.1

pub returns-in_err-note_delivery-clause-stopped : goal.returns-in_err-note_delivery-clause-stopped
returns-in_err-note_delivery-clause-stopped g c =
    let here = link c.self.inside.wires c.args.a.now c.args.b.now in
    let from = c.args.from in
    let count = c.args.count in
    let has : has_chars from count here ≡ true =
    sym (c.has.ensures c.args.a.now c.args.b.now) ∙ c.if-not-has.false in
    on_given_up c.from_residual-in_err-note_delivery.result
    (subst (λ (notes : List Note). Stopped g.W.Watch.grew g.W.Watch.cut c.args.watch.now notes
    c.note_delivery.new.watch)
    (notes_are from c.other-to.result count here c.carry.new.came.got.items
    c.carry.new.came.moves.items c.as_slice.result.now c.carry.new.answers.items
    c.in_ok-undetected.undetected c.other-to.ensures has c.in_ok-undetected.ensures.told
    c.as_slice.ensures.value
    ∙ ap (λ (wires : Wires). delivery_notes from count (link wires c.args.a.now c.args.b.now))
    c.self.view_is)
    c.in_err-note_delivery.ensures.stopped)

-- ---- all notes were taken in

pub returns-clause-sound : goal.returns-clause-sound
returns-clause-sound g c =
    let here = link c.self.inside.wires c.args.a.now c.args.b.now in
    let next = link c.carry.new.self c.carry.new.a c.carry.new.b in
    let from = c.args.from in
    let count = c.args.count in
    let has : has_chars from count here ≡ true =
    sym (c.has.ensures c.args.a.now c.args.b.now) ∙ c.if-not-has.false in
    subst (λ (wires : Wires). OnOk c.ended.result
    (IsSoundLink (link wires c.args.a.now c.args.b.now) → IsSoundLink next)) c.self.view_is
    (subst (λ (r : Result Edited LinkEnd). OnOk r (IsSoundLink here → IsSoundLink next))
    (sym c.ended.ensures)
    (on_done c.other-to.result c.in_ok-undetected.undetected (λ none l.
    let is : next ≡ delivered_from from count here =
    c.in_ok-undetected.ensures.link none ∙ link_is from count here has in
    subst (λ (t : LinkState). IsSoundLink t) (sym is) (delivery_keeps from count here l))))

pub returns-clause-steps : goal.returns-clause-steps
returns-clause-steps g c =
    let here = link c.self.inside.wires c.args.a.now c.args.b.now in
    let next = link c.carry.new.self c.carry.new.a c.carry.new.b in
    let from = c.args.from in
    let count = c.args.count in
    let has : has_chars from count here ≡ true =
    sym (c.has.ensures c.args.a.now c.args.b.now) ∙ c.if-not-has.false in
    subst (λ (wires : Wires). let s = link wires c.args.a.now c.args.b.now in
    OnOk c.ended.result (IsSoundLink s
    → Walks (queues_of s) (note_steps (delivery_notes from count s)) (queues_of next)))
    c.self.view_is
    (subst (λ (r : Result Edited LinkEnd). OnOk r (IsSoundLink here
    → Walks (queues_of here) (note_steps (delivery_notes from count here)) (queues_of next)))
    (sym c.ended.ensures)
    (on_done c.other-to.result c.in_ok-undetected.undetected (λ none l.
    let is : next ≡ delivered_from from count here =
    c.in_ok-undetected.ensures.link none ∙ link_is from count here has in
    let sent : undetected (delivery_from from count here) ≡ None =
    sym c.in_ok-undetected.ensures.told.found_is ∙ none in
    subst (λ (t : LinkState).
    Walks (queues_of here) (note_steps (delivery_notes from count here)) (queues_of t))
    (sym is) (delivery_walks from count here sent l))))
