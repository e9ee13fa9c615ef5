use Rattle.link_law.proofs.Prelude.{List, [], ◌∷◌, ◌++◌, map, subst, Char, Stopped, Got, Move, move_note, sent_notes, stopped_in_one, stopped_then, stopped_before}
use Rattle.link_law.proofs.Noting.{on_err, ok_then, err_then}
use Rattle.link_law.proofs.deliveries.note_delivery.Goals as goal

pub returns-in_err-got-clause-stopped : goal.returns-in_err-got-clause-stopped
returns-in_err-got-clause-stopped g c =
    let got = Got c.args.to c.args.came.now.got.items in
    on_err c.from_residual.result
    (stopped_before g.met.W.Watch.is_watch c.args.watch.now
    c.got.new.self (got ∷ [])
    (map (move_note c.args.to) c.args.came.now.moves.items
    ++ sent_notes c.args.to c.args.answers.now)
    (stopped_in_one g.met.W.Watch.is_watch c.args.watch.now
    c.got.new.self got
    (subst (λ (chars : List Char). g.W.Watch.cut c.args.watch.now (Got c.args.to chars)
    c.got.new.self) c.as_slice.ensures.value c.in_err-got.ensures.stopped)))

pub returns-in_err-note_moves-clause-stopped : goal.returns-in_err-note_moves-clause-stopped
returns-in_err-note_moves-clause-stopped g c =
    let got = Got c.args.to c.args.came.now.got.items in
    let moves = map (move_note c.args.to) c.args.came.now.moves.items in
    let answers = sent_notes c.args.to c.args.answers.now in
    on_err c.from_residual-in_err-note_moves.result
    (stopped_then g.met.W.Watch.is_watch c.args.watch.now
    c.got.new.self c.note_moves.new.watch (got ∷ []) (moves ++ answers)
    (subst (λ (chars : List Char). g.W.Watch.grew c.args.watch.now (Got c.args.to chars ∷ [])
    c.got.new.self) c.as_slice.ensures.value c.in_ok-got.ensures.taken)
    (stopped_before g.met.W.Watch.is_watch c.got.new.self
    c.note_moves.new.watch moves answers
    (subst (λ (steps : List Move). Stopped g.W.Watch.grew g.W.Watch.cut c.got.new.self
    (map (move_note c.args.to) steps) c.note_moves.new.watch) c.as_slice-2.ensures.value
    c.in_err-note_moves.ensures.stopped)))

pub returns-clause-noted : goal.returns-clause-noted
returns-clause-noted g c =
    let got = Got c.args.to c.args.came.now.got.items in
    let moves = map (move_note c.args.to) c.args.came.now.moves.items in
    let answers = sent_notes c.args.to c.args.answers.now in
    ok_then c.note_sent.result
    (λ taken. g.met.W.Watch.is_watch.on c.args.watch.now c.got.new.self c.note_sent.new.watch
    (got ∷ [])
    (moves ++ answers)
    (subst (λ (chars : List Char). g.W.Watch.grew c.args.watch.now (Got c.args.to chars ∷ [])
    c.got.new.self) c.as_slice.ensures.value c.in_ok-got.ensures.taken)
    (g.met.W.Watch.is_watch.on c.got.new.self c.note_moves.new.watch c.note_sent.new.watch moves
    answers
    (subst (λ (steps : List Move). g.W.Watch.grew c.got.new.self
    (map (move_note c.args.to) steps) c.note_moves.new.watch) c.as_slice-2.ensures.value
    c.in_ok-note_moves.ensures.noted) taken))
    c.note_sent.ensures.noted

pub returns-clause-stopped : goal.returns-clause-stopped
returns-clause-stopped g c =
    let got = Got c.args.to c.args.came.now.got.items in
    let moves = map (move_note c.args.to) c.args.came.now.moves.items in
    let answers = sent_notes c.args.to c.args.answers.now in
    err_then c.note_sent.result
    (λ stopped. stopped_then g.met.W.Watch.is_watch c.args.watch.now
    c.got.new.self c.note_sent.new.watch (got ∷ []) (moves ++ answers)
    (subst (λ (chars : List Char). g.W.Watch.grew c.args.watch.now (Got c.args.to chars ∷ [])
    c.got.new.self) c.as_slice.ensures.value c.in_ok-got.ensures.taken)
    (stopped_then g.met.W.Watch.is_watch c.got.new.self
    c.note_moves.new.watch c.note_sent.new.watch moves answers
    (subst (λ (steps : List Move). g.W.Watch.grew c.got.new.self
    (map (move_note c.args.to) steps) c.note_moves.new.watch) c.as_slice-2.ensures.value
    c.in_ok-note_moves.ensures.noted) stopped))
    c.note_sent.ensures.stopped
