use Rattle.link_law.proofs.Prelude.{◌++◌, ◌∷◌, ◌∙◌, map, take, drop, suc, sym, ap, arith, Move, move_note}
use Rattle.std.proofs.Math.Seq.{split_at}
use Rattle.std.proofs.lemmas.List.{map-append}
use Rattle.link_law.proofs.Noting.{on_err}
use Rattle.link_law.proofs.deliveries.note_moves.Goals as goal

pub returns-in_err-note_move-clause-stopped : goal.returns-in_err-note_move-clause-stopped
returns-in_err-note_move-clause-stopped g c =
    let moves = c.args.moves.now in
    let i = c.loop-step.step-index in
    let step = c.step-item.result in
    let note = move_note c.args.to in
    on_err c.from_residual.result (record {
      front = map note (take i moves);
      rest = note step ∷ map note (drop (suc i) moves);
      whole =
          ap (map note)
          (split_at moves i step (omega arith)
          ∙ ap (λ (m : Move). take i moves ++ m ∷ drop (suc i) moves) (sym c.step-item.is))
          ∙ map-append note (take i moves) (step ∷ drop (suc i) moves);
      mid = c.loop-step.watch;
      grown = c.loop-step.invariant.grown;
      cut_at = c.in_err-note_move.ensures.stopped;
    })
