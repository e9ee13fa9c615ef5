use Rattle.std.proofs.Common.{◌++◌, ◌∷◌, ◌∙◌, take, drop, suc, sym, ap, arith}
use Rattle.std.proofs.Math.Seq.{split_at}
use Rattle.link_watch.specs.declared.note.Note.{Note}
use Rattle.script_tests.proofs.lines.lend_all.Goals as goal

pub returns-in-Err-clause-stopped : goal.returns-in-Err-clause-stopped
returns-in-Err-clause-stopped g c =
    let notes = c.args.notes.now in
    let i = c.loop-note.note-index in
    let note = c.note-item.result in
    record {
      front = take i notes;
      rest = note ∷ drop (suc i) notes;
      whole =
          split_at notes i note (omega arith)
          ∙ ap (λ (n : Note). take i notes ++ n ∷ drop (suc i) notes) (sym c.note-item.is);
      mid = c.loop-note.watch;
      grown = c.loop-note.invariant.grown;
      cut_at = c.in-Err.ensures.stopped;
    }
