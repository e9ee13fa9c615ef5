-- The laws of a watch that writes its notes.
use Rattle.std.proofs.Common.{◌≡◌, List, [], ◌∷◌, ◌++◌, refl, sym, ◌∙◌, subst}
use Rattle.std.proofs.lemmas.List.{map-append}
use Rattle.rio_chars.specs.declared.sink.Sink.{Ghosts}
use Rattle.link_watch.specs.declared.note.Note.{Note}
use Rattle.link_watch.specs.declared.note.Note.TheVariants as Notes
use Rattle.fabric_script.specs.declared.ports.PortRef.{PortRef}
use Rattle.trace_lines.specs.Counts.{with_lines_counted}
use Rattle.trace_lines.specs.Notes.{line_of, lines_of}
use Rattle.trace_lines.specs.Watching.{writer_of, WritesNotes}
use Rattle.trace_lines.specs.Writing.{Adds}
use Rattle.trace_lines.specs.declared.counts.PacketCounts.{PacketCounts}
use Rattle.trace_lines.specs.declared.watching.LinkLines.{LinkLines}
use Rattle.trace_lines.specs.AddsLaws.{Adds-nil, Adds-then}

-- no notes have no lines
pub writes_no_notes : {K : Type 0} {S : Ghosts K} (watch : LinkLines K S)
    → WritesNotes watch [] watch
writes_no_notes watch = record {
  first_end = refl;
  second_end = refl;
  lines = Adds-nil (writer_of watch);
}

-- notes that are taken in behind others are written behind them
pub writes_more_notes : {K : Type 0} {S : Ghosts K} (watch next last : LinkLines K S)
    (first rest : List Note)
    → WritesNotes watch first next → WritesNotes next rest last
    → WritesNotes watch (first ++ rest) last
writes_more_notes watch next last first rest once more = record {
  first_end = more.first_end ∙ once.first_end;
  second_end = more.second_end ∙ once.second_end;
  lines = subst (Adds (writer_of watch) (writer_of last))
      (sym (map-append (line_of watch.a watch.b) first rest))
      (Adds-then once.lines (rw (sym once.first_end, sym once.second_end) more.lines));
}

-- the lines of notes are not counted
pub notes_uncounted : (counts : PacketCounts) (a b : PortRef) (notes : List Note)
    → with_lines_counted counts (lines_of a b notes) ≡ counts
notes_uncounted counts a b [] = refl
notes_uncounted counts a b (Notes.Sent side chars ∷ notes) = notes_uncounted counts a b notes
notes_uncounted counts a b (Notes.Got side chars ∷ notes) = notes_uncounted counts a b notes
notes_uncounted counts a b (Notes.Hold side packet ∷ notes) = notes_uncounted counts a b notes
notes_uncounted counts a b (Notes.Free side packet ∷ notes) = notes_uncounted counts a b notes
notes_uncounted counts a b (Notes.Fire side ∷ notes) = notes_uncounted counts a b notes
