-- What a watch of a link writes.
use Rattle.std.specs.Prelude.{◌≡◌, List}
use Rattle.link_watch.specs.declared.note.Note.{Note}
use Rattle.link_watch.specs.declared.note.Note.TheVariants as Notes
use Rattle.link_watch.specs.declared.side.Side.{Side}
use Rattle.rio_chars.specs.declared.sink.Sink.{Ghosts}
use Rattle.trace_lines.specs.Counts.{nothing_counted}
use Rattle.trace_lines.specs.Notes.{lines_of}
use Rattle.trace_lines.specs.Writing.{Adds}
use Rattle.trace_lines.specs.declared.watching.Lent.{Lent}
use Rattle.trace_lines.specs.declared.watching.Lent.TheVariants as Lends
use Rattle.trace_lines.specs.declared.watching.LinkLines.{LinkLines}
use Rattle.trace_lines.specs.declared.writer.TraceWriter.{TraceWriter}

-- the note of an end that has what is lent
abbrev pub note_lent : Side → Lent → Note
note_lent side (Lends.Sent chars) = Notes.Sent side chars.now
note_lent side (Lends.Got chars) = Notes.Got side chars.now
note_lent side (Lends.Hold packet) = Notes.Hold side packet.now
note_lent side (Lends.Free packet) = Notes.Free side packet.now
note_lent side Lends.Fire = Notes.Fire side

-- a writer to the same outbox, with the same names, that has written nothing
abbrev pub writer_of : {K : Type 0} {S : Ghosts K} → LinkLines K S → TraceWriter K
writer_of watch = record { outbox = watch.outbox; names = watch.names; counts = nothing_counted }

-- The lines of these notes were added, in order. The ends are those of before.
pub record WritesNotes {K : Type 0} {S : Ghosts K} (old : LinkLines K S) (notes : List Note)
    (new : LinkLines K S) : Type 0 where
  pub first_end : new.a ≡ old.a
  pub second_end : new.b ≡ old.b
  pub lines : Adds (writer_of old) (writer_of new) (lines_of old.a old.b notes)
