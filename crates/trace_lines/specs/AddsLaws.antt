-- What is added to a trace, call by call.
use Rattle.std.proofs.Common.{◌≡◌, List, [], ◌∷◌, ◌++◌, refl, sym, ap, ◌∙◌, subst, append-nil}
use Rattle.std.specs.Prelude.{codes}
use Rattle.std.proofs.lemmas.Grind.{flat_map-append, fold-append}
use Rattle.rio_chars.specs.Written.{Writes}
use Rattle.rio_chars.proofs.WrittenLaws.{Writes-nil, Writes-then}
use Rattle.trace_lines.specs.Counts.{with_line_counted, with_lines_counted}
use Rattle.trace_lines.specs.Lines.{TraceLine}
use Rattle.trace_lines.specs.Text.{trace_line_text}
use Rattle.trace_lines.specs.Writing.{Adds}
use Rattle.trace_lines.specs.declared.writer.TraceWriter.{TraceWriter}

-- nothing was added
pub Adds-nil : {K : Type 0} (writer : TraceWriter K) → Adds writer writer []
Adds-nil writer = record {
  same = refl;
  names = refl;
  writes = Writes-nil writer.outbox.now;
  counts = refl;
}

-- lines behind lines
pub Adds-then : {K : Type 0} {old mid new : TraceWriter K} {first rest : List TraceLine}
    → Adds old mid first → Adds mid new rest → Adds old new (first ++ rest)
Adds-then {old} {mid} {new} {first} {rest} once more = record {
  same = more.same ∙ once.same;
  names = more.names ∙ once.names;
  writes = subst (Writes old.outbox.now new.outbox.now)
      (sym (flat_map-append _ first rest))
      (Writes-then _ _ once.writes (rw (sym once.names) more.writes));
  counts = more.counts
      ∙ (ap (λ counts. with_lines_counted counts rest) once.counts
      ∙ sym (fold-append with_line_counted old.counts first rest));
}

-- the text of a line was told, with its line feed, and it was counted
pub Adds-line : {K : Type 0} {old new : TraceWriter K} (line : TraceLine)
    → new.outbox.ghost_name ≡ old.outbox.ghost_name → new.names.now ≡ old.names.now
    → new.counts ≡ with_line_counted old.counts line
    → Writes old.outbox.now new.outbox.now (trace_line_text old.names.now line ++ codes "\n")
    → Adds old new (line ∷ [])
Adds-line {old} {new} line same names counted told = record {
  same = same;
  names = names;
  writes = subst (Writes old.outbox.now new.outbox.now) (sym (append-nil _)) told;
  counts = counted;
}
