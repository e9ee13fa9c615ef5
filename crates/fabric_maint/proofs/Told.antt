-- The text of lines that stand behind others.
use Rattle.std.proofs.Common.{◌≡◌, ℕ, List, ◌++◌, Option, sym, subst}
use Rattle.std.proofs.lemmas.Grind.{flat_map-append}
use Rattle.std.specs.Io.KnownBytes.{Appends}
use Rattle.std.proofs.KnownBytes.{Appends-trans}
use Rattle.trace_lines.specs.Lines.{TraceLine}
use Rattle.trace_lines.specs.Text.{trace_text}

pub text_more : (names : List (List ℕ)) (lines block : List TraceLine)
    → trace_text names lines ++ trace_text names block ≡ trace_text names (lines ++ block)
text_more names lines block = sym (flat_map-append _ lines block)

pub told_more : (names : List (List ℕ)) (a b c : Option (List ℕ)) (lines block : List TraceLine)
    → Appends a b (trace_text names lines) → Appends b c (trace_text names block)
    → Appends a c (trace_text names (lines ++ block))
told_more names a b c lines block first second =
    subst (Appends a c) (text_more names lines block)
    (Appends-trans a b c (trace_text names lines) (trace_text names block) first second)
