-- The 16-bit device IDs that lines give nodes.
use Rattle.std.specs.Prelude.{◌≡◌, ◌≢◌, ℕ, ◌==◌, List, [], ◌∷◌, if◌then◌else◌}
use Rattle.fabric_script.specs.declared.lines.Line.{Line}
use Rattle.fabric_script.specs.declared.lines.Line.TheVariants.{Large}
use Rattle.fabric_script.specs.declared.lines.Numbered.{Numbered}
use Rattle.fabric_script.specs.Known.{Known, known_after}
use Rattle.fabric_script.specs.Lines.{new_name}

-- the 16-bit device ID of a node behind a line, if it was this before
abbrev pub large_id_after : ℕ → Line → ℕ → ℕ
large_id_after before (Large other id) node = if other == node then id else before
large_id_after before _ node = before

-- and behind lines
abbrev pub large_id_behind : ℕ → List Numbered → ℕ → ℕ
large_id_behind before [] node = before
large_id_behind before (line ∷ lines) node =
    large_id_behind (large_id_after before line.line node) lines node

-- the 16-bit device ID that lines give a node: that of the last line for it, or 65535
abbrev pub large_id_of : List Numbered → ℕ → ℕ
large_id_of lines node = large_id_behind 65535 lines node

-- another node has the 16-bit device ID, which is not 65535
pub record IsTaken (lines : List Numbered) (node id : ℕ) : Type 0 where
  pub some : id ≢ 65535
  pub other : ℕ
  pub apart : other ≢ node
  pub has : large_id_of lines other ≡ id

-- what is known behind lines
abbrev pub known_behind : Known → List (List ℕ) → List Numbered → Known
known_behind known names [] = known
known_behind known names (line ∷ lines) =
    known_behind (known_after known (new_name names line.line) line.line) names lines
