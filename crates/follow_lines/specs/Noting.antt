-- Which lines of a trace are kept for what is said of them.
use Rattle.std.specs.Prelude.{ℕ, List, map}
use Rattle.follow_lines.specs.declared.journal.Notes.{Notes}

-- the first bytes of each line that is kept
abbrev pub kept_lines : Notes → List (List ℕ)
kept_lines notes = map (λ line. line.items) notes.last.items
