-- The lines that say what was asked:
--
--     ask NAME TID       ask NAME -       full
--
-- An endpoint with this name has sent a request with this number, or one without a number; or it
-- had no room for it. What became of the packets that left is said by the lines of io_memory.
use Rattle.std.specs.Prelude.{ℕ, List, ◌++◌, Option, Some, None, codes}
use Rattle.std.specs.Fmt.{decimal}

abbrev pub tid_text : Option ℕ → List ℕ
tid_text None = codes "-"
tid_text (Some tid) = decimal tid

-- the text of the line, without its line feed
abbrev pub asked_text : List ℕ → Option ℕ → List ℕ
asked_text name tid = codes "ask " ++ (name ++ (codes " " ++ tid_text tid))
