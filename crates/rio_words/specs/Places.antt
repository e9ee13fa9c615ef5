-- How to see a line of a trace.
use Rattle.std.specs.Prelude.{ℕ, ◌-◌, ltb, List, ◌++◌, codes, if◌then◌else◌}
use Rattle.std.specs.Fmt.{decimal}

-- the first line that is to be seen before a line
abbrev pub first_shown : ℕ → ℕ
first_shown line = if ltb 20 line then line - 20 else 1

-- how to see a line of a trace, and the twenty before it
abbrev pub lines_text : ℕ → List ℕ
lines_text line = codes "rio: to see it: rio_view words --lines "
    ++ (decimal (first_shown line) ++ (codes "-" ++ (decimal line ++ codes " < TRACE\n")))
