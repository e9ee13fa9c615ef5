-- The lines of an input.
use Rattle.std.specs.Prelude.{ℕ, ◌==◌, List}
use Rattle.std.specs.List.{slice_split}

-- the pieces that line feeds part; behind a final line feed stands an empty one
abbrev pub text_lines : List ℕ → List (List ℕ)
text_lines bytes = slice_split (λ byte. byte == 10) bytes
