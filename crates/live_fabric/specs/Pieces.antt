-- The lines of a text that are told without those with characters.
use Rattle.std.specs.Prelude.{ℕ, ◌==◌, Bool, true, false, List, [], ◌∷◌, ◌++◌, codes, if◌then◌else◌}
use Rattle.std.specs.List.{flat_map}
use Rattle.fabric_script.specs.Scripts.{pieces_of}

-- whether the first letter is `e`
abbrev pub begins_with_e : List ℕ → Bool
begins_with_e [] = false
begins_with_e (letter ∷ letters) = letter == 101

-- Whether a line is left out: it is empty, or begins with `g`, as `got` does, or with `se`, as
-- `sent` does. No other line of a trace begins so.
abbrev pub is_untold : List ℕ → Bool
is_untold [] = true
is_untold (letter ∷ letters) =
    if letter == 103 then true else (if letter == 115 then begins_with_e letters else false)

-- the line with its line feed, or nothing
abbrev pub told_piece : List ℕ → List ℕ
told_piece piece = if is_untold piece then [] else piece ++ codes "\n"

-- the lines of a text that are not left out
abbrev pub quiet_text : List ℕ → List ℕ
quiet_text bytes = flat_map told_piece (pieces_of bytes)
