-- How a line is shown.
use Rattle.std.specs.Prelude.{ℕ, ◌&&◌, leb, ltb, List, [], ◌∷◌, ◌++◌, codes, length, map, take, if◌then◌else◌}
use Rattle.std.specs.Fmt.{decimal}

-- the line of a refusal: the number of its reason, and what is said of it
abbrev pub refusal_line : ℕ → List ℕ → List ℕ
refusal_line reason why = codes "refused " ++ decimal reason ++ codes " " ++ why ++ codes "\n"

-- a byte that a terminal prints, or a question mark
abbrev pub shown_byte : ℕ → ℕ
shown_byte byte = if leb 32 byte && leb byte 126 then byte else 63

-- what is shown of a text: its first 80 bytes
abbrev pub shown_text : List ℕ → List ℕ
shown_text text =
    map shown_byte (take 80 text) ++ (if ltb 80 (length text) then codes " ..." else [])

-- what is shown of a line, after a colon
abbrev pub excerpt_of : List ℕ → List ℕ
excerpt_of [] = []
excerpt_of (byte ∷ bytes) = codes ": " ++ shown_text (byte ∷ bytes)
