-- Input whose last line has a line feed, whether it came with one or not.
use Rattle.std.specs.Prelude.{ℕ, ◌==◌, Bool, not, List, [], ◌∷◌, ◌++◌, Option, option_map, codes, if◌then◌else◌}

-- Whether bytes end within a line: the last of them is no line feed, or, if there is none, a line
-- was begun before.
unfoldable pub inside_after : Bool → List ℕ → Bool
inside_after inside [] = inside
inside_after inside (byte ∷ bytes) = inside_after (not (byte == 10)) bytes

-- bytes, and a line feed if they end within a line
abbrev pub with_last_feed : Bool → List ℕ → List ℕ
with_last_feed inside bytes = bytes ++ (if inside_after inside bytes then codes "\n" else [])

-- the same of bytes that may not be told
abbrev pub left_with_feed : Bool → Option (List ℕ) → Option (List ℕ)
left_with_feed inside left = option_map (with_last_feed inside) left
