-- Four lanes side by side: what stands in rows of four, one of each lane.
use Rattle.std.specs.Prelude.{ℕ, zero, suc, ◌+◌, ◌-◌, ◌%◌, List, [], ◌∷◌, ◌++◌, length, replicate}
use Rattle.rio_chars.specs.declared.chars.Char.{Char}
use Rattle.rio_chars.specs.declared.chars.Char.TheVariants.{Special}

-- what one lane has of rows: after so many of the others, each fourth
abbrev pub every_fourth : {A : Type 0} → ℕ → List A → List A
every_fourth wait [] = []
every_fourth zero (x ∷ xs) = x ∷ every_fourth 3 xs
every_fourth (suc wait) (x ∷ xs) = every_fourth wait xs

-- a row of idles K28.5, by which each lane is in sync, and one of align characters K27.7
abbrev pub idle_row : List Char
idle_row = Special 0xbc ∷ Special 0xbc ∷ Special 0xbc ∷ Special 0xbc ∷ []

abbrev pub align_row : List Char
align_row = Special 0xfb ∷ Special 0xfb ∷ Special 0xfb ∷ Special 0xfb ∷ []

-- idles behind so many characters: up to a whole row, and a row of them
abbrev pub idles_behind : List Char → List Char
idles_behind chars = replicate (7 - (length chars % 4 + 3) % 4) (Special 0xbc)

-- what is sent for a burst
abbrev pub burst_rows : List Char → List Char
burst_rows chars = idle_row ++ align_row ++ chars ++ idles_behind chars
