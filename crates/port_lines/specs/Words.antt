-- The characters of a line, or the first word that is none.
use Rattle.std.specs.Prelude.{◌≡◌, ℕ, List, map, Result, Ok, Err}
use Rattle.rio_chars.specs.declared.chars.Char.{Char}
use Rattle.fabric_script.specs.declared.advice.WordKind.TheVariants.{Character}
use Rattle.port_lines.specs.declared.faults.RequestFault.{RequestFault}
use Rattle.port_lines.specs.declared.faults.RequestFault.TheVariants.{Word}
use Rattle.port_lines.specs.Faults.{FirstMisspelled}
use Rattle.port_lines.specs.Requests.{SpellsGot}

-- the first of some words that is no character, if the first of them stands at this place
abbrev pub FirstNoCharacter : List (List ℕ) → ℕ → ℕ → Type 0
FirstNoCharacter words place at =
    FirstMisspelled (map (λ word. Character) words) words place at Character

-- what was read of the words behind the first one of a line
abbrev pub AreCharsOrNot : List (List ℕ) → Result (List Char) RequestFault → Type 0
AreCharsOrNot words (Ok chars) = SpellsGot words chars
AreCharsOrNot words (Err fault) =
    (at : ℕ) × (fault ≡ Word at Character) × FirstNoCharacter words 2 at
