-- The log of both ends, which is written beside the answers.
use Rattle.std.specs.Prelude.{◌≡◌, ◌≢◌, ℕ, List, [], ◌∷◌, Option, Bool, true, false, codes, ⊤}
use Rattle.std.specs.Io.KnownBytes.{Appends}
use Rattle.rio_chars.specs.Unless.{WritesUnless}

-- Some text was written, or a front of it if a write failed, and nothing if one had failed before.
-- There is none unless a log is asked for.
pub record AddsLog (is_asked : Bool) (said : Option (List ℕ)) (faults : ℕ) (failed : Bool)
    (said_after : Option (List ℕ)) (faults_after : ℕ) (failed_after : Bool) : Type 0 where
  pub log : List ℕ
  pub none : is_asked ≡ false → log ≡ []
  pub says : WritesUnless failed said faults failed_after said_after faults_after log

-- words ask for no log
abbrev pub IsUnlogged : List (List ℕ) → Type 0
IsUnlogged words = (device port : List ℕ) (behind : List (List ℕ))
    → words ≢ codes "--log" ∷ device ∷ port ∷ behind

-- the first words ask for a log of a device and a port of these names, or for none
abbrev pub AskLog : Bool → List (List ℕ) → List (List ℕ) → Type 0
AskLog true words rest = (device : List ℕ) × (port : List ℕ)
    × (words ≡ codes "--log" ∷ device ∷ port ∷ rest)
AskLog false words rest = (rest ≡ words) × IsUnlogged words

-- Some text was written, or a front of it if a write failed. There is none unless the words ask
-- for a log.
pub record SaysLog (words : List (List ℕ)) (said : Option (List ℕ)) (faults : ℕ)
    (said_after : Option (List ℕ)) (faults_after : ℕ) (failed : Bool) : Type 0 where
  pub log : List ℕ
  pub none : IsUnlogged words → log ≡ []
  pub says : WritesUnless false said faults failed said_after faults_after log

-- all of a text was written, or a write failed
abbrev pub KeepsAll : Bool → Option (List ℕ) → Option (List ℕ) → List ℕ → Type 0
KeepsAll false written written_after text = Appends written written_after text
KeepsAll true written written_after text = ⊤
