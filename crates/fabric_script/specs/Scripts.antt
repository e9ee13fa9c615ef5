-- Which bytes spell a script, which are refused, and which scripts pass.
use Rattle.std.specs.Prelude.{◌≡◌, ℕ, ◌+◌, Bool, true, false, ◌==◌, suc, List, [], ◌∷◌, ◌++◌, length, MatchBool}
use Rattle.std.specs.List.{slice_split}
use Rattle.fabric_script.specs.declared.reasons.Reason.{Reason}
use Rattle.fabric_script.specs.declared.lines.Line.{Line}
use Rattle.fabric_script.specs.declared.lines.Numbered.{Numbered}
use Rattle.fabric_script.specs.Lines.{new_name}
use Rattle.fabric_script.specs.declared.known.Mode.{Mode}
use Rattle.fabric_script.specs.Known.{Known, nothing_in, known_after}
use Rattle.fabric_script.specs.Reasons.{reason_number}
use Rattle.fabric_script.specs.Reading.{new_name_in, MayBe, IsFree, Spells, LeastHit}

-- the lines of a text; an empty last one, after a final line feed, is skipped as any empty line
abbrev pub pieces_of : List ℕ → List (List ℕ)
pieces_of bytes = slice_split (λ byte. byte == 10) bytes

-- The text is of these whole lines: each ends with its line feed, so that what comes behind the
-- text begins a line of its own.
abbrev pub AreWholeLines : List ℕ → List (List ℕ) → Type 0
AreWholeLines text lines = (more : List ℕ) → pieces_of (text ++ more) ≡ lines ++ pieces_of more

-- an empty line and a comment are counted and not kept
abbrev pub is_skipped : List ℕ → Bool
is_skipped [] = true
is_skipped (byte ∷ bytes) = byte == 35

-- What one piece that is kept spells, with those behind it.
abbrev pub KeptThen : (Known → List Numbered → Type 0) → ℕ → Known → List ℕ → List Numbered → Type 0
KeptThen Behind number known text lines = (line : Line) × (rest : List Numbered)
    × (lines ≡ record { number = number; line = line } ∷ rest) × Spells known text line
    × Behind (known_after known (new_name_in text line) line) rest

-- The pieces, of which the first has this number, spell these lines after what is known, and so
-- much is known at the end.
abbrev pub SpellsFrom : ℕ → Known → List (List ℕ) → List Numbered → Known → Type 0
SpellsFrom number known [] lines end = (lines ≡ []) × (end ≡ known)
SpellsFrom number known (text ∷ texts) lines end = MatchBool (is_skipped text)
    (SpellsFrom (suc number) known texts lines end)
    (KeptThen (λ next rest. SpellsFrom (suc number) next texts rest end) number known text lines)

-- A line more is kept, with this number: the text spells it after what is known, and then this is
-- known.
pub record KeepsLine (known : Known) (lines : List Numbered) (number : ℕ) (text : List ℕ)
    (after : Known) (more : List Numbered) : Type 0 where
  pub line : Line
  pub spells : Spells known text line
  pub kept : more ≡ lines ++ record { number = number; line = line } ∷ []
  pub then : after ≡ known_after known (new_name_in text line) line

-- the bytes spell these names and lines, if such lines may stand
abbrev pub IsScriptIn : Mode → List ℕ → List (List ℕ) → List Numbered → Type 0
IsScriptIn mode bytes names lines =
    (end : Known) × (end.names ≡ names) × SpellsFrom 1 (nothing_in mode) (pieces_of bytes) lines end

-- the bytes spell a script of these names and lines
abbrev pub IsScript : List ℕ → List (List ℕ) → List Numbered → Type 0
IsScript bytes names lines = IsScriptIn Mode.Script bytes names lines

-- The bytes are refused: this line, counted from 1, is the first that any reason hits, and this is
-- the number of the least that hits it.
pub record RefusedIn (mode : Mode) (bytes : List ℕ) (line number : ℕ) : Type 0 where
  pub before : List (List ℕ)
  pub text : List ℕ
  pub behind : List (List ℕ)
  pub lines : List Numbered
  pub known : Known
  pub reason : Reason
  pub split : pieces_of bytes ≡ before ++ text ∷ behind
  pub spelled : SpellsFrom 1 (nothing_in mode) before lines known
  pub kept : is_skipped text ≡ false
  pub place : line ≡ length before + 1
  pub named : number ≡ reason_number reason
  pub least : LeastHit known text reason

-- the bytes are refused as a script
abbrev pub RefusedAt : List ℕ → ℕ → ℕ → Type 0
RefusedAt bytes line number = RefusedIn Mode.Script bytes line number

-- each line may be said and no reason hits it, and the names at the end are these
abbrev pub PassesFrom : Known → List (List ℕ) → List Numbered → Type 0
PassesFrom known names [] = known.names ≡ names
PassesFrom known names (line ∷ lines) =
    MayBe known (new_name names line.line) line.line × IsFree known line.line
    × PassesFrom (known_after known (new_name names line.line) line.line) names lines

-- The names are those of the lines of the nodes, in their order, and no reason hits one of the
-- lines, if such lines may stand.
abbrev pub PassesIn : Mode → List (List ℕ) → List Numbered → Type 0
PassesIn mode names lines = PassesFrom (nothing_in mode) names lines

-- A script passes: its names are those of the lines of its nodes, in their order, and no reason
-- hits one of its lines.
abbrev pub ScriptPasses : List (List ℕ) → List Numbered → Type 0
ScriptPasses names lines = PassesIn Mode.Script names lines

-- the same lines, numbered anew from this number on
abbrev pub renumbered : ℕ → List Numbered → List Numbered
renumbered number [] = []
renumbered number (line ∷ lines) =
    record { number = number; line = line.line } ∷ renumbered (suc number) lines
