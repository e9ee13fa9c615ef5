-- Which lines of a trace a checker has taken.
use Rattle.std.specs.Prelude.{◌≡◌, ℕ, ◌+◌, Bool, false, List, [], ◌∷◌, ◌++◌, length, Option, Some, None}
use Rattle.fabric_script.specs.declared.lines.Line.{Line}
use Rattle.fabric_script.specs.Known.{Known, nothing_in, of_set_up}
use Rattle.fabric_script.specs.Scripts.{pieces_of, SpellsFrom}
use Rattle.fabric_script.specs.SetUps.{for_event, SetUpLines}
use Rattle.script_input.specs.Inputs.{set_up_bytes, texts_behind, texts_of}
use Rattle.trace_lines.specs.Lines.{Begun, TraceLine}
use Rattle.trace_lines.specs.Words.{SpellsLine}
use Rattle.trace_check.specs.declared.checker.Checker.{Checker}
use Rattle.trace_check.specs.declared.checking.Unlawful.{Unlawful}
use Rattle.trace_check.specs.declared.reader.Reader.{Reader}
use Rattle.trace_check.specs.Keeping.{LooksAt}
use Rattle.trace_check.specs.Lawful.{IsUnlawful}
use Rattle.trace_check.specs.SoFar.{AreRead}
use Rattle.trace_check.specs.Starting.{net_of}

-- the texts are read, with others behind them
abbrev pub AreReadBy : SetUpLines → Reader → List (List ℕ) → List (List ℕ) → Type 0
AreReadBy set_up reader texts rest =
    AreRead set_up.known (net_of set_up) texts rest reader.ended reader.steps reader.state

-- so they are with this text behind them, whatever may stand behind that
abbrev pub AreReadTo : SetUpLines → Reader → List (List ℕ) → List ℕ → Type 0
AreReadTo set_up reader texts text =
    (rest : List (List ℕ)) → AreReadBy set_up reader texts (text ∷ rest)

-- and a reason hits that text, which is the least that does
abbrev pub IsHitNext : SetUpLines → List (List ℕ) → List ℕ → ℕ → Type 0
IsHitNext set_up texts text reason = (rest : List (List ℕ))
    → IsUnlawful set_up.known (net_of set_up) (texts ++ text ∷ rest) (length texts) reason

-- Of the texts the last spells this event line, which waits for the next one, and those before it
-- are read.
pub record EventWaits (set_up : SetUpLines) (reader : Reader) (texts : List (List ℕ))
    (line : Line) : Type 0 where
  pub front : List (List ℕ)
  pub text : List ℕ
  pub split : texts ≡ front ++ text ∷ []
  pub spelled : SpellsLine set_up.known text (Begun line)
  pub goes : reader.ended ≡ false
  pub read : AreReadTo set_up reader front text

-- all texts are read, whatever may stand behind them, or the last one waits
abbrev pub AreTaken : SetUpLines → Reader → List (List ℕ) → Option Line → Type 0
AreTaken set_up reader texts None = (rest : List (List ℕ)) → AreReadBy set_up reader texts rest
AreTaken set_up reader texts (Some line) = EventWaits set_up reader texts line

-- The checker has taken these texts, of which none is hit by a reason so far.
pub record HasTakenLines (texts : List (List ℕ)) (checker : Checker) : Type 0 where
  pub count : checker.lines ≡ length texts
  pub taken : AreTaken checker.set_up checker.reader texts checker.waiting

-- these set-up lines are spelled, as those of a script are
abbrev pub IsSetUpOf : List ℕ → SetUpLines → Type 0
IsSetUpOf script set_up = (end : Known)
    × SpellsFrom 1 (nothing_in of_set_up) (pieces_of script) set_up.lines end
    × (set_up.known ≡ for_event end)

-- the set-up lines of an input, and the texts behind the line between
pub record ArePartsOf (bytes : List ℕ) (set_up : SetUpLines) (texts : List (List ℕ)) : Type 0 where
  pub made : IsSetUpOf (set_up_bytes bytes) set_up
  pub behind : texts_behind (texts_of bytes) ≡ Some texts

-- of these texts a reason first hits the line that is told, counted from 1, and it is the least
abbrev pub IsHitAt : SetUpLines → List (List ℕ) → Unlawful → Type 0
IsHitAt set_up texts hit = (place : ℕ) × (hit.line ≡ place + 1)
    × IsUnlawful set_up.known (net_of set_up) texts place hit.reason

-- so it is whatever may stand behind them
abbrev pub IsHitIn : SetUpLines → List (List ℕ) → Unlawful → Type 0
IsHitIn set_up texts hit = (rest : List (List ℕ)) → IsHitAt set_up (texts ++ rest) hit

-- One line that a text spells is read behind others, or it is hit: what is said of a
-- wire that is too short is so.
abbrev pub ReadsOne : SetUpLines → Reader → Reader → TraceLine → Bool → Type 0
ReadsOne set_up old new line short = (texts rest : List (List ℕ)) (text : List ℕ)
    → SpellsLine set_up.known text line → LooksAt line short rest
    → AreReadBy set_up old texts (text ∷ rest) → AreReadBy set_up new (texts ++ text ∷ []) rest

abbrev pub LineIsHit : SetUpLines → Reader → TraceLine → Bool → ℕ → Type 0
LineIsHit set_up old line short reason = (texts rest : List (List ℕ)) (text : List ℕ)
    → SpellsLine set_up.known text line → LooksAt line short rest
    → AreReadBy set_up old texts (text ∷ rest)
    → IsUnlawful set_up.known (net_of set_up) (texts ++ text ∷ rest) (length texts) reason
