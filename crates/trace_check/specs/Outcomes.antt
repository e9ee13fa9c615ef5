-- What is told of an input: how many steps its trace has, or where it is not lawful.
use Rattle.std.specs.Prelude.{◌≡◌, ◌⊎◌, ℕ, ◌+◌, Bool, true, false, List, [], ◌∷◌, length, Option, Some, None}
use Rattle.fabric_script.specs.declared.lines.Numbered.{Numbered}
use Rattle.fabric_script.specs.declared.scripts.ScriptEnd.{ScriptEnd}
use Rattle.fabric_script.specs.declared.scripts.ScriptEnd.TheVariants as S
use Rattle.fabric_script.specs.Known.{Known}
use Rattle.trace_lines.specs.Lines.{TraceLine, steps_of}
use Rattle.fabric_trace.specs.Runs.{bare, set_up_all}
use Rattle.trace_check.specs.declared.checking.CheckEnd.{CheckEnd}
use Rattle.trace_check.specs.declared.checking.CheckEnd.TheVariants as C
use Rattle.trace_check.specs.declared.state.Fault.{Fault as ReadFault}
use Rattle.trace_check.specs.declared.state.State.{State}
use Rattle.script_input.specs.Inputs.{IsInput, set_up_texts, texts_of}
use Rattle.trace_check.specs.Lawful.{fault_number, is_last, IsLawful, IsUnlawful, NoLine}
use Rattle.trace_check.specs.States.{Checks, fault_of, IsLeast, ReachedState, SparesAt}
use Rattle.trace_lines.specs.Words.{SpellsLine}

-- ---- of the whole input

-- The bytes are set-up lines, and behind them a lawful trace of so many steps of the network that
-- those make.
pub record HasLawful (bytes : List ℕ) (steps : ℕ) : Type 0 where
  pub set_up : List Numbered
  pub known : Known
  pub texts : List (List ℕ)
  pub input : IsInput bytes set_up known texts
  pub lawful : IsLawful known (set_up_all bare set_up) texts steps

-- The bytes are set-up lines, and of the lines of the trace behind them this one, counted from 1
-- among all, is the first that a reason hits, and this is the least reason that hits it.
pub record HasUnlawful (bytes : List ℕ) (line reason : ℕ) : Type 0 where
  pub set_up : List Numbered
  pub known : Known
  pub texts : List (List ℕ)
  pub input : IsInput bytes set_up known texts
  pub place : ℕ
  pub at : line ≡ length (set_up_texts (texts_of bytes)) + 2 + place
  pub unlawful : IsUnlawful known (set_up_all bare set_up) texts place reason

-- why there is no trace, if the set-up lines end so
abbrev pub check_end_of : ScriptEnd → CheckEnd
check_end_of (S.Refused refusal) = C.Refused refusal
check_end_of S.NoMemory = C.NoMemory

-- ---- of one text

-- The text spells a line that no reason hits, which may end the trace and may be a step, and this
-- is reached behind it.
pub record ReadsOn (known : Known) (r : ReachedState) (text : List ℕ) (short : Bool) (steps : ℕ)
    (ends : Bool) (more : ℕ) (state : State) : Type 0 where
  pub line : TraceLine
  pub spelled : SpellsLine known text line
  pub ends_is : ends ≡ is_last line
  pub more_is : more ≡ steps + length (steps_of (line ∷ []))
  pub checked : Checks r line short state None

-- the text spells a line that this fault hits, and none that is less
pub record IsHit (known : Known) (r : ReachedState) (text : List ℕ) (short : Bool) (reason : ℕ) :
    Type 0 where
  pub line : TraceLine
  pub spelled : SpellsLine known text line
  pub fault : ReadFault
  pub number : reason ≡ fault_number (fault_of fault)
  pub least : IsLeast (SparesAt r line short) (Some fault)

-- this is the least reason that hits the text, behind others that may have ended the trace
abbrev pub HitsNextText : Known → ReachedState → List ℕ → Bool → Bool → ℕ → Type 0
HitsNextText known r text short true reason = reason ≡ 21
HitsNextText known r text short false reason =
    ((reason ≡ 21) × NoLine known (text ∷ [])) ⊎ IsHit known r text short reason

-- One text is read, behind others that may have ended the trace.
abbrev pub ReadsNextText : Known → ReachedState → List ℕ → Bool → Bool → ℕ → Bool → ℕ → State
    → Option ℕ
    → Type 0
ReadsNextText known r text short ended steps ends more state None =
    (ended ≡ false) × ReadsOn known r text short steps ends more state
ReadsNextText known r text short ended steps ends more state (Some reason) =
    HitsNextText known r text short ended reason
