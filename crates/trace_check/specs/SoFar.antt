-- Which front of a trace is lawful so far, and what is kept of it.
use Rattle.std.specs.Prelude.{◌≡◌, ℕ, ◌≤◌, Bool, true, false, codes, List, [], ◌∷◌, ◌++◌, length}
use Rattle.fabric_script.specs.Known.{Known}
use Rattle.fabric_model.specs.Network.{Network}
use Rattle.trace_lines.specs.Lines.{TraceLine, steps_of}
use Rattle.trace_lines.specs.Words.{SpellsLine}
use Rattle.trace_check.specs.declared.state.State.{State}
use Rattle.trace_check.specs.Checks.{LinePasses}
use Rattle.trace_check.specs.Lawful.{as_behind, is_last, PassFront, SpellFront}
use Rattle.trace_check.specs.Reaches.{Reaches}
use Rattle.trace_check.specs.States.{IsReachedState, ReachedState}

-- The texts spell these lines, the last of which alone ends the trace, and no reason hits any, with
-- others behind them.
pub record TraceHasEnded (known : Known) (net : Network) (texts : List (List ℕ))
    (lines : List TraceLine) (rest : List (List ℕ)) : Type 0 where
  pub before : List (List ℕ)
  pub text : List ℕ
  pub earlier : List TraceLine
  pub line : TraceLine
  pub texts_are : texts ≡ before ++ text ∷ []
  pub lines_are : lines ≡ earlier ++ line ∷ []
  pub front : SpellFront known before earlier
  pub spelled : SpellsLine known text line
  pub last : is_last line ≡ true
  pub pass : PassFront net earlier (text ∷ rest)
  pub passes : LinePasses net earlier line (as_behind rest)

-- or the trace goes on
abbrev pub HasRead : Known → Network → Bool → List (List ℕ) → List TraceLine → List (List ℕ)
    → Type 0
HasRead known net true texts lines rest = TraceHasEnded known net texts lines rest
HasRead known net false texts lines rest = SpellFront known texts lines × PassFront net lines rest

-- Texts are lawful so far: they spell lines that no reason hits, of which the last alone may end
-- the trace. An edit at their end is not judged, since the next line may say that its wire is too
-- short; so that line is taken to stand behind them.
pub record IsLawfulSoFar (known : Known) (net : Network) (texts : List (List ℕ)) : Type 0 where
  pub ended : Bool
  pub lines : List TraceLine
  pub read : HasRead known net ended texts lines (codes "short" ∷ [])

-- The texts are lawful so far, with others behind them, and so much is kept of them: whether they
-- end the trace, how many steps they have, and what they reach.
pub record AreRead (known : Known) (net : Network) (texts rest : List (List ℕ)) (ended : Bool)
    (steps : ℕ) (state : State) : Type 0 where
  pub lines : List TraceLine
  pub read : HasRead known net ended texts lines rest
  pub count : steps ≡ length (steps_of lines)
  pub few : steps ≤ length texts
  pub r : ReachedState
  pub reached : IsReachedState r state
  pub behind : Reaches (length known.names) net lines (as_behind rest) r
