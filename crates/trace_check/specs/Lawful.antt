-- Which texts are lawful traces of a fabric, and where a reason first hits.
use Rattle.std.specs.Prelude.{◌≡◌, ℕ, ◌+◌, ◌<◌, Bool, true, false, nat_eq, codes, List, [], ◌∷◌, ◌++◌, length, if◌then◌else◌}
use Rattle.std.specs.Cmp.Lexicographic.{pointwise}
use Rattle.fabric_script.specs.Known.{Known}
use Rattle.fabric_model.specs.Network.{Network}
use Rattle.trace_lines.specs.Lines.{Short, Lacked, TraceLine, Ended, Undetected, steps_of}
use Rattle.trace_check.specs.Checks.{OnWires, LineIsStep, HoldHasCome, IsAllowed, SendMayBe, net_after, LinePasses, PassAll}
use Rattle.trace_check.specs.Wires.{are_short, wires_after}
use Rattle.trace_lines.specs.Words.{SpellsLine}

-- the last line of a trace
abbrev pub is_last : TraceLine → Bool
is_last Ended = true
is_last (Undetected number q e) = true
is_last _ = false

-- each text spells a line, no line stands behind the last one, and the last one comes
abbrev pub SpellAll : Known → List (List ℕ) → List TraceLine → Type 0
SpellAll known [] lines = ⊥
SpellAll known (text ∷ []) lines =
    (line : TraceLine) × (lines ≡ line ∷ []) × SpellsLine known text line × (is_last line ≡ true)
SpellAll known (text ∷ next ∷ texts) lines = (line : TraceLine) × (rest : List TraceLine)
    × (lines ≡ line ∷ rest) × SpellsLine known text line × (is_last line ≡ false)
    × SpellAll known (next ∷ texts) rest

-- The texts are a lawful trace of so many steps.
pub record IsLawful (known : Known) (net : Network) (texts : List (List ℕ)) (steps : ℕ) : Type 0
  where
    pub lines : List TraceLine
    pub spelled : SpellAll known texts lines
    pub pass : PassAll net lines
    pub count : steps ≡ length (steps_of lines)

-- ---- the first line that a reason hits

-- the texts spell these lines, none of which is the last
abbrev pub SpellFront : Known → List (List ℕ) → List TraceLine → Type 0
SpellFront known [] lines = lines ≡ []
SpellFront known (text ∷ texts) lines = (line : TraceLine) × (rest : List TraceLine)
    × (lines ≡ line ∷ rest) × SpellsLine known text line × (is_last line ≡ false)
    × SpellFront known texts rest

-- why a line is not lawful, apart from its form
pub data Fault : Type 0 where
  OffWire : Fault
  NoSuchStep : Fault
  NotCome : Fault
  NotAllowed : Fault
  NotThere : Fault

abbrev pub fault_number : Fault → ℕ
fault_number OffWire = 22
fault_number NoSuchStep = 23
fault_number NotCome = 24
fault_number NotAllowed = 25
fault_number NotThere = 26

-- it does not hit the line
abbrev pub Spares : Network → List TraceLine → TraceLine → List TraceLine → Fault → Type 0
Spares net before line behind OffWire = OnWires net.links
    (wires_after net.links (λ p. []) before (line ∷ behind)) line (are_short behind)
Spares net before line behind NoSuchStep = LineIsStep (net_after net before) line
Spares net before line behind NotCome = HoldHasCome before line
Spares net before line behind NotAllowed = IsAllowed before line
Spares net before line behind NotThere = SendMayBe (net_after net before) line

-- a text as the line behind others: what matters is whether it says that a wire is too short
abbrev pub as_behind : List (List ℕ) → List TraceLine
as_behind [] = []
as_behind (text ∷ texts) = if pointwise nat_eq text (codes "short") then Lacked Short ∷ [] else []

-- none of the lines is hit, with this text behind them
abbrev pub PassFront : Network → List TraceLine → List (List ℕ) → Type 0
PassFront net lines texts = (before : List TraceLine) (line : TraceLine) (behind : List TraceLine)
    → lines ≡ before ++ line ∷ behind → LinePasses net before line (behind ++ as_behind texts)

-- 21: the text spells no line, or there is none
abbrev pub NoLine : Known → List (List ℕ) → Type 0
NoLine known [] = Unit {0}
NoLine known (text ∷ texts) = (line : TraceLine) → SpellsLine known text line → ⊥

-- No line is spelled; or the last line is, and more stands behind it, so that 21 hits the next; or
-- the least fault of a line that is spelled.
pub data HitsNext (known : Known) (net : Network) (before : List TraceLine) :
    List (List ℕ) → (place reason : ℕ) → Type 0 where
  SpellsNone : {texts : List (List ℕ)} → NoLine known texts → HitsNext known net before texts 0 21
  BehindLast : {text next : List ℕ} {texts : List (List ℕ)} (line : TraceLine)
      → SpellsLine known text line → is_last line ≡ true
      → LinePasses net before line (as_behind (next ∷ texts))
      → HitsNext known net before (text ∷ next ∷ texts) 1 21
  HitsLine : {text : List ℕ} {texts : List (List ℕ)} (line : TraceLine) (fault : Fault)
      → SpellsLine known text line
      → (Spares net before line (as_behind texts) fault → ⊥)
      → ((other : Fault) → fault_number other < fault_number fault
      → Spares net before line (as_behind texts) other)
      → HitsNext known net before (text ∷ texts) 0 (fault_number fault)

-- The first text that a reason hits, counted from 0, and its least reason.
pub record IsUnlawful (known : Known) (net : Network) (texts : List (List ℕ)) (line reason : ℕ) :
    Type 0 where
  pub front : List (List ℕ)
  pub rest : List (List ℕ)
  pub lines : List TraceLine
  pub place : ℕ
  pub split : texts ≡ front ++ rest
  pub spelled : SpellFront known front lines
  pub pass : PassFront net lines rest
  pub hits : HitsNext known net lines rest place reason
  pub at : line ≡ length front + place
