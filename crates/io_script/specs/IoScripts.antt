-- Which bytes spell a script of reads and writes, and which are refused.
use Rattle.std.specs.Prelude.{◌≡◌, ◌⊎◌, ℕ, ◌+◌, List, [], ◌∷◌, length, MatchBool}
use Rattle.fabric_script.specs.declared.lines.Numbered.{Numbered}
use Rattle.fabric_script.specs.Known.{Known}
use Rattle.fabric_script.specs.Scripts.{is_skipped}
use Rattle.script_input.specs.Inputs.{IsInput, IsRefusedInput, set_up_texts, texts_of}
use Rattle.io_script.specs.declared.lines.IoLine.{IoLine}
use Rattle.io_script.specs.declared.lines.NumberedIo.{NumberedIo}
use Rattle.io_script.specs.declared.reasons.IoReason.{IoReason}
use Rattle.io_script.specs.IoLines.{io_form_of}
use Rattle.io_script.specs.IoReading.{Earlier, earlier_with, LeastIoHit, nothing_earlier, SpellsIo}
use Rattle.io_script.specs.IoReasons.{io_reason_number}

-- A text that is kept spells the first of these lines, and those behind it spell the others.
abbrev pub KeptIoThen : (Earlier → List NumberedIo → Type 0) → ℕ → Known → Earlier → List ℕ
    → List NumberedIo → Type 0
KeptIoThen Behind number known earlier text lines = (io : IoLine) × (rest : List NumberedIo)
    × (lines ≡ record { line = number; io = io } ∷ rest) × SpellsIo known earlier text io
    × Behind (earlier_with (length known.links) earlier (io_form_of io)) rest

-- The texts, of which the first has this number, spell these lines behind the earlier ones. Those
-- that are skipped are counted.
abbrev pub SpellIoFrom : ℕ → Known → Earlier → List (List ℕ) → List NumberedIo → Type 0
SpellIoFrom number known earlier [] lines = lines ≡ []
SpellIoFrom number known earlier (text ∷ texts) lines = MatchBool (is_skipped text)
    (SpellIoFrom (number + 1) known earlier texts lines)
    (KeptIoThen (λ next rest. SpellIoFrom (number + 1) known next texts rest) number known earlier
    text lines)

-- the text is the one that is hit, or it spells a line and one behind it is hit
abbrev pub KeptIsHit : (Earlier → Type 0) → ℕ → Known → Earlier → List ℕ → ℕ → ℕ → Type 0
KeptIsHit Behind number known earlier text line reason =
    ((line ≡ number) × ((hit : IoReason) × LeastIoHit known earlier text hit
    × (reason ≡ io_reason_number hit)))
    ⊎ ((io : IoLine) × SpellsIo known earlier text io
    × Behind (earlier_with (length known.links) earlier (io_form_of io)))

-- Of the texts, of which the first has this number, the one with the number `line` is the first
-- that any reason hits, and this is the number of the least that hits it.
abbrev pub AreHitFrom : ℕ → Known → Earlier → List (List ℕ) → ℕ → ℕ → Type 0
AreHitFrom number known earlier [] line reason = ⊥
AreHitFrom number known earlier (text ∷ texts) line reason = MatchBool (is_skipped text)
    (AreHitFrom (number + 1) known earlier texts line reason)
    (KeptIsHit (λ next. AreHitFrom (number + 1) known next texts line reason) number known earlier
    text line reason)

-- the number of the first line behind the line between, counted from 1 among all
abbrev pub first_behind : List ℕ → ℕ
first_behind bytes = length (set_up_texts (texts_of bytes)) + 2

-- The bytes are set-up lines that no reason hits, with these names, a line `---`, and behind it
-- texts that spell these lines.
pub record IsIoScript (bytes : List ℕ) (names : List (List ℕ)) (set_up : List Numbered)
    (lines : List NumberedIo) : Type 0 where
  pub known : Known
  pub texts : List (List ℕ)
  pub input : IsInput bytes set_up known texts
  pub named : known.names ≡ names
  pub spelled : SpellIoFrom (first_behind bytes) known nothing_earlier texts lines

-- The bytes are refused at this line, with the number of this reason: the set-up lines are, or
-- there is no line `---`; or else a text behind it is the first that a reason hits.
pub data IsIoRefused (bytes : List ℕ) (line reason : ℕ) : Type 0 where
  InSetUp : IsRefusedInput bytes line reason → IsIoRefused bytes line reason
  Behind : {set_up : List Numbered} {known : Known} {texts : List (List ℕ)}
      → IsInput bytes set_up known texts
      → AreHitFrom (first_behind bytes) known nothing_earlier texts line reason
      → IsIoRefused bytes line reason
