-- What a line of text says, and which reasons hit it.
use Rattle.std.specs.Prelude.{◌≡◌, ℕ, ◌+◌, ◌*◌, ◌<◌, ◌≤◌, Bool, true, false, ◌||◌, max, not, List, ◌∷◌, length, Result, MatchResult}
use Rattle.fabric_script.specs.declared.reasons.Reason.TheVariants.{UnknownLine, TooMuchWork}
use Rattle.fabric_script.specs.Known.{Known}
use Rattle.fabric_script.specs.Lines.{words_of}
use Rattle.io_script.specs.declared.forms.IoForm.{IoForm}
use Rattle.io_script.specs.declared.forms.IoForm.TheVariants.{Memory, Round}
use Rattle.io_script.specs.declared.lines.IoLine.{IoLine}
use Rattle.io_script.specs.declared.reasons.IoReason.{IoReason}
use Rattle.io_script.specs.declared.reasons.IoReason.TheVariants.{OfScript, LateMemory}
use Rattle.io_script.specs.IoForms.{io_fields_of, io_keyword_of}
use Rattle.io_script.specs.IoLines.{io_form_of, io_line_words, io_values_of}
use Rattle.io_script.specs.IoReasons.{io_reason_number}
use Rattle.io_script.specs.IoWords.{FitIoAll, HitsIoOne}

-- What the lines before cost, and whether one of them asked for something or was a round.
pub record Earlier : Type 0 where
  pub cost : ℕ
  pub begun : Bool

-- before the first line
abbrev pub nothing_earlier : Earlier
nothing_earlier = record { cost = 0; begun = false }

-- what a line costs in a fabric of so many links: a round 20 for each, and at least 20; any other 1
abbrev pub io_cost_of : ℕ → IoForm → ℕ
io_cost_of links Round = 20 * max 1 links
io_cost_of links _ = 1

-- whether the line only gives memory
abbrev pub gives_memory : IoForm → Bool
gives_memory Memory = true
gives_memory _ = false

-- the lines before, with one more of this form
abbrev pub earlier_with : ℕ → Earlier → IoForm → Earlier
earlier_with links earlier form = record {
  cost = earlier.cost + io_cost_of links form;
  begun = earlier.begun || not (gives_memory form);
}

-- the text has the keyword of a form, and as many words behind it
pub record HasIoForm (form : IoForm) (text : List ℕ) : Type 0 where
  pub rest : List (List ℕ)
  pub words : words_of text ≡ io_keyword_of form ∷ rest
  pub count : length rest ≡ length (io_fields_of form)

-- A reason hits a text: 1, it has no form; or the reason hits one of its words; 14, the cost up to
-- and with it is above 100,000; or 18, it gives memory behind a line that does not.
pub data HitsIo (known : Known) (earlier : Earlier) (text : List ℕ) : IoReason → Type 0 where
  NoIoForm : ((form : IoForm) → HasIoForm form text → ⊥)
      → HitsIo known earlier text (OfScript UnknownLine)
  AnIoWord : {reason : IoReason} (form : IoForm) (has : HasIoForm form text)
      → HitsIoOne known reason (io_fields_of form) has.rest → HitsIo known earlier text reason
  CostsTooMuch : (form : IoForm) → HasIoForm form text
      → 100000 < earlier.cost + io_cost_of (length known.links) form
      → HitsIo known earlier text (OfScript TooMuchWork)
  IsLate : HasIoForm Memory text → earlier.begun ≡ true
      → HitsIo known earlier text LateMemory

-- The text is this line: it has the words of the line, each may be said, and the line may stand
-- behind those before it.
pub record SpellsIo (known : Known) (earlier : Earlier) (text : List ℕ) (line : IoLine) :
    Type 0 where
  pub words : words_of text ≡ io_line_words known.names line
  pub fit : FitIoAll known (io_fields_of (io_form_of line)) (io_values_of line)
  pub cheap : earlier.cost + io_cost_of (length known.links) (io_form_of line) ≤ 100000
  pub early : gives_memory (io_form_of line) ≡ true → earlier.begun ≡ false

-- the reason is the least that hits the text
pub record LeastIoHit (known : Known) (earlier : Earlier) (text : List ℕ) (reason : IoReason) :
    Type 0 where
  pub hits : HitsIo known earlier text reason
  pub least : (other : IoReason) → HitsIo known earlier text other
      → io_reason_number reason ≤ io_reason_number other

-- what a text was read as: its line, or why it is refused
abbrev pub ReadsIo : Known → Earlier → List ℕ → Result IoLine IoReason → Type 0
ReadsIo known earlier text read = MatchResult read (λ line. SpellsIo known earlier text line)
    (λ reason. LeastIoHit known earlier text reason)
