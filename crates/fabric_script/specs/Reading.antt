-- What a line of text says, and which reasons hit it.
use Rattle.std.specs.Prelude.{◌≡◌, ℕ, ◌≤◌, false, true, List, [], ◌∷◌, length, Result, MatchResult}
use Rattle.fabric_script.specs.declared.forms.Form.{Form}
use Rattle.fabric_script.specs.declared.reasons.Reason.{Reason}
use Rattle.fabric_script.specs.declared.reasons.Reason.TheVariants.{UnknownLine}
use Rattle.fabric_script.specs.declared.lines.Line.{Line}
use Rattle.fabric_script.specs.declared.lines.Line.TheVariants.{Endpoint, Switch}
use Rattle.fabric_script.specs.Forms.{keyword_of, fields_of}
use Rattle.fabric_script.specs.Lines.{form_of, values_of, line_words, words_of}
use Rattle.fabric_script.specs.Known.{Known}
use Rattle.fabric_script.specs.Hits.{FitAll, HitsOne}
use Rattle.fabric_script.specs.Words.{first_word}
use Rattle.fabric_script.specs.LineWords.{NodeIsNext}
use Rattle.fabric_script.specs.Reasons.{reason_number}
use Rattle.fabric_script.specs.Refusals.{refuses}

abbrev pub second_word : List (List ℕ) → List ℕ
second_word [] = []
second_word (word ∷ words) = first_word words

-- the name of the node that a line of text makes: its second word
abbrev pub new_name_in : List ℕ → Line → List ℕ
new_name_in text (Endpoint name id) = second_word (words_of text)
new_name_in text (Switch name ports) = second_word (words_of text)
new_name_in text _ = []

-- the text has the keyword of a form, and as many words behind it
pub record HasForm (form : Form) (text : List ℕ) : Type 0 where
  pub rest : List (List ℕ)
  pub words : words_of text ≡ keyword_of form ∷ rest
  pub count : length rest ≡ length (fields_of form)

-- A line may be said of which a new node has this name: so may each of its words, and the node has
-- the next number.
pub record MayBe (known : Known) (new : List ℕ) (line : Line) : Type 0 where
  pub fit : FitAll known (fields_of (form_of line)) (values_of new line)
  pub next : NodeIsNext known line

-- the text says a line: it has the words of the line, and the line may be said
pub record Says (known : Known) (text : List ℕ) (line : Line) : Type 0 where
  pub words : words_of text ≡ line_words known.names (new_name_in text line) line
  pub may : MayBe known (new_name_in text line) line

-- A reason hits a text: 1, it has no form; or the reason hits one of its words; or it says a line
-- that the reason hits. A reason that looks at the whole line is asked only where each word says
-- something: else a lesser one hits a word, since no form has both an entry, a pair of ports or an
-- ID, which 6 to 8 look at, and a word that 9 could hit.
pub data HitsText (known : Known) (text : List ℕ) : Reason → Type 0 where
  NoForm : ((form : Form) → HasForm form text → ⊥) → HitsText known text UnknownLine
  AWord : {reason : Reason} (form : Form) (has : HasForm form text)
      → HitsOne known reason (fields_of form) has.rest → HitsText known text reason
  TheLine : {reason : Reason} (line : Line) → Says known text line
      → refuses known reason line ≡ true → HitsText known text reason

-- no reason looks at the whole line and hits it
abbrev pub IsFree : Known → Line → Type 0
IsFree known line = (reason : Reason) → refuses known reason line ≡ false

-- the text is this line, which no reason hits
pub record Spells (known : Known) (text : List ℕ) (line : Line) : Type 0 where
  pub says : Says known text line
  pub free : IsFree known line

-- the reason is the least that hits the text
pub record LeastHit (known : Known) (text : List ℕ) (reason : Reason) : Type 0 where
  pub hits : HitsText known text reason
  pub least : (other : Reason) → HitsText known text other
      → reason_number reason ≤ reason_number other

-- what a text was read as: its line, or why it is refused
abbrev pub ReadsText : Known → List ℕ → Result Line Reason → Type 0
ReadsText known text read =
    MatchResult read (λ line. Spells known text line) (λ reason. LeastHit known text reason)
