-- The words of a line, taken from the left.
use Rattle.std.specs.Prelude.{◌≡◌, ◌≢◌, ℕ, ◌≤◌, nat_le, List, [], ◌∷◌, Option, Some, None, Result, Ok, Err, MatchResult, ◌⊎◌, if◌then◌else◌}
use Rattle.std.specs.Fmt.{decimal}
use denote.Ref.{Bor}
use Rattle.fabric_script.specs.declared.reasons.Reason.{Reason}
use Rattle.fabric_script.specs.declared.reasons.Reason.TheVariants.{UnknownLine, BadNumber}
use Rattle.fabric_script.specs.Forms.{Field}
use Rattle.fabric_script.specs.Texts.{Value, value_text}
use Rattle.fabric_script.specs.Lines.{words_of}
use Rattle.fabric_script.specs.Known.{Known}
use Rattle.fabric_script.specs.Reasons.{reason_number}
use Rattle.fabric_script.specs.Hits.{FitsField, Hits}

-- the words that are left, and the least reason that has hit one so far
pub record Left : Type 0 where
  pub words : List (List ℕ)
  pub hit : Option Reason

-- the words of what is left of a text
abbrev pub words_left : Option (Bor (List ℕ)) → List (List ℕ)
words_left None = []
words_left (Some text) = words_of text.now

-- the lesser of the reason so far and one more
abbrev pub with_reason : Option Reason → Reason → Option Reason
with_reason None reason = Some reason
with_reason (Some before) reason =
    if nat_le (reason_number before) (reason_number reason) then Some before else Some reason

abbrev pub noted_by : {T : Type 0} → Option Reason → Result T Reason → Option Reason
noted_by hit (Ok value) = hit
noted_by hit (Err reason) = with_reason hit reason

abbrev pub ok_of : {T : Type 0} → Result T Reason → Option T
ok_of (Ok value) = Some value
ok_of (Err reason) = None

-- the reason at the end of a line, where no word may be left
abbrev pub reason_at_end : Left → Option Reason
reason_at_end left = end_by left.words left.hit
  where
    end_by : List (List ℕ) → Option Reason → Option Reason
    end_by [] hit = hit
    end_by (word ∷ words) hit = Some UnknownLine

-- the next word, or an empty one where none is left
abbrev pub first_word : List (List ℕ) → List ℕ
first_word [] = []
first_word (word ∷ words) = word

-- what is left behind it; where there is none, the line is unknown
abbrev pub after_word : Left → Left
after_word left = after_by left.words left.hit
  where
    after_by : List (List ℕ) → Option Reason → Left
    after_by [] hit = record { words = []; hit = Some UnknownLine }
    after_by (word ∷ words) hit = record { words = words; hit = hit }

-- A word is taken as this value of its kind, or the reason that hits it is noted.
abbrev pub TakesWord : Known → Field → Value → List ℕ → Option Reason → Option Reason → Type 0
TakesWord known field value word hit hit_after =
    (FitsField known field value × (word ≡ value_text known.names value) × (hit_after ≡ hit))
    ⊎ ((reason : Reason) × Hits known reason field word × (hit_after ≡ with_reason hit reason))

-- the same of the first word that is left; where none is, the line is unknown
abbrev pub TakesFirst : Known → Field → Value → List (List ℕ) → Option Reason → List (List ℕ)
    → Option Reason → Type 0
TakesFirst known field value [] hit words_after hit_after =
    (words_after ≡ []) × (hit_after ≡ Some UnknownLine)
TakesFirst known field value (word ∷ words) hit words_after hit_after =
    (words_after ≡ words) × TakesWord known field value word hit hit_after

pub record Takes (known : Known) (field : Field) (value : Value) (left left_after : Left) :
    Type 0 where
  pub first : TakesFirst known field value left.words left.hit left_after.words left_after.hit

-- words are taken, one after another, as values of these kinds
pub data TakesAll (known : Known) : List Field → List Value → Left → Left → Type 0 where
  NoMore : {left : Left} → TakesAll known [] [] left left
  More : {field : Field} {fields : List Field} {value : Value} {values : List Value}
      {left next last : Left} → Takes known field value left next
      → TakesAll known fields values next last
      → TakesAll known (field ∷ fields) (value ∷ values) left last

-- a word was read as one of a kind: what it says, or the reason that hits it
abbrev pub ReadsValue : Known → Field → List ℕ → Result Value Reason → Type 0
ReadsValue known field word read = MatchResult read
    (λ value. FitsField known field value × (word ≡ value_text known.names value))
    (λ reason. Hits known reason field word)

-- a word was read as a number of a range, or is none
abbrev pub ReadsNumber : List ℕ → ℕ → ℕ → Result ℕ Reason → Type 0
ReadsNumber word least most read = MatchResult read
    (λ n. (least ≤ n) × (n ≤ most) × (word ≡ decimal n))
    (λ reason. (reason ≡ BadNumber) × ((n : ℕ) → least ≤ n → n ≤ most → word ≢ decimal n))
