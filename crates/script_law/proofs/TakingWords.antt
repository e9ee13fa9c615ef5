-- The words of a line are taken as some values of their kinds, or the reasons that hit them are
-- noted.
use Rattle.std.proofs.Common.{ℕ, List, [], ◌∷◌, Option, Some, refl, inl, inr}
use Rattle.fabric_script.specs.declared.reasons.Reason.{Reason}
use Rattle.fabric_script.specs.declared.reasons.Reason.TheVariants.{UnknownLine}
use Rattle.fabric_script.specs.declared.fields.Field.{Field}
use Rattle.fabric_script.specs.declared.fields.Field.TheVariants.{NewName, Node, Port, Number, Hex, Digits, Character}
use Rattle.fabric_script.specs.declared.values.Value.{Value}
use Rattle.fabric_script.specs.declared.values.Value.TheVariants.{Named, Node as NodeValue, Port as PortValue, Counted, Bytes, InDigits, Code}
use Rattle.fabric_script.specs.Known.{Known}
use Rattle.fabric_script.specs.Words.{Left, NoMore, More, TakesAll, with_reason, Takes}
use Rattle.script_law.proofs.NumberWords.{SaysOrHit, number_or_hit, digits_or_hit}
use Rattle.script_law.proofs.NodeWords.{new_name_or_hit, node_or_hit}
use Rattle.script_law.proofs.PortWords.{port_or_hit}
use Rattle.script_law.proofs.HexWords.{hex_or_hit, character_or_hit}

-- a word says a value of its kind, or a reason hits it
abbrev ValueOrHit : Known → Field → List ℕ → Type 0
ValueOrHit known field word = SaysOrHit {T = Value} known field (λ value. value) word

as_value : {T : Type 0} (known : Known) (field : Field) (value : T → Value) (word : List ℕ)
    → SaysOrHit known field value word → ValueOrHit known field word
as_value known field value word says = elim says [
  | inl said ↦ inl (value said.0, said.1, said.2)
  | inr bad ↦ inr bad
]

value_or_hit : (known : Known) (field : Field) (word : List ℕ) → ValueOrHit known field word
value_or_hit known NewName word = elim (new_name_or_hit known word) [
  | inl fits ↦ inl (Named word, fits, refl)
  | inr bad ↦ inr bad
]
value_or_hit known Node word =
    as_value known Node (λ n. NodeValue n) word (node_or_hit known word)
value_or_hit known Port word =
    as_value known Port (λ p. PortValue p) word (port_or_hit known word)
value_or_hit known (Number least most) word =
    as_value known (Number least most) (λ n. Counted n) word (number_or_hit known least most word)
value_or_hit known Hex word =
    as_value known Hex (λ bytes. Bytes bytes) word (hex_or_hit known word)
value_or_hit known (Digits count) word =
    as_value known (Digits count) (λ n. InDigits count n) word (digits_or_hit known count word)
value_or_hit known Character word =
    as_value known Character (λ c. Code c) word (character_or_hit known word)

-- the next word is taken as a value of its kind
record Taken (known : Known) (field : Field) (left : Left) : Type 0 where
  is : Value
  next : Left
  takes : Takes known field is left next

-- A word that says no value is taken as a stand-in, and so is one that is not there.
take_word : (known : Known) (field : Field) (left : Left) → Taken known field left
take_word known field left = by_words left.words left.hit
  where
    by_words : (words : List (List ℕ)) (hit : Option Reason)
        → Taken known field record { words = words; hit = hit }
    by_words [] hit = record {
      is = Counted 0;
      next = record { words = []; hit = Some UnknownLine };
      takes = record { first = (refl, refl) };
    }
    by_words (word ∷ words) hit = elim (value_or_hit known field word) [
      | inl said ↦ record {
        is = said.0;
        next = record { words = words; hit = hit };
        takes = record { first = (refl, inl (said.1, said.2, refl)) };
      }
      | inr bad ↦ record {
        is = Counted 0;
        next = record { words = words; hit = with_reason hit bad.0 };
        takes = record { first = (refl, inr (bad.0, bad.1, refl)) };
      }
    ]

-- words are taken as values of these kinds
pub record AllTaken (known : Known) (fields : List Field) (left : Left) : Type 0 where
  pub values : List Value
  pub next : Left
  pub takes : TakesAll known fields values left next

pub take_words : (known : Known) (fields : List Field) (left : Left) → AllTaken known fields left
take_words known [] left = record { values = []; next = left; takes = NoMore }
take_words known (field ∷ fields) left =
    let first = take_word known field left in
    let rest = take_words known fields first.next in
    record {
      values = first.is ∷ rest.values;
      next = rest.next;
      takes = More first.takes rest.takes;
    }
