-- Each line of the right number of words is taken word after word.
use Rattle.std.proofs.Common.{◌≡◌, ℕ, Bool, true, false, List, [], ◌∷◌, length, Option, refl, inl, inr, arith}
use Rattle.fabric_script.specs.Hits.{FitsField}
use Rattle.fabric_script.specs.Known.{Known}
use Rattle.fabric_script.specs.declared.values.Value.{Value}
use Rattle.fabric_script.specs.declared.values.Value.TheVariants.{Node as NodeValue, Counted, Bytes, InDigits}
use Rattle.fabric_script.specs.Texts.{value_text}
use Rattle.script_law.proofs.NumberWords.{SaysOrHit, number_or_hit, digits_or_hit}
use Rattle.script_law.proofs.NodeWords.{node_or_hit}
use Rattle.script_law.proofs.HexWords.{hex_or_hit}
use Rattle.io_script.specs.declared.forms.IoForm.{IoForm}
use Rattle.io_script.specs.declared.forms.IoForm.TheVariants as F
use Rattle.io_script.specs.declared.lines.IoLine.{IoLine}
use Rattle.io_script.specs.declared.lines.IoLine.TheVariants.{Memory, NRead, NWrite, NWriteR, SWrite, Round}
use Rattle.io_script.specs.declared.reasons.IoReason.{IoReason}
use Rattle.io_script.specs.declared.reasons.IoReason.TheVariants.{OfScript}
use Rattle.io_script.specs.IoForms.{IoField, AnEndpoint, DeviceNumber, MemorySize, ReadSize, Address, Data, StreamData, io_fields_of}
use Rattle.io_script.specs.IoLines.{io_form_of, io_values_of}
use Rattle.io_script.specs.IoTaking.{with_io_reason, TakesIo, TakesAllIo, NoMoreIo, MoreIo}
use Rattle.io_script.specs.IoWords.{spelling_of, is_right, wrong_reason, IsMisspelledIo, IsWrong}

-- ---- one word

-- a word is taken as some value of its kind, or the reason that hits it is noted
pub record WordTaken {T : Type 0} (known : Known) (field : IoField) (value : T → Value)
    (word : List ℕ) (hit : Option IoReason) : Type 0 where
  is : T
  next : Option IoReason
  takes : TakesIo known field (value is) word hit next

take : {T : Type 0} (known : Known) (field : IoField) (value : T → Value) (stand_in : T)
    → ((word : List ℕ) → SaysOrHit known (spelling_of field) value word) → (word : List ℕ)
    → (hit : Option IoReason) → WordTaken known field value word hit
take {T} known field value stand_in says word hit = elim (says word) [
  | inl said ↦ right said.0 said.1 said.2 (is_right known field (value said.0)) refl
  | inr bad ↦ record {
    is = stand_in;
    next = with_io_reason hit (OfScript bad.0);
    takes = inr (OfScript bad.0, IsMisspelledIo bad.1, refl);
  }
]
  where
    right : (v : T) → FitsField known (spelling_of field) (value v)
        → word ≡ value_text known.names (value v) → (b : Bool)
        → is_right known field (value v) ≡ b → WordTaken known field value word hit
    right v fits says true is =
        record { is = v; next = hit; takes = inl ((fits, is), says, refl) }
    right v fits says false is = record {
      is = v;
      next = with_io_reason hit (wrong_reason field);
      takes = inr (wrong_reason field, IsWrong (value v) fits says is refl, refl);
    }

-- ---- the words of a line

no_words : (P : List (List ℕ) → Type 0) (words : List (List ℕ)) → length words ≡ 0 → P []
    → P words
no_words P [] count f = f
no_words P (a ∷ rest) count f = absurd (omega (arith, count))

two_words : (P : List (List ℕ) → Type 0) (words : List (List ℕ)) → length words ≡ 2
    → ((a b : List ℕ) → P (a ∷ b ∷ [])) → P words
two_words P [] count f = absurd (omega (arith, count))
two_words P (a ∷ []) count f = absurd (omega (arith, count))
two_words P (a ∷ b ∷ []) count f = f a b
two_words P (a ∷ b ∷ c ∷ rest) count f = absurd (omega (arith, count))

four_words : (P : List (List ℕ) → Type 0) (words : List (List ℕ)) → length words ≡ 4
    → ((a b c d : List ℕ) → P (a ∷ b ∷ c ∷ d ∷ [])) → P words
four_words P [] count f = absurd (omega (arith, count))
four_words P (a ∷ []) count f = absurd (omega (arith, count))
four_words P (a ∷ b ∷ []) count f = absurd (omega (arith, count))
four_words P (a ∷ b ∷ c ∷ []) count f = absurd (omega (arith, count))
four_words P (a ∷ b ∷ c ∷ d ∷ []) count f = f a b c d
four_words P (a ∷ b ∷ c ∷ d ∷ e ∷ rest) count f = absurd (omega (arith, count))

pub record LineTaken (known : Known) (form : IoForm) (hit : Option IoReason)
    (words : List (List ℕ)) : Type 0 where
  pub line : IoLine
  pub last : Option IoReason
  pub is : io_form_of line ≡ form
  pub takes : TakesAllIo known (io_fields_of form) (io_values_of line) words hit last

module _ (known : Known) where
  node : (word : List ℕ) (hit : Option IoReason)
      → WordTaken known AnEndpoint (λ n. NodeValue n) word hit
  node = take known AnEndpoint (λ n. NodeValue n) 0 (node_or_hit known)

  number : (word : List ℕ) (hit : Option IoReason)
      → WordTaken known DeviceNumber (λ n. Counted n) word hit
  number = take known DeviceNumber (λ n. Counted n) 0 (number_or_hit known 0 255)

  bytes : (word : List ℕ) (hit : Option IoReason)
      → WordTaken known MemorySize (λ n. Counted n) word hit
  bytes = take known MemorySize (λ n. Counted n) 0 (number_or_hit known 8 65536)

  size : (word : List ℕ) (hit : Option IoReason)
      → WordTaken known ReadSize (λ n. Counted n) word hit
  size = take known ReadSize (λ n. Counted n) 0 (number_or_hit known 8 64)

  addr : (word : List ℕ) (hit : Option IoReason)
      → WordTaken known Address (λ n. InDigits 8 n) word hit
  addr = take known Address (λ n. InDigits 8 n) 0 (digits_or_hit known 8)

  data_of : (word : List ℕ) (hit : Option IoReason)
      → WordTaken known Data (λ b. Bytes b) word hit
  data_of = take known Data (λ b. Bytes b) [] (hex_or_hit known)

  stream : (word : List ℕ) (hit : Option IoReason)
      → WordTaken known StreamData (λ b. Bytes b) word hit
  stream = take known StreamData (λ b. Bytes b) [] (hex_or_hit known)

  pub take_line : (form : IoForm) (hit : Option IoReason) (words : List (List ℕ))
      → length words ≡ length (io_fields_of form) → LineTaken known form hit words
  take_line F.Memory hit words count =
      two_words (LineTaken known F.Memory hit) words count (λ a b.
      let n = node a hit in
      let s = bytes b n.next in
      record {
        line = Memory n.is s.is;
        last = s.next;
        is = refl;
        takes = MoreIo n.takes (MoreIo s.takes NoMoreIo);
      })
  take_line F.NRead hit words count =
      four_words (LineTaken known F.NRead hit) words count (λ a b c d.
      let n = node a hit in
      let t = number b n.next in
      let at = addr c t.next in
      let s = size d at.next in
      record {
        line = NRead n.is t.is at.is s.is;
        last = s.next;
        is = refl;
        takes = MoreIo n.takes (MoreIo t.takes (MoreIo at.takes (MoreIo s.takes NoMoreIo)));
      })
  take_line F.NWrite hit words count =
      four_words (LineTaken known F.NWrite hit) words count (λ a b c d.
      let n = node a hit in
      let t = number b n.next in
      let at = addr c t.next in
      let s = data_of d at.next in
      record {
        line = NWrite n.is t.is at.is s.is;
        last = s.next;
        is = refl;
        takes = MoreIo n.takes (MoreIo t.takes (MoreIo at.takes (MoreIo s.takes NoMoreIo)));
      })
  take_line F.NWriteR hit words count =
      four_words (LineTaken known F.NWriteR hit) words count (λ a b c d.
      let n = node a hit in
      let t = number b n.next in
      let at = addr c t.next in
      let s = data_of d at.next in
      record {
        line = NWriteR n.is t.is at.is s.is;
        last = s.next;
        is = refl;
        takes = MoreIo n.takes (MoreIo t.takes (MoreIo at.takes (MoreIo s.takes NoMoreIo)));
      })
  take_line F.SWrite hit words count =
      four_words (LineTaken known F.SWrite hit) words count (λ a b c d.
      let n = node a hit in
      let t = number b n.next in
      let at = addr c t.next in
      let s = stream d at.next in
      record {
        line = SWrite n.is t.is at.is s.is;
        last = s.next;
        is = refl;
        takes = MoreIo n.takes (MoreIo t.takes (MoreIo at.takes (MoreIo s.takes NoMoreIo)));
      })
  take_line F.Round hit words count =
      no_words (LineTaken known F.Round hit) words count
      (record { line = Round; last = hit; is = refl; takes = NoMoreIo })
