-- A text is one line at most, and no reason hits it then.
use Rattle.std.proofs.Common.{◌≡◌, ℕ, ◌+◌, ◌*◌, ◌==◌, List, [], ◌∷◌, map, length, get_or, Option, Some, slice_get, refl, sym, ap, ap₂, ◌∙◌, subst, cond, arith}
use Rattle.std.proofs.lemmas.List.{length-map}
use Rattle.std.specs.List.{join_with_byte}
use Rattle.std.proofs.lemmas.List.Splits.{join_with_byte-slice_split}
use Rattle.fabric_script.specs.Known.{IsOrderly, Known}
use Rattle.fabric_script.specs.Lines.{words_of}
use Rattle.fabric_script.specs.declared.values.Value.{Value}
use Rattle.fabric_script.specs.declared.values.Value.TheVariants.{Node as NodeValue, Bytes, Counted, InDigits}
use Rattle.fabric_script.specs.Texts.{value_text}
use Rattle.io_script.specs.declared.forms.IoForm.{IoForm}
use Rattle.io_script.specs.declared.forms.IoForm.TheVariants as F
use Rattle.io_script.specs.declared.lines.IoLine.{IoLine}
use Rattle.io_script.specs.declared.lines.IoLine.TheVariants.{Memory, NRead, NWrite, NWriteR, SWrite, Round}
use Rattle.io_script.specs.declared.reasons.IoReason.{IoReason}
use Rattle.io_script.specs.IoForms.{io_fields_of, io_keyword_of}
use Rattle.io_script.specs.IoLines.{io_form_of, io_line_text, io_line_words, io_values_of}
use Rattle.io_script.specs.IoReading.{AnIoWord, CostsTooMuch, Earlier, gives_memory, HasIoForm, HitsIo, io_cost_of, IsLate, LeastIoHit, NoIoForm, SpellsIo}
use Rattle.io_script.specs.IoReasons.{io_reason_number}
use Rattle.io_script.specs.IoWords.{FitIoAll, HitsIoOne}
use Rattle.io_script.proofs.IoOutcome.{length-fit_io, no_io_hit_one, same_io_values}

-- ---- a keyword has one form

io_forms : List IoForm
io_forms = F.Memory ∷ F.NRead ∷ F.NWrite ∷ F.NWriteR ∷ F.SWrite ∷ F.Round ∷ []

-- the first letter of a word and its length
letter_and_length : List ℕ → ℕ
letter_and_length word = get_or word 0 0 + 1000 * length word

-- the first form whose keyword has these; no two have the same
form_by_letter : ℕ → List IoForm → IoForm
form_by_letter n [] = F.Round
form_by_letter n (form ∷ forms) =
    cond (letter_and_length (io_keyword_of form) == n) form (form_by_letter n forms)

form_of_keyword : (form : IoForm)
    → form_by_letter (letter_and_length (io_keyword_of form)) io_forms ≡ form
unfolding form_by_letter io_forms letter_and_length
form_of_keyword F.Memory = refl
form_of_keyword F.NRead = refl
form_of_keyword F.NWrite = refl
form_of_keyword F.NWriteR = refl
form_of_keyword F.SWrite = refl
form_of_keyword F.Round = refl

pub io_keyword-injective : (a b : IoForm) → io_keyword_of a ≡ io_keyword_of b → a ≡ b
io_keyword-injective a b e =
    sym (form_of_keyword a) ∙ ap (λ w. form_by_letter (letter_and_length w) io_forms) e
    ∙ form_of_keyword b

-- a text with a keyword has no other form, and no other words behind it
pub one_form : (text : List ℕ) (form other : IoForm) (rest : List (List ℕ))
    → words_of text ≡ io_keyword_of form ∷ rest → (has : HasIoForm other text)
    → (other ≡ form) × (has.rest ≡ rest)
one_form text form other rest words has =
    let both : io_keyword_of other ∷ has.rest ≡ io_keyword_of form ∷ rest
    = sym has.words ∙ words in
    (io_keyword-injective other form cc, cc)

-- ---- a form and values make one line

-- the number that a value says, and the bytes
number_said : Option Value → ℕ
number_said (Some (NodeValue n)) = n
number_said (Some (Counted n)) = n
number_said (Some (InDigits count n)) = n
number_said _ = 0

bytes_said : Option Value → List ℕ
bytes_said (Some (Bytes bytes)) = bytes
bytes_said _ = []

io_line_of : IoForm → List Value → IoLine
io_line_of F.Memory vs = Memory (number_said (slice_get vs 0)) (number_said (slice_get vs 1))
io_line_of F.NRead vs = NRead (number_said (slice_get vs 0)) (number_said (slice_get vs 1))
    (number_said (slice_get vs 2)) (number_said (slice_get vs 3))
io_line_of F.NWrite vs = NWrite (number_said (slice_get vs 0)) (number_said (slice_get vs 1))
    (number_said (slice_get vs 2)) (bytes_said (slice_get vs 3))
io_line_of F.NWriteR vs = NWriteR (number_said (slice_get vs 0)) (number_said (slice_get vs 1))
    (number_said (slice_get vs 2)) (bytes_said (slice_get vs 3))
io_line_of F.SWrite vs = SWrite (number_said (slice_get vs 0)) (number_said (slice_get vs 1))
    (number_said (slice_get vs 2)) (bytes_said (slice_get vs 3))
io_line_of F.Round vs = Round

io_line_of-line : (line : IoLine) → io_line_of (io_form_of line) (io_values_of line) ≡ line
unfolding io_line_of number_said bytes_said
io_line_of-line (Memory node bytes) = refl
io_line_of-line (NRead node dest addr size) = refl
io_line_of-line (NWrite node dest addr load) = refl
io_line_of-line (NWriteR node dest addr load) = refl
io_line_of-line (SWrite node dest addr load) = refl
io_line_of-line Round = refl

module _ (known : Known) (earlier : Earlier) (text : List ℕ) (orderly : IsOrderly known) where
  -- a text is one line at most
  pub same_io_line : (a b : IoLine) → SpellsIo known earlier text a
      → SpellsIo known earlier text b → a ≡ b
  same_io_line a b one other =
      let e : io_line_words known.names a ≡ io_line_words known.names b
      = sym one.words ∙ other.words in
      let form : io_form_of a ≡ io_form_of b
      = io_keyword-injective (io_form_of a) (io_form_of b) cc in
      let texts : map (value_text known.names) (io_values_of a)
      ≡ map (value_text known.names) (io_values_of b) = cc in
      let fit : FitIoAll known (io_fields_of (io_form_of a)) (io_values_of b)
      = subst (λ f. FitIoAll known (io_fields_of f) (io_values_of b)) (sym form) other.fit in
      let values = same_io_values known (io_fields_of (io_form_of a)) (io_values_of a)
      (io_values_of b) orderly one.fit fit texts in
      sym (io_line_of-line a) ∙ ap₂ (λ f vs. io_line_of f vs) form values ∙ io_line_of-line b

  -- the form of a text that is a line
  spells_form : (line : IoLine) → SpellsIo known earlier text line
      → HasIoForm (io_form_of line) text
  spells_form line says = record {
    rest = map (value_text known.names) (io_values_of line);
    words = says.words;
    count = length-map (io_values_of line) (value_text known.names)
        ∙ length-fit_io known (io_fields_of (io_form_of line)) (io_values_of line) says.fit;
  }

  -- no reason hits it
  pub spelled_no_io_hit : (line : IoLine) (reason : IoReason) → SpellsIo known earlier text line
      → HitsIo known earlier text reason → ⊥
  spelled_no_io_hit line reason says (NoIoForm none) =
      none (io_form_of line) (spells_form line says)
  spelled_no_io_hit line reason says (AnIoWord form has h) =
      let one = one_form text (io_form_of line) form
      (map (value_text known.names) (io_values_of line)) says.words has in
      no_io_hit_one known (io_fields_of (io_form_of line)) (io_values_of line) reason orderly
      says.fit
      (subst (λ ws. HitsIoOne known reason (io_fields_of (io_form_of line)) ws) one.1
      (subst (λ f. HitsIoOne known reason (io_fields_of f) has.rest) one.0 h))
  spelled_no_io_hit line reason says (CostsTooMuch form has much) =
      let one = one_form text (io_form_of line) form
      (map (value_text known.names) (io_values_of line)) says.words has in
      let cheap = says.cheap in
      let same = ap (λ f. io_cost_of (length known.links) f) one.0 in
      omega (arith, cheap, much, same)
  spelled_no_io_hit line reason says (IsLate has begun) =
      let one = one_form text (io_form_of line) F.Memory
      (map (value_text known.names) (io_values_of line)) says.words has in
      let early = says.early (ap gives_memory (sym one.0)) in
      cc

  -- one reason is the least
  pub least_io_once : (r q : IoReason) → LeastIoHit known earlier text r
      → LeastIoHit known earlier text q → io_reason_number r ≡ io_reason_number q
  least_io_once r q a b =
      let below = a.least q b.hits in
      let above = b.least r a.hits in
      omega (arith, below, above)

-- a text that is a line is its text
pub io_text_is : (known : Known) (earlier : Earlier) (text : List ℕ) (line : IoLine)
    → SpellsIo known earlier text line → text ≡ io_line_text known.names line
io_text_is known earlier text line says =
    sym (join_with_byte-slice_split 32 text) ∙ ap (join_with_byte 32) says.words
