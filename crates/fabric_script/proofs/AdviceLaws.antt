-- The words that are left of a text behind so many that were taken.
use Rattle.std.proofs.Common.{◌<◌, get_or, slice_index_or, Bool, true, false, not, IsTrue, ◌↔◌, ◌==◌, None, is_some, Bor, ◌≡◌, ◌≢◌, ℕ, ◌+◌, List, [], ◌∷◌, ◌++◌, Option, Some, length, length-append, slice_get, Contains, refl, sym, ap, ◌∙◌, subst, arith, append_assoc}
use Rattle.std.proofs.lemmas.List.Elements.{Contains-append_right}
use Rattle.std.proofs.lemmas.List.Splits.{length-slice_split}
use Rattle.std.proofs.lemmas.Option.{slice_get-get_or}
use Rattle.fabric_script.specs.declared.advice.WordKind.{WordKind}
use Rattle.fabric_script.specs.declared.forms.Form.{Form}
use Rattle.fabric_script.specs.Advice.{kind_of_field, IsSpelled, IsMisspelled}
use Rattle.fabric_script.specs.Forms.{Field, NewName, keyword_of, fields_of}
use Rattle.fabric_script.specs.Lines.{words_of}
use Rattle.fabric_script.specs.Words.{Left, first_word, after_word, words_left}

pub record IsBehind (words : List (List ℕ)) (count : ℕ) (left : List (List ℕ)) : Type 0 where
  pub front : List (List ℕ)
  pub cut : words ≡ front ++ left
  pub count_is : length front ≡ count

pub behind_none : (words : List (List ℕ)) → IsBehind words 0 words
behind_none words = record { front = []; cut = refl; count_is = refl }

after_is : (left : Left) (word : List ℕ) (rest : List (List ℕ)) → left.words ≡ word ∷ rest
    → (after_word left).words ≡ rest
after_is left word rest is = ap (λ ws. (after_word record { words = ws; hit = left.hit }).words) is

pub behind_word : (words : List (List ℕ)) (count : ℕ) (left : Left) → left.words ≢ []
    → IsBehind words count left.words → IsBehind words (count + 1) (after_word left).words
behind_word words count left some behind = by_words left.words refl
  where
    by_words : (rest : List (List ℕ)) → left.words ≡ rest
        → IsBehind words (count + 1) (after_word left).words
    by_words [] is = absurd (some is)
    by_words (word ∷ rest) is = record {
      front = behind.front ++ word ∷ [];
      cut = behind.cut ∙ ap (λ ws. behind.front ++ ws) is
          ∙ sym (append_assoc behind.front (word ∷ []) rest)
          ∙ ap (λ ws. (behind.front ++ word ∷ []) ++ ws) (sym (after_is left word rest is));
      count_is = length-append behind.front (word ∷ []) ∙ ap (λ n. n + 1) behind.count_is;
    }

pub behind_length : (words : List (List ℕ)) (count : ℕ) (left : List (List ℕ))
    → IsBehind words count left → length words ≡ count + length left
behind_length words count left behind =
    ap length behind.cut ∙ length-append behind.front left
    ∙ ap (λ n. n + length left) behind.count_is

pub behind_there : (words : List (List ℕ)) (count : ℕ) (left : List (List ℕ)) → left ≢ []
    → IsBehind words count left → slice_get words count ≡ Some (first_word left)
behind_there words count [] some behind = absurd (some refl)
behind_there words count (word ∷ rest) some behind =
    ap (λ ws. slice_get ws count) behind.cut
    ∙ ap (λ n. slice_get (behind.front ++ word ∷ rest) n) (sym behind.count_is)
    ∙ at_seam behind.front
  where
    at_seam : (front : List (List ℕ))
        → slice_get (front ++ word ∷ rest) (length front) ≡ Some word
    at_seam [] = refl
    at_seam (one ∷ front) = at_seam front

pub behind_contains : (words : List (List ℕ)) (count : ℕ) (left : List (List ℕ)) → left ≢ []
    → first_word left ≡ [] → IsBehind words count left → Contains words []
behind_contains words count [] some empty behind = absurd (some refl)
behind_contains words count (word ∷ rest) some empty behind =
    subst (λ ws. Contains ws []) (sym behind.cut)
    (Contains-append_right behind.front (word ∷ rest) []
    (0, omega arith, empty))

-- some word is left exactly if the text that is left is there
pub done_is : (rest : Option (Bor (List ℕ))) (words : List (List ℕ)) (answer : Bool)
    → words ≡ words_left rest → is_some rest ≡ not answer → IsTrue answer ↔ (words ≡ [])
done_is None words true is same = (λ _. is, λ _. refl)
done_is None words false is same = absurd cc
done_is (Some text) words true is same = absurd cc
done_is (Some text) words false is same = (
  λ yes. absurd cc,
  λ none. let long = length-slice_split (λ byte. byte == 32) text.now in
      let short : length (words_left (Some text)) ≡ 0 = ap length (sym is ∙ none) in
      absurd (omega (arith, long, short)),
)

pub empty_is : (word : List ℕ) → length word ≡ 0 → word ≡ []
empty_is [] none = refl
empty_is (byte ∷ word) none = absurd (omega (arith, none))

pub some_left : (text : List ℕ) (form : Form) (fields : List Field) (i : ℕ)
    (left : List (List ℕ)) → length (words_of text) ≡ length (fields_of form) + 1
    → fields ≡ fields_of form → i < length fields → IsBehind (words_of text) (i + 1) left
    → left ≢ []
some_left text form fields i left count fields_are within behind = λ none.
    let long : length fields ≡ length (fields_of form) = ap length fields_are in
    let rest = behind_length (words_of text) (i + 1) left behind in
    let zero : length left ≡ 0 = ap length none in
    omega (arith, zero, rest, count, long, within)

-- the word at a place where one is left, of as many words as there are fields behind the first, is
-- not of the kind of its field
pub misspelled_at : (text : List ℕ) (form : Form) (fields : List Field) (i : ℕ)
    (left : List (List ℕ)) (word : List ℕ) (kind : WordKind)
    → keyword_of form ≡ first_word (words_of text)
    → length (words_of text) ≡ length (fields_of form) + 1 → fields ≡ fields_of form
    → i < length fields → IsBehind (words_of text) (i + 1) left → word ≡ first_word left
    → kind ≡ kind_of_field (slice_index_or fields i NewName) → ¬ IsSpelled kind word
    → IsMisspelled text (i + 2) kind
misspelled_at text form fields i left word kind named count fields_are within behind word_is kind_is
    bad =
    let long : length fields ≡ length (fields_of form) = ap length fields_are in
    let some = some_left text form fields i left count fields_are within behind in
    let less : i < length (fields_of form) = omega (arith, long, within) in
    record {
      fields = fields_of form;
      has = record { form = form; named = named; same = refl };
      field = get_or (fields_of form) i NewName;
      wanted = subst (λ n. slice_get (fields_of form) n ≡ Some (get_or (fields_of form) i NewName))
          (omega arith) (slice_get-get_or (fields_of form) i NewName less);
      kind_is = kind_is ∙ ap (λ fs. kind_of_field (slice_index_or fs i NewName)) fields_are;
      word = word;
      there = subst (λ n. slice_get (words_of text) n ≡ Some word) (omega arith)
          (behind_there (words_of text) (i + 1) left some behind ∙ ap (λ w. Some w) (sym word_is));
      bad = bad;
    }
