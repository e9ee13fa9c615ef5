-- The words of a text, and what of one is to blame.
use Rattle.std.proofs.Common.{◌≡◌, ℕ, ◌+◌, List, [], ◌∷◌, ◌++◌, None, Some, Contains, length, length-append, slice_get, refl, sym, ap, ◌∙◌, subst, arith, append_assoc}
use Rattle.std.proofs.lemmas.Option.{slice_get_within, get_or_from_slice_get}
use Rattle.fabric_script.specs.Known.{Known}
use Rattle.fabric_script.specs.Lines.{words_of}
use Rattle.fabric_script.proofs.AdviceLaws.{IsBehind, behind_length, behind_there, empty_is}
use Rattle.check_words.specs.declared.kinds.LineKind.{LineKind}
use Rattle.check_words.specs.declared.kinds.Part.{Part}
use Rattle.check_words.specs.declared.misfits.Misfit.TheVariants as M
use Rattle.check_words.specs.declared.misfits.WordFault.{WordFault}
use Rattle.check_words.specs.Kinds.{IsOfKind, part_at}
use Rattle.check_words.specs.Misfits.{IsBadWord, IsMisfit, IsMisfitWord}

-- a word that is there is among the words
pub has_word : (words : List (List ℕ)) (i : ℕ) (word : List ℕ) → slice_get words i ≡ Some word
    → Contains words word
has_word words i word there =
    (i, slice_get_within words i word there, get_or_from_slice_get words i word word there)

-- the words behind the first
pub behind_first : (words : List (List ℕ)) (first : List ℕ) (rest : List (List ℕ))
    → words ≡ first ∷ rest → IsBehind words 1 rest
behind_first words first rest split = record { front = first ∷ []; cut = split; count_is = refl }

-- the next word is there, and the others stand behind it
pub next_there : (words : List (List ℕ)) (count : ℕ) (left : List (List ℕ)) (word : List ℕ)
    (rest : List (List ℕ)) → IsBehind words count left → left ≡ word ∷ rest
    → slice_get words count ≡ Some word
next_there words count left word rest behind split =
    let at : IsBehind words count (word ∷ rest) =
    subst (λ l. IsBehind words count l) split behind in
    behind_there words count (word ∷ rest) (λ none. absurd cc) at

pub next_behind : (words : List (List ℕ)) (count : ℕ) (left : List (List ℕ)) (word : List ℕ)
    (rest : List (List ℕ)) → IsBehind words count left → left ≡ word ∷ rest
    → IsBehind words (count + 1) rest
next_behind words count left word rest behind split = record {
  front = behind.front ++ word ∷ [];
  cut = behind.cut ∙ ap (λ l. behind.front ++ l) split
      ∙ sym (append_assoc behind.front (word ∷ []) rest);
  count_is = length-append behind.front (word ∷ []) ∙ ap (λ n. n + 1) behind.count_is;
}

-- no more words are there
pub all_taken : (words : List (List ℕ)) (count : ℕ) (left : List (List ℕ))
    → IsBehind words count left → left ≡ [] → length words ≡ count
all_taken words count left behind none =
    let all = behind_length words count left behind in
    let zero : length left ≡ 0 = ap length none in
    omega (arith, all, zero)

-- a word that is bad as the part that stands there
pub misfit_word : (known : Known) (text : List ℕ) (kind : LineKind) (i : ℕ) (part : Part)
    (word : List ℕ) (fault : WordFault) → IsOfKind text kind → part_at kind i ≡ Some part
    → slice_get (words_of text) (i + 1) ≡ Some word → IsBadWord known part word fault
    → IsMisfitWord known text (i + 2) fault
misfit_word known text kind i part word fault of_kind wanted there bad = record {
  kind = kind;
  of_kind = of_kind;
  part = part;
  wanted = subst (λ n. part_at kind n ≡ Some part) (omega arith) wanted;
  word = word;
  there = subst (λ n. slice_get (words_of text) n ≡ Some word) (omega arith) there;
  bad = bad;
}

-- an empty word
pub empty_word : (known : Known) (text word : List ℕ) (i : ℕ) → length word ≡ 0
    → slice_get (words_of text) i ≡ Some word → IsMisfit known text M.EmptyWord
empty_word known text word i none there =
    subst (λ w. Contains (words_of text) w) (empty_is word none)
    (has_word (words_of text) i word there)

-- a word behind which none may stand
pub too_many : (known : Known) (text : List ℕ) (kind : LineKind) (i : ℕ) (word : List ℕ)
    → IsOfKind text kind → part_at kind i ≡ None → slice_get (words_of text) (i + 1) ≡ Some word
    → IsMisfit known text (M.TooMany (i + 2))
too_many known text kind i word of_kind none there =
    let within = slice_get_within (words_of text) (i + 1) word there in (
      kind,
      of_kind,
      omega (arith, within),
      subst (λ n. part_at kind n ≡ None) (omega arith) none,
    )
