-- A text is the line of an event, or none.
use Rattle.judged_inputs.proofs.Prelude.{◌≡◌, ℕ, ◌==◌, Bool, true, false, not, List, [], ◌∷◌, codes, refl, sym, ap, ◌∙◌, subst, inl, inr, if◌then◌else◌, onto_first, Known, IsOrderly, one_event, is_event, line_words, new_name, words_of, Decided, same_or_not}
use Rattle.fabric_script.specs.declared.lines.Line.{Line}
use Rattle.fabric_script.specs.declared.lines.Line.TheVariants.{Endpoint, Switch}
use Rattle.fabric_script.specs.declared.reasons.Reason.TheVariants.{OutOfPlace}
use Rattle.fabric_script.specs.Reading.{MayBe, IsFree, Spells, new_name_in}
use Rattle.fabric_script.specs.Refusals.{out_of_place_in}
use Rattle.fabric_script.proofs.ReadLaws.{spelled_no_hit}
use Rattle.script_law.proofs.LineChoice.{spelled_or_hit}

-- ---- what stands behind the first space

behind_space : List ℕ → List ℕ
behind_space [] = []
behind_space (byte ∷ text) = if byte == 32 then text else behind_space text

one_less : (byte : ℕ) (words : List (List ℕ)) (word next : List ℕ) (more : List (List ℕ))
    → onto_first byte words ≡ word ∷ next ∷ more
    → (first : List ℕ) × (words ≡ first ∷ next ∷ more)
one_less byte [] word next more e = absurd cc
one_less byte (first ∷ words) word next more e =
    let tails : words ≡ next ∷ more = cc in
    (first, ap (λ (l : List (List ℕ)). first ∷ l) tails)

by_space : (byte : ℕ) (text word next : List ℕ) (more : List (List ℕ)) (space : Bool)
    → ((first : List ℕ) → words_of text ≡ first ∷ next ∷ more
    → words_of (behind_space text) ≡ next ∷ more)
    → (if space then [] ∷ words_of text else onto_first byte (words_of text))
    ≡ word ∷ next ∷ more
    → words_of (if space then text else behind_space text) ≡ next ∷ more
by_space byte text word next more true on e = cc
by_space byte text word next more false on e =
    let less = one_less byte (words_of text) word next more e in
    on less.0 less.1

-- the words but for the first
rest_words : (text word next : List ℕ) (more : List (List ℕ))
    → words_of text ≡ word ∷ next ∷ more → words_of (behind_space text) ≡ next ∷ more
unfolding behind_space
rest_words [] word next more e = absurd cc
rest_words (byte ∷ text) word next more e = by_space byte text word next more (byte == 32)
    (λ first on. rest_words text first next more on) e

-- ---- an event

-- what may stand where one event alone may
is_one : (known : Known) (line : Line) → known.mode ≡ one_event → IsFree known line
    → not (is_event line) ≡ false
is_one known line event free =
    ap (λ mode. out_of_place_in mode known.begun (is_event line)) (sym event) ∙ free OutOfPlace

-- only a node has a name
named : (known : Known) (text : List ℕ) (line : Line) → not (is_event line) ≡ false
    → new_name_in text line ≡ new_name known.names line
named known text (Endpoint name id) event = absurd cc
named known text (Switch name ports) event = absurd cc
named known text _ event = refl

-- the words behind the keyword are those of an event that may stand
abbrev pub SaysEventLine : Known → List (List ℕ) → Type 0
SaysEventLine known words = (line : Line)
    × (words ≡ line_words known.names (new_name known.names line) line)
    × MayBe known (new_name known.names line) line × IsFree known line

event_line_or_none : (known : Known) → IsOrderly known → known.mode ≡ one_event
    → (text : List ℕ) → Decided (SaysEventLine known (words_of text))
event_line_or_none known orderly event text = elim (spelled_or_hit known text orderly) [
  | inl spells ↦
      let says = by_line spells.0 spells.1 in
      inl (spells.0, says.0, says.1, says.2)
  | inr hit ↦ inr (λ says. spelled_no_hit known text says.0 hit.0 orderly
      (as_spelled says.0 says.1 says.2 says.3) hit.1.hits)
]
  where
    by_line : (line : Line) → Spells known text line
        → (words_of text ≡ line_words known.names (new_name known.names line) line)
        × MayBe known (new_name known.names line) line × IsFree known line
    by_line line spells =
        let same = named known text line (is_one known line event spells.free) in (
          spells.says.words ∙ ap (λ name. line_words known.names name line) same,
          subst (λ name. MayBe known name line) same spells.says.may,
          spells.free,
        )

    as_spelled : (line : Line)
        → words_of text ≡ line_words known.names (new_name known.names line) line
        → MayBe known (new_name known.names line) line → IsFree known line
        → Spells known text line
    as_spelled line words may free =
        let same = sym (named known text line (is_one known line event free)) in
        record {
          says = record {
            words = words ∙ ap (λ name. line_words known.names name line) same;
            may = subst (λ name. MayBe known name line) same may;
          };
          free = free;
        }

-- the same behind the keyword of an event line
abbrev pub SaysBegun : Known → List (List ℕ) → Type 0
SaysBegun known words = (line : Line)
    × (words ≡ codes ">" ∷ line_words known.names (new_name known.names line) line)
    × MayBe known (new_name known.names line) line × IsFree known line

pub begun_or_none : (known : Known) → IsOrderly known → known.mode ≡ one_event
    → (text : List ℕ) → Decided (SaysBegun known (words_of text))
begun_or_none known orderly event text = by_words (words_of text) refl
  where
    behind : (word next : List ℕ) (more : List (List ℕ)) → words_of text ≡ word ∷ next ∷ more
        → word ≡ codes ">" → Decided (SaysEventLine known (next ∷ more))
        → Decided (SaysBegun known (word ∷ next ∷ more))
    behind word next more e is (inl says) = inl (says.0, (λ i. is i ∷ says.1 i), says.2, says.3)
    behind word next more e is (inr none) = inr (λ says.
        let words = says.1 in
        none (says.0, cc, says.2, says.3))

    by_words : (words : List (List ℕ)) → words_of text ≡ words → Decided (SaysBegun known words)
    by_words [] e = inr (λ says.
        let words = says.1 in
        cc)
    by_words (word ∷ []) e = inr (λ says.
        let words = says.1 in
        cc)
    by_words (word ∷ next ∷ more) e = elim (same_or_not word (codes ">")) [
      | inl is ↦ behind word next more e is
          (subst (λ (words : List (List ℕ)). Decided (SaysEventLine known words))
          (rest_words text word next more e)
          (event_line_or_none known orderly event (behind_space text)))
      | inr other ↦ inr (λ says.
          let words = says.1 in
          other cc)
    ]
