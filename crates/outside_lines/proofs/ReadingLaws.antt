-- What words say of devices outside.
use Rattle.std.proofs.Common.{◌≡◌, ◌≤◌, ℕ, ◌==◌, ◌&&◌, Bool, get_or, List, [], ◌∷◌, length, None, codes, sym, ap, ◌∙◌, subst, arith}
use Rattle.std.specs.List.{join_with_byte}
use Rattle.std.proofs.lemmas.Bool.{true≢false}
use Rattle.std.proofs.lemmas.List.Splits.{join_with_byte-slice_split}
use Rattle.fabric_script.specs.declared.lines.Line.{Line}
use Rattle.fabric_script.specs.declared.lines.Line.TheVariants.{Settle}
use Rattle.fabric_script.specs.Known.{Known}
use Rattle.fabric_script.specs.Lines.{form_of, words_of}
use Rattle.fabric_script.specs.Forms.{keyword_of}
use Rattle.fabric_script.specs.Words.{first_word}
use Rattle.fabric_script.specs.Reading.{Spells}
use Rattle.fabric_script.specs.Texts.{port_text}
use Rattle.outside_lines.specs.declared.facing.Facing.{Facing}
use Rattle.outside_lines.specs.Reading.{settle_text, PortOf, NoCount, NoChars, NoSending, IsPump, NoTurns}
use Rattle.fabric_script.specs.declared.ports.PortRef.{PortRef}

abbrev rest_words : List (List ℕ) → List (List ℕ)
rest_words [] = []
rest_words (word ∷ words) = words

-- whether a word begins with the letters `set`
abbrev begins_so : List ℕ → Bool
begins_so word = (get_or word 0 0 == 115) && ((get_or word 1 0 == 101) && (get_or word 2 0 == 116))

-- a text that has one word is that word
one_word : (text word : List ℕ) → words_of text ≡ word ∷ [] → text ≡ word
one_word text word is =
    sym (join_with_byte-slice_split 32 text) ∙ ap (join_with_byte 32) is

-- a word with which `settle` is an event names a port
pub settles_none : (known : Known) (word : List ℕ) (event : Line)
    → Spells known (settle_text word) event → PortOf known word None → ⊥
settles_none known word event spells none =
    by_line event (ap first_word spells.says.words) spells
  where
    by_line : (event : Line) → codes "settle" ≡ keyword_of (form_of event)
        → Spells known (settle_text word) event → ⊥
    by_line (Settle port) is spells =
        let rest = ap rest_words spells.says.words in
        none port spells.says.may.fit.0 (one_word word (port_text known.names port) rest)
    by_line event is spells = absurd (true≢false (ap begins_so is))

module _ (known : Known) (facing : List Facing) (words : List (List ℕ)) (first : List ℕ) where
  pub sending_refused : (rest : List (List ℕ)) (reason : ℕ) → words ≡ first ∷ rest
      → 1 ≤ length rest → NoChars known facing first rest reason
      → NoSending known facing words reason
  sending_refused [] reason is some refused = absurd (omega (arith, some))
  sending_refused (second ∷ more) reason is some refused =
      subst (λ w. NoSending known facing w reason) (sym is) refused

pub turns_refused : (known : Known) (facing : List Facing) (words rest : List (List ℕ))
    (reason : ℕ) (port : PortRef) → IsPump known facing words port rest → 1 ≤ length rest
    → NoCount rest reason → NoTurns known facing words reason
turns_refused known facing words [] reason port is some refused = absurd (omega (arith, some))
turns_refused known facing words (second ∷ more) reason port is some refused =
    subst (λ w. NoTurns known facing w reason) (sym is.1) ((port, is.2), refused)

-- one word that is no number of a range
pub no_count : (words : List (List ℕ)) (word : List ℕ) → words ≡ word ∷ [] → NoCount (word ∷ []) 2
    → NoCount words 2
no_count words word is none = subst (λ w. NoCount w 2) (sym is) none

-- a first word and those that follow it, by what they are
pub sent_words : (words rest more : List (List ℕ)) (first word : List ℕ) → words ≡ first ∷ rest
    → first ≡ word → rest ≡ more → words ≡ word ∷ more
sent_words words rest more first word is one others =
    is ∙ (ap (λ w. w ∷ rest) one ∙ ap (λ ws. word ∷ ws) others)
