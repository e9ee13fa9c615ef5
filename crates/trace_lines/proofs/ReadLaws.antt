-- What is read of a text is a line that it spells.
use Rattle.std.proofs.Common.{◌≡◌, ◌≢◌, ℕ, ◌==◌, false, not, List, [], ◌∷◌, ◌++◌, map, length, append_assoc, refl, sym, ap, ◌∙◌, subst, arith}
use Rattle.std.specs.List.{AllByRecursion}
use Rattle.std.proofs.lemmas.List.{map-append}
use Rattle.std.proofs.lemmas.List.Splits.{length-slice_split}
use Rattle.rio_chars.specs.CharText.{char_text_of, HasByte}
use Rattle.rio_chars.specs.declared.chars.Char.{Char}
use Rattle.fabric_script.specs.declared.lines.Line.{Line}
use Rattle.fabric_script.specs.declared.lines.Line.TheVariants.{Endpoint, Switch}
use Rattle.fabric_script.specs.declared.reasons.Reason.TheVariants.{OutOfPlace}
use Rattle.fabric_script.specs.Known.{Known}
use Rattle.fabric_script.specs.Lines.{is_event, line_words, new_name, words_of}
use Rattle.fabric_script.specs.Reading.{MayBe, Spells, new_name_in}
use Rattle.fabric_script.specs.Refusals.{out_of_place_in}
use Rattle.fabric_script.specs.SetUps.{KnownIsReady}
use Rattle.trace_lines.specs.Lines.{Begun}
use Rattle.trace_lines.specs.Keywords.{SpellsBehind}
use Rattle.trace_lines.specs.declared.keywords.Keyword.TheVariants as K

-- ---- characters

-- one more character
pub texts_more : (chars more : List Char) (c : Char) (word : List ℕ) (left words : List (List ℕ))
    → map char_text_of chars ++ word ∷ left ≡ words → word ≡ char_text_of c → more ≡ chars ++ c ∷ []
    → map char_text_of more ++ left ≡ words
texts_more chars more c word left words before here all =
    ap (λ (l : List Char). map char_text_of l ++ left) all
    ∙ ap (λ (l : List (List ℕ)). l ++ left) (map-append char_text_of chars (c ∷ []))
    ∙ append_assoc (map char_text_of chars) (char_text_of c ∷ []) left
    ∙ ap (λ (w : List ℕ). map char_text_of chars ++ w ∷ left) (sym here)
    ∙ before

bytes_append : (chars : List Char) (c : Char) → AllByRecursion HasByte chars → HasByte c
    → AllByRecursion HasByte (chars ++ c ∷ [])
bytes_append [] c all has = (has, tt)
bytes_append (x ∷ chars) c all has = (all.0, bytes_append chars c all.1 has)

pub bytes_more : (chars more : List Char) (c : Char) → AllByRecursion HasByte chars → HasByte c
    → more ≡ chars ++ c ∷ [] → AllByRecursion HasByte more
bytes_more chars more c all has is =
    subst (AllByRecursion HasByte) (sym is) (bytes_append chars c all has)

-- a text has a word, so characters that are all its words are some
pub some_chars : (text : List ℕ) (chars : List Char) → words_of text ≡ map char_text_of chars
    → chars ≢ []
some_chars text chars words none =
    let counted = length-slice_split (λ b. b == 32) text in
    let empty : words_of text ≡ [] = words ∙ ap (map char_text_of) none in
    absurd (omega (arith, counted, ap length empty))

-- ---- event lines

-- only a node has a name
named : (known : Known) (text : List ℕ) (line : Line) → not (is_event line) ≡ false
    → new_name_in text line ≡ new_name known.names line
named known text (Endpoint name id) event = absurd cc
named known text (Switch name ports) event = absurd cc
named known text _ event = refl

-- an event line that a text spells stands behind the keyword
pub begun_spelled : (known : Known) (text : List ℕ) (line : Line) → KnownIsReady known
    → Spells known text line → SpellsBehind known K.Begun (words_of text) (Begun line)
begun_spelled known text line ready spells =
    let event : not (is_event line) ≡ false
    = ap (λ mode. out_of_place_in mode known.begun (is_event line)) (sym ready.event)
    ∙ spells.free OutOfPlace in
    let same = named known text line event in
    record {
      keyword_is = refl;
      words_are = spells.says.words ∙ ap (λ name. line_words known.names name line) same;
      fits = (subst (λ name. MayBe known name line) same spells.says.may, spells.free);
    }
