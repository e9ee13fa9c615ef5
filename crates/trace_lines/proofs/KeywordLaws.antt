-- Which lines have a keyword, and words behind it.
use Rattle.std.proofs.Common.{◌≡◌, ℕ, true, List, [], ◌∷◌, length, sym, ap, ◌∙◌, arith}
use Rattle.fabric_script.specs.Known.{Known}
use Rattle.fabric_script.specs.Lines.{words_of}
use Rattle.fabric_script.specs.declared.values.Value.{Value}
use Rattle.trace_lines.specs.Lines.{TraceLine}
use Rattle.trace_lines.specs.declared.keywords.Keyword.{Keyword}
use Rattle.trace_lines.specs.Keywords.{trace_keyword_of, words_behind, keyword_text, NoneBehind}
use Rattle.trace_lines.specs.Words.{SpellsLine}
use Rattle.trace_lines.proofs.FieldLaws.{some_word}
use Rattle.trace_lines.proofs.LineKeywords.{head_is}
use Rattle.trace_lines.proofs.PlainLines.{is_plain, made, made_is, values_of}

-- a line with a keyword that stands alone has no word behind it
pub none_alone : (known : Known) (keyword : Keyword) (text : List ℕ) → is_plain keyword ≡ true
    → ((values : List Value) → words_behind known.names (made keyword values) ≡ [])
    → NoneBehind known keyword (words_of text)
none_alone known keyword text plain alone line spells =
    let named = spells.keyword_is in
    let made_so : line ≡ made keyword (values_of line)
    = sym (made_is line (ap is_plain named ∙ plain)) ∙ ap (λ k. made k (values_of line)) named in
    let none : words_of text ≡ []
    = spells.words_are ∙ ap (words_behind known.names) made_so ∙ alone (values_of line) in
    absurd (omega (arith, some_word text, ap length none))

-- a text whose first word is no keyword spells no line
pub no_keyword : (known : Known) (text word : List ℕ) (words : List (List ℕ))
    → ((keyword : Keyword) → keyword_text keyword ≡ word → ⊥) → words_of text ≡ word ∷ words
    → (line : TraceLine) → SpellsLine known text line → ⊥
no_keyword known text word words none is line spells =
    let all : word ∷ words ≡ keyword_text (trace_keyword_of line) ∷ words_behind known.names line
    = sym is ∙ spells.words ∙ head_is known.names line in
    none (trace_keyword_of line) cc
