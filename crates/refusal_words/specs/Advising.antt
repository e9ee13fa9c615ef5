-- What in a line is to blame, in words.
use Rattle.std.specs.Prelude.{◌≡◌, ℕ, List, [], ◌∷◌, ◌++◌, Contains, codes}
use Rattle.std.specs.Fmt.{decimal}
use Rattle.fabric_script.specs.Advice.{IsTrueOf}
use Rattle.fabric_script.specs.declared.advice.Advice.{Advice}
use Rattle.fabric_script.specs.declared.advice.Advice.TheVariants.{Nothing, CarriageReturn, Indent, Comment, EmptyWord, Keyword, WordCount, Word}
use Rattle.refusal_words.specs.declared.blame.Blame.{Blame}
use Rattle.refusal_words.specs.declared.blame.Blame.TheVariants.{ByteOrderMark, ZeroByte, Tab, TraceLine, Between}
use Rattle.refusal_words.specs.declared.blame.Blame.TheVariants as Blamed
use Rattle.fabric_script.specs.declared.advice.WordKind.{WordKind}
use Rattle.fabric_script.specs.declared.advice.WordKind.TheVariants as Kinds

-- how a word is spelled
abbrev pub word_kind_text : WordKind → List ℕ
word_kind_text Kinds.Name = codes "a letter and up to seven letters or digits"
word_kind_text Kinds.Port = codes "a name, a point and a number from 0 to 15"
word_kind_text (Kinds.Number least most) =
    codes "a number from " ++ decimal least ++ codes " to " ++ decimal most ++ codes " in decimal"
word_kind_text Kinds.Bytes =
    codes "bytes of two lower-case hexadecimal digits each, or a hyphen for none"
word_kind_text (Kinds.Digits count) = decimal count ++ codes " lower-case hexadecimal digits"
word_kind_text Kinds.Character = codes "d or k and two lower-case hexadecimal digits, or inv"

-- what in a line is to blame, or what the reason means if its text alone does not show that
abbrev pub advice_text : List ℕ → Advice → List ℕ
advice_text meaning Nothing = meaning
advice_text meaning CarriageReturn = codes "the line ends with a carriage return"
advice_text meaning Indent = codes "the line begins with a space"
advice_text meaning Comment = codes "a comment needs a line of its own that begins with #"
advice_text meaning EmptyWord = codes "one space separates two words, and none ends a line"
advice_text meaning Keyword = codes "no kind of line begins with this word"
advice_text meaning (WordCount count) =
    codes "this kind of line has " ++ decimal count ++ codes " words after the first"
advice_text meaning (Word place kind) =
    codes "word " ++ decimal place ++ codes " must be " ++ word_kind_text kind

-- what is to blame is so of the text
abbrev pub IsBlameOf : List ℕ → Blame → Type 0
IsBlameOf text ByteOrderMark = (rest : List ℕ) × (text ≡ 239 ∷ 187 ∷ 191 ∷ rest)
IsBlameOf text ZeroByte = Contains text 0
IsBlameOf text Tab = Contains text 9
IsBlameOf text TraceLine = (rest : List ℕ) × (text ≡ 62 ∷ rest)
IsBlameOf text Between = text ≡ codes "---"
IsBlameOf text (Blamed.Advice advice) = IsTrueOf text advice

abbrev pub blame_text : List ℕ → Blame → List ℕ
blame_text meaning ByteOrderMark =
    codes "the line begins with a byte-order mark, and only plain ASCII is read"
blame_text meaning ZeroByte =
    codes "the line has bytes of 0, as UTF-16 has, and only plain ASCII is read"
blame_text meaning Tab = codes "the line has a tab, and one space separates words"
blame_text meaning TraceLine = codes
    "a line of a trace may not stand here: rio check and rio_view read one after set-up lines and a line ---, as examples/traced.sh writes them"
blame_text meaning Between = codes
    "a line --- stands between set-up lines and a trace, which rio check and rio_view read, and in no script"
blame_text meaning (Blamed.Advice advice) = advice_text meaning advice

-- What is said of a text that is refused: what in it is to blame, or what the reason means.
pub record IsWhy (text meaning why : List ℕ) : Type 0 where
  pub blame : Blame
  pub so : IsBlameOf text blame
  pub says : why ≡ blame_text meaning blame

-- the bytes of a text show it, whatever its words ask
abbrev pub IsPlain : Blame → Type 0
IsPlain (Blamed.Advice CarriageReturn) = Unit {0}
IsPlain (Blamed.Advice Indent) = Unit {0}
IsPlain (Blamed.Advice advice) = ⊥
IsPlain blame = Unit {0}

-- The same of a line of any language, of what its bytes alone show.
pub record IsPlainWhy (text why : List ℕ) : Type 0 where
  pub blame : Blame
  pub plain : IsPlain blame
  pub so : IsBlameOf text blame
  pub says : why ≡ blame_text [] blame
