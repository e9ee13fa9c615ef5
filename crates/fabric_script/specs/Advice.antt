-- What in the text of a refused line is to blame.
use Rattle.std.specs.Prelude.{◌≡◌, ◌≢◌, ℕ, ◌+◌, ◌-◌, ◌^◌, ◌<◌, ◌≤◌, true, List, [], ◌∷◌, ◌++◌, All, Contains, Some, length, slice_get}
use Rattle.std.specs.Fmt.{decimal}
use Rattle.rio_chars.specs.CharText.{char_text_of, HasByte}
use Rattle.rio_chars.specs.declared.chars.Char.{Char}
use Rattle.fabric_script.specs.declared.advice.Advice.{Advice}
use Rattle.fabric_script.specs.declared.advice.Advice.TheVariants.{Nothing, CarriageReturn, Indent, Comment, EmptyWord, Keyword, WordCount, Word}
use Rattle.fabric_script.specs.declared.advice.WordKind.{WordKind}
use Rattle.fabric_script.specs.declared.advice.WordKind.TheVariants as Kinds
use Rattle.fabric_script.specs.declared.forms.Form.{Form}
use Rattle.fabric_script.specs.Forms.{Field, NewName, Node, Port, Number, Hex, Digits, Character, keyword_of, fields_of}
use Rattle.fabric_script.specs.Hits.{point_text}
use Rattle.fabric_script.specs.Lines.{words_of}
use Rattle.fabric_script.specs.Names.{is_name}
use Rattle.fabric_script.specs.Texts.{hex_text, digits_text}
use Rattle.fabric_script.specs.Words.{first_word}

-- how the word of a field is spelled, whatever nodes there are
abbrev pub kind_of_field : Field → WordKind
kind_of_field NewName = Kinds.Name
kind_of_field Node = Kinds.Name
kind_of_field Port = Kinds.Port
kind_of_field (Number least most) = Kinds.Number least most
kind_of_field Hex = Kinds.Bytes
kind_of_field (Digits count) = Kinds.Digits count
kind_of_field Character = Kinds.Character

-- a word is spelled as one of this kind
abbrev pub IsSpelled : WordKind → List ℕ → Type 0
IsSpelled Kinds.Name word = is_name word ≡ true
IsSpelled Kinds.Port word = (name : List ℕ) × (port : ℕ) × (is_name name ≡ true) × (port < 16)
    × (word ≡ point_text name port)
IsSpelled (Kinds.Number least most) word =
    (n : ℕ) × (least ≤ n) × (n ≤ most) × (word ≡ decimal n)
IsSpelled Kinds.Bytes word =
    (bytes : List ℕ) × All (λ byte. byte < 256) bytes × (word ≡ hex_text bytes)
IsSpelled (Kinds.Digits count) word = (n : ℕ) × (n < 16 ^ count) × (word ≡ digits_text count n)
IsSpelled Kinds.Character word = (c : Char) × HasByte c × (word ≡ char_text_of c)

-- a line that begins with this word has words of these kinds behind it
pub record LineHasFields (text : List ℕ) (fields : List Field) : Type 0 where
  pub form : Form
  pub named : keyword_of form ≡ first_word (words_of text)
  pub same : fields ≡ fields_of form

-- the first word of a text is a keyword, with as many words behind it as it wants
pub record HasShape (text : List ℕ) : Type 0 where
  pub fields : List Field
  pub has : LineHasFields text fields
  pub count : length (words_of text) ≡ length fields + 1

-- The word at this place of a text, the first being 1, is not of the kind that stands there.
pub record IsMisspelled (text : List ℕ) (place : ℕ) (kind : WordKind) : Type 0 where
  pub fields : List Field
  pub has : LineHasFields text fields
  pub field : Field
  pub wanted : slice_get fields (place - 2) ≡ Some field
  pub kind_is : kind ≡ kind_of_field field
  pub word : List ℕ
  pub there : slice_get (words_of text) (place - 1) ≡ Some word
  pub bad : ¬ IsSpelled kind word

-- what an advice says is so of the text
abbrev pub IsTrueOf : List ℕ → Advice → Type 0
IsTrueOf text Nothing = Unit {0}
IsTrueOf text CarriageReturn = (front : List ℕ) × (text ≡ front ++ 13 ∷ [])
IsTrueOf text Indent = (rest : List ℕ) × (text ≡ 32 ∷ rest)
IsTrueOf text Comment = Contains text 35
IsTrueOf text EmptyWord = Contains (words_of text) []
IsTrueOf text Keyword = (form : Form) → keyword_of form ≢ first_word (words_of text)
IsTrueOf text (WordCount count) = (fields : List Field) × LineHasFields text fields
    × (count ≡ length fields) × (length (words_of text) ≢ count + 1)
IsTrueOf text (Word place kind) = IsMisspelled text place kind
