-- Words joined by single spaces, and lines by line feeds.
use Rattle.std.proofs.Common.{◌≡◌, ℕ, ◌/◌, ◌%◌, ◌==◌, ◌<◌, nat_le, zero, suc, Bool, true, false, ◌||◌, List, [], ◌∷◌, ◌++◌, codes, map, refl, sym, ap, ◌∙◌, append_assoc, append-nil, arith}
use Rattle.std.specs.List.{slice_split, join_with_byte, list_all}
use Rattle.std.specs.Fmt.{decimal}
use Rattle.std.specs.Str.{all_ascii_digits}
use Rattle.std.specs.Char.{is_ascii_digit}
use Rattle.std.proofs.lemmas.List.Folds.{list_all-append}
use Rattle.std.proofs.lemmas.List.Splits.{slice_split_none, slice_split_at}
use Rattle.std.proofs.lemmas.List.Elements.{All-nil, All-cons, All-append}
use Rattle.std.proofs.lemmas.Bool.Decides.{nat_tests}
use Rattle.rio_chars.specs.HexText.{hex_digit, hex_of}
use Rattle.rio_chars.specs.CharText.{char_text_of}
use Rattle.rio_chars.specs.declared.chars.Char.{Char}
use Rattle.rio_chars.specs.declared.chars.Char.TheVariants.{Data, Special, Invalid}
use Rattle.fabric_script.specs.declared.forms.Form.{Form}
use Rattle.fabric_script.specs.declared.forms.Form.TheVariants as F
use Rattle.fabric_script.specs.Names.{is_name, name_of, is_letter, is_digit, are_letters_or_digits}
use Rattle.fabric_script.specs.Forms.{Field, NewName, Node, Port, Number, Hex, Digits, Character, keyword_of}
use Rattle.fabric_script.specs.Texts.{Value, Named, NodeValue, PortValue, Counted, Bytes, InDigits, Code, value_text, hex_text, digits_text}
use Rattle.fabric_script.specs.Known.{Known, IsOrderly}
use Rattle.fabric_script.specs.Hits.{FitsField, FitAll}
use Rattle.fabric_script.specs.LineTexts.{after_words}
use Rattle.fabric_script.proofs.Decimals.{decimal_has_digits}
use Rattle.fabric_script.proofs.LineLaws.{IsSmall, AreSmall}
use Rattle.fabric_script.proofs.Points.{Lacks, and_parts}

-- each byte is visible: no space, no line feed
abbrev pub is_visible : List ℕ → Bool
is_visible bytes = list_all (λ byte. nat_le 33 byte) bytes

pub visible_lacks : (c : ℕ) (bytes : List ℕ) → c < 33 → is_visible bytes ≡ true → Lacks c bytes
visible_lacks c [] low e = All-nil (λ byte. (byte == c) ≡ false)
visible_lacks c (b ∷ bytes) low e =
    let parts = and_parts (nat_le 33 b) (is_visible bytes) e in
    All-cons (λ byte. (byte == c) ≡ false) b bytes (differs b parts.0)
    (visible_lacks c bytes low parts.1)
  where
    differs : (b : ℕ) → nat_le 33 b ≡ true → (b == c) ≡ false
    differs b h = grind (arith, nat_tests)

visible_append : (a b : List ℕ) → is_visible a ≡ true → is_visible b ≡ true → is_visible (a ++ b)
    ≡ true
visible_append a b visible_a visible_b = list_all-append (λ byte. nat_le 33 byte) a b
    ∙ rw (visible_a, visible_b)

visible_digits : (ds : List ℕ) → all_ascii_digits ds ≡ true → is_visible ds ≡ true
visible_digits [] e = refl
visible_digits (d ∷ ds) e =
    let parts = and_parts (is_ascii_digit d) (all_ascii_digits ds) e in
    let here : nat_le 33 d ≡ true = high d parts.0 in
    rw (here, visible_digits ds parts.1)
  where
    high : (d : ℕ) → is_ascii_digit d ≡ true → nat_le 33 d ≡ true
    high d h = grind (arith, nat_tests, h)

visible_rest : (bytes : List ℕ) → are_letters_or_digits bytes ≡ true → is_visible bytes ≡ true
visible_rest [] e = refl
visible_rest (c ∷ bytes) e =
    let parts = and_parts (is_letter c || is_digit c) (are_letters_or_digits bytes) e in
    let here : nat_le 33 c ≡ true = high c parts.0 in
    rw (here, visible_rest bytes parts.1)
  where
    high : (c : ℕ) → is_letter c || is_digit c ≡ true → nat_le 33 c ≡ true
    high c h = grind (arith, nat_tests, h)

visible_name : (name : List ℕ) → is_name name ≡ true → is_visible name ≡ true
visible_name [] e = absurd cc
visible_name (c ∷ name) e =
    let parts = and_parts (is_letter c) _ e in
    let rest = and_parts _ (are_letters_or_digits name) parts.1 in
    let here : nat_le 33 c ≡ true = high c parts.0 in
    rw (here, visible_rest name rest.1)
  where
    high : (c : ℕ) → is_letter c ≡ true → nat_le 33 c ≡ true
    high c h = grind (arith, nat_tests, h)

visible_hex_digit : (n : ℕ) → nat_le 33 (hex_digit n) ≡ true
visible_hex_digit n = grind (arith, nat_tests)

visible_hex_of : (bytes : List ℕ) → is_visible (hex_of bytes) ≡ true
visible_hex_of [] = refl
visible_hex_of (b ∷ bytes) =
    rw (visible_hex_digit (b / 16), visible_hex_digit (b % 16), visible_hex_of bytes)

visible_hex_text : (bytes : List ℕ) → is_visible (hex_text bytes) ≡ true
visible_hex_text [] = refl
visible_hex_text (b ∷ bytes) = visible_hex_of (b ∷ bytes)

visible_digits_text : (count n : ℕ) → is_visible (digits_text count n) ≡ true
visible_digits_text zero n = refl
visible_digits_text (suc count) n = visible_append (digits_text count (n / 16))
    (hex_digit (n % 16) ∷ []) (visible_digits_text count (n / 16)) (rw (visible_hex_digit (n % 16)))

visible_char : (c : Char) → is_visible (char_text_of c) ≡ true
visible_char (Data byte) = visible_hex_of (byte ∷ [])
visible_char (Special byte) = visible_hex_of (byte ∷ [])
visible_char Invalid = refl

visible_value : (known : Known) (field : Field) (value : Value) → IsOrderly known → IsSmall field
    → FitsField known field value → is_visible (value_text known.names value) ≡ true
visible_value known NewName (Named name) orderly small f = visible_name name f.0
visible_value known Node (NodeValue n) orderly small f =
    visible_name (name_of known.names n) (orderly.named n f)
visible_value known Port (PortValue p) orderly small f =
    visible_append (name_of known.names p.node ++ codes ".") (decimal p.port)
    (visible_append (name_of known.names p.node) (codes ".")
    (visible_name (name_of known.names p.node) (orderly.named p.node f.0)) refl)
    (visible_digits (decimal p.port) (decimal_has_digits p.port (omega (arith, f.1))))
visible_value known (Number least most) (Counted n) orderly small f =
    visible_digits (decimal n) (decimal_has_digits n (omega (arith, f.1, small)))
visible_value known Hex (Bytes bytes) orderly small f = visible_hex_text bytes
visible_value known (Digits count) (InDigits shown n) orderly small f = visible_digits_text shown n
visible_value known Character (Code c) orderly small f = visible_char c
visible_value known NewName _ orderly small f = absurd f
visible_value known Node _ orderly small f = absurd f
visible_value known Port _ orderly small f = absurd f
visible_value known (Number least most) _ orderly small f = absurd f
visible_value known Hex _ orderly small f = absurd f
visible_value known (Digits count) _ orderly small f = absurd f
visible_value known Character _ orderly small f = absurd f

-- words of visible bytes
abbrev pub AreVisible : List (List ℕ) → Type 0
AreVisible [] = Unit {0}
AreVisible (word ∷ words) = (is_visible word ≡ true) × AreVisible words

pub visible_values : (known : Known) (fields : List Field) (values : List Value) → IsOrderly known
    → AreSmall fields → FitAll known fields values
    → AreVisible (map (value_text known.names) values)
visible_values known [] [] orderly small f = tt
visible_values known (field ∷ fields) (value ∷ values) orderly small f = (
  visible_value known field value orderly small.0 f.0,
  visible_values known fields values orderly
      small.1 f.1,
)
visible_values known [] (value ∷ values) orderly small f = absurd f
visible_values known (field ∷ fields) [] orderly small f = absurd f

pub visible_keyword : (form : Form) → is_visible (keyword_of form) ≡ true
visible_keyword F.Endpoint = refl
visible_keyword F.Switch = refl
visible_keyword F.Link = refl
visible_keyword F.Buffers = refl
visible_keyword F.Route = refl
visible_keyword F.Default = refl
visible_keyword F.Lock = refl
visible_keyword F.Large = refl
visible_keyword F.Credits = refl
visible_keyword F.Send = refl
visible_keyword F.Read = refl
visible_keyword F.Write = refl
visible_keyword F.Send16 = refl
visible_keyword F.Read16 = refl
visible_keyword F.Write16 = refl
visible_keyword F.Pump = refl
visible_keyword F.Deliver = refl
visible_keyword F.Alter = refl
visible_keyword F.Insert = refl
visible_keyword F.Erase = refl
visible_keyword F.Timeout = refl
visible_keyword F.Settle = refl
visible_keyword F.Move = refl
visible_keyword F.Collect = refl
visible_keyword F.Run = refl

-- ---- words, joined and cut

pub split_join : (word : List ℕ) (words : List (List ℕ)) → is_visible word ≡ true → AreVisible words
    → slice_split (λ byte. byte == 32) (join_with_byte 32 (word ∷ words)) ≡ word ∷ words
split_join word [] visible others = slice_split_none (λ byte. byte == 32) word
    (visible_lacks 32 word (omega arith) visible)
split_join word (next ∷ words) visible others =
    slice_split_at (λ byte. byte == 32) word 32 (join_with_byte 32 (next ∷ words))
    (visible_lacks 32 word (omega arith) visible) refl
    ∙ ap (λ ws. word ∷ ws) (split_join next words others.0 others.1)

-- joined words have no line feed
pub join_lacks : (word : List ℕ) (words : List (List ℕ)) → is_visible word ≡ true → AreVisible words
    → Lacks 10 (join_with_byte 32 (word ∷ words))
join_lacks word [] visible others = visible_lacks 10 word (omega arith) visible
join_lacks word (next ∷ words) visible others =
    All-append (λ byte. (byte == 10) ≡ false) word (32 ∷ join_with_byte 32 (next ∷ words))
    (visible_lacks 10 word (omega arith) visible)
    (All-cons (λ byte. (byte == 10) ≡ false) 32 (join_with_byte 32 (next ∷ words)) refl
    (join_lacks next words others.0 others.1))

-- ---- words that are put behind a text, a space before each

join-more : (a w : List ℕ) (words : List (List ℕ)) → join_with_byte 32 ((a ++ 32 ∷ w) ∷ words) ≡ a
    ++ 32 ∷ join_with_byte 32 (w ∷ words)
join-more a w [] = refl
join-more a w (next ∷ words) = append_assoc a (32 ∷ w) (32 ∷ join_with_byte 32 (next ∷ words))

pub after_words-join : (text word : List ℕ) (words : List (List ℕ))
    → after_words (text ++ word) words ≡ text ++ join_with_byte 32 (word ∷ words)
after_words-join text word [] = refl
after_words-join text word (w ∷ words) =
    ap (λ t. after_words t words) (append_assoc text word (32 ∷ w))
    ∙ after_words-join text (word ++ 32 ∷ w) words
    ∙ ap (λ t. text ++ t) (join-more word w words)

-- words behind a text are the text, and the words behind nothing
words_behind : (text : List ℕ) (words : List (List ℕ))
    → text ++ after_words [] words ≡ after_words text words
words_behind text words =
    ap (λ t. text ++ t) (after_words-join [] [] words) ∙ sym (after_words-join text [] words)
    ∙ ap (λ t. after_words t words) (append-nil text)

-- words behind words
words_on : (text : List ℕ) (first rest : List (List ℕ))
    → after_words (after_words text first) rest ≡ after_words text (first ++ rest)
words_on text [] rest = refl
words_on text (word ∷ first) rest = words_on (text ++ 32 ∷ word) first rest

pub after_words-append : (first rest : List (List ℕ))
    → after_words [] first ++ after_words [] rest ≡ after_words [] (first ++ rest)
after_words-append first rest = words_behind (after_words [] first) rest ∙ words_on [] first rest

-- a word and words behind it, a space before each, are the words joined by spaces
pub word_and_words : (word : List ℕ) (words : List (List ℕ))
    → word ++ after_words [] words ≡ join_with_byte 32 (word ∷ words)
word_and_words word words = words_behind word words ∙ after_words-join [] word words
