-- A text says one line at most.
use Rattle.std.proofs.Common.{◌≡◌, ℕ, ◌+◌, ◌<◌, ◌^◌, ◌==◌, ◌/◌, ◌%◌, suc, cond, List, [], ◌∷◌, map, sum, length, get_or, refl, sym, ap, ap₂, ◌∙◌, subst, inl, inr, arith, rules}
use Rattle.std.proofs.lemmas.Fmt.{decimal_injective}
use Rattle.rio_chars.specs.declared.chars.Char.{Char}
use Rattle.rio_chars.specs.declared.chars.Char.TheVariants.{Data, Special, Invalid}
use Rattle.rio_chars.specs.HexText.{hex_digit}
use Rattle.rio_chars.specs.CharText.{char_text_of, HasByte}
use Rattle.fabric_script.specs.declared.ports.PortRef.{PortRef}
use Rattle.fabric_script.specs.declared.forms.Form.{Form}
use Rattle.fabric_script.specs.declared.forms.Form.TheVariants as F
use Rattle.fabric_script.specs.declared.reasons.Reason.{Reason}
use Rattle.fabric_script.specs.declared.lines.Line.{Line}
use Rattle.fabric_script.specs.declared.lines.Line.TheVariants.{Endpoint, Switch}
use Rattle.fabric_script.specs.Names.{name_of}
use Rattle.fabric_script.specs.Forms.{Field, NewName, Node, Port, Number, Hex, Digits, Character, keyword_of, fields_of}
use Rattle.fabric_script.specs.Texts.{Value, Named, NodeValue, PortValue, Counted, Bytes, InDigits, Code, value_text, digits_text}
use Rattle.fabric_script.specs.Lines.{form_of, values_of, line_words}
use Rattle.fabric_script.specs.Known.{Known, IsOrderly}
use Rattle.fabric_script.specs.Hits.{FitsField, FitAll, HitsOne}
use Rattle.fabric_script.specs.LineWords.{NodeIsNext, line_saying}
use Rattle.fabric_script.specs.Reading.{Says, MayBe}
use Rattle.rio_chars.proofs.HexLaws.{hex_digit-injective}
use Rattle.fabric_script.proofs.HexWords.{hex_text-injective}
use Rattle.fabric_script.proofs.DigitWords.{digits_text-injective}
use Rattle.fabric_script.proofs.Points.{same_port_text}
use Rattle.fabric_script.proofs.Exclusion.{no_hit}

-- ---- a keyword has one form

abbrev pub all_forms : List Form
all_forms = F.Endpoint ∷ F.Switch ∷ F.Link ∷ F.Buffers ∷ F.Route ∷ F.Default ∷ F.Lock ∷ F.Large
    ∷ F.Credits ∷ F.Send ∷ F.Read ∷ F.Write ∷ F.Send16 ∷ F.Read16 ∷ F.Write16 ∷ F.Pump ∷ F.Deliver
    ∷ F.Alter ∷ F.Insert ∷ F.Erase ∷ F.Timeout ∷ F.Settle ∷ F.Move ∷ F.Collect ∷ F.Run ∷ []

-- the first form whose keyword has this sum of its bytes and its length; no two have the same
abbrev sum_of : List ℕ → ℕ
sum_of word = sum word + length word

form_with_sum : ℕ → List Form → Form
form_with_sum n [] = F.Run
form_with_sum n (form ∷ forms) = cond (sum_of (keyword_of form) == n) form (form_with_sum n forms)

form_with_sum-keyword : (form : Form) → form_with_sum (sum_of (keyword_of form)) all_forms ≡ form
unfolding form_with_sum
form_with_sum-keyword F.Run = refl
form_with_sum-keyword _ = refl

pub keyword-injective : (a b : Form) → keyword_of a ≡ keyword_of b → a ≡ b
keyword-injective a b e = sym (form_with_sum-keyword a)
    ∙ ap (λ w. form_with_sum (sum_of w) all_forms) e ∙ form_with_sum-keyword b

-- ---- a word says one value

byte_of_digits : (a b : ℕ) → a < 256 → b < 256 → hex_digit (a / 16) ≡ hex_digit (b / 16)
    → hex_digit (a % 16) ≡ hex_digit (b % 16) → a ≡ b
byte_of_digits a b below_a below_b high low =
    let h = hex_digit-injective (a / 16) (b / 16) high in
    let l = hex_digit-injective (a % 16) (b % 16) low in
    omega arith

char_text-injective : (c d : Char) → HasByte c → HasByte d → char_text_of c ≡ char_text_of d → c ≡ d
char_text-injective (Data a) (Data b) has has' e =
    let high : hex_digit (a / 16) ≡ hex_digit (b / 16) = cc in
    let low : hex_digit (a % 16) ≡ hex_digit (b % 16) = cc in
    ap {A = ℕ} {B = Char} (λ n. Data n) (byte_of_digits a b has has' high low)
char_text-injective (Data a) (Special b) has has' e =
    let first : 100 ≡ 107 = ap {A = List ℕ} {B = ℕ} (λ t. get_or t 0 0) e
    in
    absurd (omega (arith, first))
char_text-injective (Data a) Invalid has has' e =
    let first : 100 ≡ 105 = ap {A = List ℕ} {B = ℕ} (λ t. get_or t 0 0) e
    in
    absurd (omega (arith, first))
char_text-injective (Special a) (Data b) has has' e =
    let first : 107 ≡ 100 = ap {A = List ℕ} {B = ℕ} (λ t. get_or t 0 0) e
    in
    absurd (omega (arith, first))
char_text-injective (Special a) (Special b) has has' e =
    let high : hex_digit (a / 16) ≡ hex_digit (b / 16) = cc in
    let low : hex_digit (a % 16) ≡ hex_digit (b % 16) = cc in
    ap {A = ℕ} {B = Char} (λ n. Special n) (byte_of_digits a b has has' high low)
char_text-injective (Special a) Invalid has has' e =
    let first : 107 ≡ 105 = ap {A = List ℕ} {B = ℕ} (λ t. get_or t 0 0) e
    in
    absurd (omega (arith, first))
char_text-injective Invalid (Data b) has has' e =
    let first : 105 ≡ 100 = ap {A = List ℕ} {B = ℕ} (λ t. get_or t 0 0) e
    in
    absurd (omega (arith, first))
char_text-injective Invalid (Special b) has has' e =
    let first : 105 ≡ 107 = ap {A = List ℕ} {B = ℕ} (λ t. get_or t 0 0) e
    in
    absurd (omega (arith, first))
char_text-injective Invalid Invalid has has' e = refl

-- the numbers of a range have their own texts
abbrev pub IsSmall : Field → Type 0
IsSmall (Number least most) = most < 2 ^ 32
IsSmall _ = Unit {0}

abbrev pub AreSmall : List Field → Type 0
AreSmall [] = Unit {0}
AreSmall (field ∷ fields) = IsSmall field × AreSmall fields

pub small_fields : (form : Form) → AreSmall (fields_of form)
small_fields F.Run = search rules
small_fields _ = search rules

pub same_value : (known : Known) (field : Field) (v w : Value) → IsOrderly known → IsSmall field
    → FitsField known field v → FitsField known field w
    → value_text known.names v ≡ value_text known.names w
    → v ≡ w
same_value known NewName (Named a) (Named b) orderly small f g e = ap (λ n. Named n) e
same_value known Node (NodeValue m) (NodeValue n) orderly small f g e =
    ap (λ n. NodeValue n) (orderly.apart m n f g e)
same_value known Port (PortValue p) (PortValue q) orderly small f g e =
    let same = same_port_text (name_of known.names p.node) (name_of known.names q.node) p.port
    q.port (orderly.named p.node f.0) (orderly.named q.node g.0) f.1 g.1 e in
    let node : p.node ≡ q.node = orderly.apart p.node q.node f.0 g.0 same.0 in
    let port : p ≡ q = ap₂ {A = ℕ} {B = ℕ} {C = PortRef} (λ n k. record { node = n; port = k }) node
    same.1 in
    ap (λ p. PortValue p) port
same_value known (Number least most) (Counted m) (Counted n) orderly small f g e =
    ap (λ n. Counted n) (decimal_injective m n (omega arith) (omega arith) e)
same_value known Hex (Bytes a) (Bytes b) orderly small f g e =
    ap (λ n. Bytes n) (hex_text-injective a b e)
same_value known (Digits count) (InDigits k m) (InDigits l n) orderly small f g e =
    let count_too : k ≡ l = f.0 ∙ sym g.0 in
    let same : m ≡ n =
    digits_text-injective count m n f.1 g.1
    (ap (λ c. digits_text c m) (sym f.0) ∙ e ∙ ap (λ c. digits_text c n) g.0) in
    ap₂ (λ k n. InDigits k n) count_too same
same_value known Character (Code c) (Code d) orderly small f g e =
    ap (λ n. Code n) (char_text-injective c d f g e)
same_value known _ _ _ orderly small f g e = grind arith

pub same_values : (known : Known) (fields : List Field) (vs ws : List Value) → IsOrderly known
    → AreSmall fields → FitAll known fields vs → FitAll known fields ws
    → map (value_text known.names) vs ≡ map (value_text known.names) ws → vs ≡ ws
same_values known [] [] [] orderly small f g e = refl
same_values known (field ∷ fields) (v ∷ vs) (w ∷ ws) orderly small f g e =
    let here : value_text known.names v ≡ value_text known.names w = cc in
    let there : map (value_text known.names) vs ≡ map (value_text known.names) ws = cc in
    ap₂ ◌∷◌ (same_value known field v w orderly small.0 f.0 g.0 here)
    (same_values known fields vs ws orderly small.1 f.1 g.1 there)
same_values known [] [] (w ∷ ws) orderly small f g e = absurd g
same_values known [] (v ∷ vs) ws orderly small f g e = absurd f
same_values known (field ∷ fields) [] ws orderly small f g e = absurd f
same_values known (field ∷ fields) (v ∷ vs) [] orderly small f g e = absurd g

-- as many values as kinds
pub length-fit : (known : Known) (fields : List Field) (values : List Value)
    → FitAll known fields values → length values ≡ length fields
length-fit known [] [] f = refl
length-fit known (field ∷ fields) (value ∷ values) f = ap suc (length-fit known fields values f.1)
length-fit known [] (value ∷ values) f = absurd f
length-fit known (field ∷ fields) [] f = absurd f

-- no reason hits a word that may be said
pub no_hit_one : (known : Known) (fields : List Field) (values : List Value) (reason : Reason)
    → IsOrderly known → FitAll known fields values
    → HitsOne known reason fields (map (value_text known.names) values) → ⊥
no_hit_one known [] [] reason orderly f h = h
no_hit_one known (field ∷ fields) (value ∷ values) reason orderly f h = elim h [
  | inl here ↦ no_hit known field value (value_text known.names value) reason orderly f.0 refl here
  | inr there ↦ no_hit_one known fields values reason orderly f.1 there
]
no_hit_one known [] (value ∷ values) reason orderly f h = absurd f
no_hit_one known (field ∷ fields) [] reason orderly f h = absurd f

-- ---- values and a form make one line

line_saying-line : (known : Known) (new : List ℕ) (line : Line) → NodeIsNext known line
    → line_saying (form_of line) (length known.names) (values_of new line) ≡ line
line_saying-line known new (Endpoint name id) next = ap (λ n. Endpoint n id) (sym next)
line_saying-line known new (Switch name ports) next = ap (λ n. Switch n ports) (sym next)
line_saying-line known new _ next = refl

-- lines of one form and with the same words are one
pub same_said : (known : Known) (a b : Line) (new new' : List ℕ) → IsOrderly known
    → MayBe known new a → MayBe known new' b → line_words known.names new a
    ≡ line_words known.names new' b → a ≡ b
same_said known a b new new' orderly may_a may_b e =
    let form : form_of a ≡ form_of b = keyword-injective (form_of a) (form_of b) cc in
    let texts : map (value_text known.names) (values_of new a)
    ≡ map (value_text known.names) (values_of new' b) = cc in
    let fit : FitAll known (fields_of (form_of a)) (values_of new' b) =
    subst (λ f. FitAll known (fields_of f) (values_of new' b)) (sym form) may_b.fit in
    let values = same_values known (fields_of (form_of a)) (values_of new a) (values_of new' b)
    orderly (small_fields (form_of a)) may_a.fit fit texts in
    sym (line_saying-line known new a may_a.next) ∙ ap₂ (λ f vs. line_saying f (length known.names) vs) form
    values ∙ line_saying-line known new' b may_b.next

pub same_line : (known : Known) (text : List ℕ) (a b : Line) → IsOrderly known → Says known text a
    → Says known text b → a ≡ b
same_line known text a b orderly says_a says_b = same_said known a b _ _ orderly says_a.may
    says_b.may (sym says_a.words ∙ says_b.words)
