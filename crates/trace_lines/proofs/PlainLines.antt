-- Lines that are a keyword and values: all but event lines and undetected events. Their words are
-- visible, and say which line it is.
use Rattle.std.proofs.Common.{◌≡◌, ℕ, zero, suc, Bool, true, false, List, [], ◌∷◌, map, length, drop, Option, Some, slice_get, refl, sym, ap, ◌∙◌, subst, arith}
use Rattle.std.specs.List.{AllByRecursion}
use Rattle.std.proofs.lemmas.List.{length-map}
use Rattle.rio_chars.specs.declared.chars.Char.{Char}
use Rattle.rio_chars.specs.HexText.{hex_of}
use Rattle.rio_chars.specs.CharText.{char_text_of, HasByte}
use Rattle.rio_packets.specs.LinkForm.{Passes}
use Rattle.fabric_script.specs.declared.ports.PortRef.{PortRef}
use Rattle.fabric_script.specs.Names.{name_of}
use Rattle.fabric_script.specs.declared.fields.Field.{Field}
use Rattle.fabric_script.specs.declared.fields.Field.TheVariants.{Node, Port, Hex, Character}
use Rattle.fabric_script.specs.declared.values.Value.{Value}
use Rattle.fabric_script.specs.declared.values.Value.TheVariants.{Node as NodeValue, Port as PortValue, Bytes, Code}
use Rattle.fabric_script.specs.Texts.{value_text, hex_text, port_text}
use Rattle.fabric_script.specs.Known.{Known, IsOrderly}
use Rattle.fabric_script.specs.Hits.{FitsField, FitAll}
use Rattle.fabric_script.proofs.LineLaws.{AreSmall, same_values}
use Rattle.fabric_script.proofs.Joins.{AreVisible, visible_values}
use Rattle.fabric_model.specs.Steps.{Hold, Free, Take, Leave, Move, Drop, Answer, Linked, AtNode, ByDevice}
use Rattle.trace_lines.specs.Lines.{Full, Empty, Short, Early, NoStep, Sent, Got, Fired, TraceLine, Begun, Stepped, Signed, Lacked, Ended, Undetected}
use Rattle.trace_lines.specs.declared.keywords.Keyword.{Keyword}
use Rattle.trace_lines.specs.declared.keywords.Keyword.TheVariants as K
use Rattle.trace_lines.specs.Keywords.{trace_keyword_of, words_behind}
use Rattle.trace_lines.specs.Words.{LineFits}

-- ---- the values

abbrev pub values_of : TraceLine → List Value
values_of (Begun line) = []
values_of (Stepped (Linked (Hold q packet))) = PortValue q ∷ Bytes packet ∷ []
values_of (Stepped (Linked (Free q packet))) = PortValue q ∷ Bytes packet ∷ []
values_of (Stepped (AtNode (Take n packet))) = NodeValue n ∷ Bytes packet ∷ []
values_of (Stepped (AtNode (Leave n packet))) = NodeValue n ∷ Bytes packet ∷ []
values_of (Stepped (ByDevice (Move p q packet))) = PortValue p ∷ PortValue q ∷ Bytes packet ∷ []
values_of (Stepped (ByDevice (Drop p packet))) = PortValue p ∷ Bytes packet ∷ []
values_of (Stepped (ByDevice (Answer p packet response))) = PortValue p ∷ Bytes packet
    ∷ Bytes response ∷ []
values_of (Signed (Sent p chars)) = PortValue p ∷ map (λ c. Code c) chars
values_of (Signed (Got q chars)) = PortValue q ∷ map (λ c. Code c) chars
values_of (Signed (Fired p)) = PortValue p ∷ []
values_of (Lacked lack) = []
values_of Ended = []
values_of (Undetected number q e) = []

characters : ℕ → List Field
characters zero = []
characters (suc n) = Character ∷ characters n

with_port : ℕ → List Field
with_port zero = []
with_port (suc n) = Port ∷ characters n

-- by the keyword, and how many there are
abbrev fields_by : Keyword → ℕ → List Field
fields_by K.Hold n = Port ∷ Hex ∷ []
fields_by K.Free n = Port ∷ Hex ∷ []
fields_by K.Take n = Node ∷ Hex ∷ []
fields_by K.Leave n = Node ∷ Hex ∷ []
fields_by K.Move n = Port ∷ Port ∷ Hex ∷ []
fields_by K.Drop n = Port ∷ Hex ∷ []
fields_by K.Answer n = Port ∷ Hex ∷ Hex ∷ []
fields_by K.Sent n = with_port n
fields_by K.Got n = with_port n
fields_by K.Fire n = Port ∷ []
fields_by _ n = []

small_characters : (n : ℕ) → AreSmall (characters n)
unfolding characters
small_characters zero = tt
small_characters (suc n) = (tt, small_characters n)

small_with_port : (n : ℕ) → AreSmall (with_port n)
unfolding with_port
small_with_port zero = tt
small_with_port (suc n) = (tt, small_characters n)

small_by : (keyword : Keyword) (n : ℕ) → AreSmall (fields_by keyword n)
small_by K.Hold n = (tt, (tt, tt))
small_by K.Free n = (tt, (tt, tt))
small_by K.Take n = (tt, (tt, tt))
small_by K.Leave n = (tt, (tt, tt))
small_by K.Move n = (tt, (tt, (tt, tt)))
small_by K.Drop n = (tt, (tt, tt))
small_by K.Answer n = (tt, (tt, (tt, tt)))
small_by K.Sent n = small_with_port n
small_by K.Got n = small_with_port n
small_by K.Fire n = (tt, tt)
small_by K.Begun n = tt
small_by K.Full n = tt
small_by K.Empty n = tt
small_by K.Short n = tt
small_by K.Early n = tt
small_by K.NoStep n = tt
small_by K.End n = tt
small_by K.Undetected n = tt

-- ---- they fit

chars_fit : (known : Known) (chars : List Char) → AllByRecursion HasByte chars → FitAll known
    (characters (length (map (λ (c : Char). Code c) chars))) (map (λ c. Code c) chars)
unfolding characters
chars_fit known [] all = tt
chars_fit known (c ∷ chars) all = (all.0, chars_fit known chars all.1)

port_chars_fit : (known : Known) (p : PortRef) (chars : List Char)
    → FitsField known Port (PortValue p)
    → AllByRecursion HasByte chars → FitAll known (with_port
    (length (PortValue p ∷ map (λ (c : Char). Code c) chars))) (PortValue p
    ∷ map (λ c. Code c) chars)
unfolding with_port
port_chars_fit known p chars fits all = (fits, chars_fit known chars all)

fit : (known : Known) (line : TraceLine) → LineFits known line → FitAll known
    (fields_by (trace_keyword_of line) (length (values_of line))) (values_of line)
fit known (Begun line) f = tt
fit known (Stepped (Linked (Hold q packet))) f = (f.0.0, (f.1.range, tt))
fit known (Stepped (Linked (Free q packet))) f = (f.0.0, (f.1.range, tt))
fit known (Stepped (AtNode (Take n packet))) f = (f.0, (f.1.range, tt))
fit known (Stepped (AtNode (Leave n packet))) f = (f.0, (f.1.range, tt))
fit known (Stepped (ByDevice (Move p q packet))) f = (f.0, (f.1, (f.2.range, tt)))
fit known (Stepped (ByDevice (Drop p packet))) f = (f.0, (f.1.range, tt))
fit known (Stepped (ByDevice (Answer p packet response))) f = (f.0, (f.1.range, (f.2.range, tt)))
fit known (Signed (Sent p chars)) f = port_chars_fit known p chars f.0.0 f.2
fit known (Signed (Got q chars)) f = port_chars_fit known q chars f.0.0 f.2
fit known (Signed (Fired p)) f = (f.0, tt)
fit known (Lacked Full) f = tt
fit known (Lacked Empty) f = tt
fit known (Lacked Short) f = tt
fit known (Lacked Early) f = tt
fit known (Lacked NoStep) f = tt
fit known Ended f = tt
fit known (Undetected number q e) f = tt

-- ---- and their texts are the words

pub hex_is : (packet : List ℕ) → Passes packet → hex_text packet ≡ hex_of packet
hex_is [] passes = (let least = passes.least in absurd (omega (arith, least)))
hex_is (byte ∷ bytes) passes = refl

chars_are : (names : List (List ℕ)) (chars : List Char) → map (value_text names)
    (map (λ c. Code c) chars) ≡ map char_text_of chars
chars_are names [] = refl
chars_are names (c ∷ chars) = ap (λ (l : List (List ℕ)). char_text_of c ∷ l) (chars_are names chars)

abbrev pub is_plain : Keyword → Bool
is_plain K.Begun = false
is_plain K.Undetected = false
is_plain _ = true

texts : (known : Known) (line : TraceLine) → LineFits known line → is_plain (trace_keyword_of line)
    ≡ true → map (value_text known.names) (values_of line) ≡ words_behind known.names line
texts known (Begun line) f plain = absurd cc
texts known (Stepped (Linked (Hold q packet))) f plain = ap (λ w. port_text known.names q ∷ w ∷ [])
    (hex_is packet f.1)
texts known (Stepped (Linked (Free q packet))) f plain = ap (λ w. port_text known.names q ∷ w ∷ [])
    (hex_is packet f.1)
texts known (Stepped (AtNode (Take n packet))) f plain = ap (λ w. name_of known.names n ∷ w ∷ [])
    (hex_is packet f.1)
texts known (Stepped (AtNode (Leave n packet))) f plain = ap (λ w. name_of known.names n ∷ w ∷ [])
    (hex_is packet f.1)
texts known (Stepped (ByDevice (Move p q packet))) f plain = ap
    (λ w. port_text known.names p ∷ port_text known.names q ∷ w ∷ []) (hex_is packet f.2)
texts known (Stepped (ByDevice (Drop p packet))) f plain = ap
    (λ w. port_text known.names p ∷ w ∷ []) (hex_is packet f.1)
texts known (Stepped (ByDevice (Answer p packet response))) f plain =
    (λ i. port_text known.names p ∷ hex_is packet f.1 i ∷ hex_is response f.2 i ∷ [])
texts known (Signed (Sent p chars)) f plain = ap (λ (l : List (List ℕ)). port_text known.names p
    ∷ l) (chars_are known.names chars)
texts known (Signed (Got q chars)) f plain = ap (λ (l : List (List ℕ)). port_text known.names q
    ∷ l) (chars_are known.names chars)
texts known (Signed (Fired p)) f plain = refl
texts known (Lacked Full) f plain = refl
texts known (Lacked Empty) f plain = refl
texts known (Lacked Short) f plain = refl
texts known (Lacked Early) f plain = refl
texts known (Lacked NoStep) f plain = refl
texts known Ended f plain = refl
texts known (Undetected number q e) f plain = absurd cc

-- ---- a keyword and values make one line

abbrev pub node_in : Option Value → ℕ
node_in (Some (NodeValue n)) = n
node_in _ = 0

abbrev pub port_in : Option Value → PortRef
port_in (Some (PortValue p)) = p
port_in _ = record { node = 0; port = 0 }

abbrev pub bytes_in : Option Value → List ℕ
bytes_in (Some (Bytes bytes)) = bytes
bytes_in _ = []

abbrev pub chars_in : List Value → List Char
chars_in [] = []
chars_in (Code c ∷ values) = c ∷ chars_in values
chars_in (_ ∷ values) = chars_in values

abbrev pub made : Keyword → List Value → TraceLine
made K.Hold vs = Stepped (Linked (Hold (port_in (slice_get vs 0)) (bytes_in (slice_get vs 1))))
made K.Free vs = Stepped (Linked (Free (port_in (slice_get vs 0)) (bytes_in (slice_get vs 1))))
made K.Take vs = Stepped (AtNode (Take (node_in (slice_get vs 0)) (bytes_in (slice_get vs 1))))
made K.Leave vs = Stepped (AtNode (Leave (node_in (slice_get vs 0)) (bytes_in (slice_get vs 1))))
made K.Move vs = Stepped (ByDevice (Move (port_in (slice_get vs 0)) (port_in (slice_get vs 1))
    (bytes_in (slice_get vs 2))))
made K.Drop vs = Stepped (ByDevice (Drop (port_in (slice_get vs 0)) (bytes_in (slice_get vs 1))))
made K.Answer vs = Stepped (ByDevice (Answer (port_in (slice_get vs 0)) (bytes_in (slice_get vs 1))
    (bytes_in (slice_get vs 2))))
made K.Sent vs = Signed (Sent (port_in (slice_get vs 0)) (chars_in (drop 1 vs)))
made K.Got vs = Signed (Got (port_in (slice_get vs 0)) (chars_in (drop 1 vs)))
made K.Fire vs = Signed (Fired (port_in (slice_get vs 0)))
made K.Full vs = Lacked Full
made K.Empty vs = Lacked Empty
made K.Short vs = Lacked Short
made K.Early vs = Lacked Early
made K.NoStep vs = Lacked NoStep
made _ vs = Ended

chars_back : (chars : List Char) → chars_in (map (λ c. Code c) chars) ≡ chars
chars_back [] = refl
chars_back (c ∷ chars) = ap (λ (l : List Char). c ∷ l) (chars_back chars)

pub made_is : (line : TraceLine) → is_plain (trace_keyword_of line) ≡ true
    → made (trace_keyword_of line)
    (values_of line) ≡ line
made_is (Begun line) plain = absurd cc
made_is (Signed (Sent p chars)) plain = ap (λ (l : List Char). Signed (Sent p l)) (chars_back chars)
made_is (Signed (Got q chars)) plain = ap (λ (l : List Char). Signed (Got q l)) (chars_back chars)
made_is (Undetected number q e) plain = absurd cc
made_is (Stepped (Linked (Hold q packet))) plain = refl
made_is (Stepped (Linked (Free q packet))) plain = refl
made_is (Stepped (AtNode (Take n packet))) plain = refl
made_is (Stepped (AtNode (Leave n packet))) plain = refl
made_is (Stepped (ByDevice (Move p q packet))) plain = refl
made_is (Stepped (ByDevice (Drop p packet))) plain = refl
made_is (Stepped (ByDevice (Answer p packet response))) plain = refl
made_is (Signed (Fired p)) plain = refl
made_is (Lacked Full) plain = refl
made_is (Lacked Empty) plain = refl
made_is (Lacked Short) plain = refl
made_is (Lacked Early) plain = refl
made_is (Lacked NoStep) plain = refl
made_is Ended plain = refl

pub one_plain : (known : Known) (a b : TraceLine) → IsOrderly known → LineFits known a
    → LineFits known b → trace_keyword_of a ≡ trace_keyword_of b
    → is_plain (trace_keyword_of a) ≡ true
    → words_behind known.names a ≡ words_behind known.names b → a ≡ b
one_plain known a b orderly f g alike plain rest =
    let plain_b : is_plain (trace_keyword_of b) ≡ true = ap is_plain (sym alike) ∙ plain in
    let words : map (value_text known.names) (values_of a) ≡ map (value_text known.names)
    (values_of b) = texts known a f plain ∙ rest ∙ sym (texts known b g plain_b) in
    let count : length (values_of b) ≡ length (values_of a) = sym
    (length-map (values_of b) (value_text known.names)) ∙ ap length (sym words) ∙ length-map
    (values_of a) (value_text known.names) in
    let fields : fields_by (trace_keyword_of b) (length (values_of b))
    ≡ fields_by (trace_keyword_of a)
    (length (values_of a)) = (λ i. fields_by (sym alike i) (count i)) in
    let values = same_values known (fields_by (trace_keyword_of a) (length (values_of a)))
    (values_of a)
    (values_of b) orderly (small_by (trace_keyword_of a) (length (values_of a))) (fit known a f)
    (subst (λ (l : List Field). FitAll known l (values_of b)) fields (fit known b g)) words in
    sym (made_is a plain) ∙ (λ i. made (alike i) (values i)) ∙ made_is b plain_b

-- ---- and their words are visible

pub visible_plain : (known : Known) (line : TraceLine) → IsOrderly known → LineFits known line
    → is_plain (trace_keyword_of line) ≡ true → AreVisible (words_behind known.names line)
visible_plain known line orderly f plain =
    subst AreVisible (texts known line f plain) (visible_values known
    (fields_by (trace_keyword_of line) (length (values_of line))) (values_of line) orderly
    (small_by (trace_keyword_of line) (length (values_of line))) (fit known line f))
