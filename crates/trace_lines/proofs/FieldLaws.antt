-- What a word says: no other node, port, number, packet or character has the same text.
use Rattle.std.proofs.Common.{◌≡◌, ◌==◌, ℕ, ◌<◌, ◌≤◌, ◌/◌, ◌^◌, false, Option, Some, None, List, [], ◌∷◌, ◌++◌, map, length, get_or, refl, sym, ap, ◌∙◌, subst, arith}
use Rattle.std.specs.List.{AllByRecursion}
use Rattle.std.specs.Fmt.{decimal}
use Rattle.std.proofs.lemmas.List.Splits.{length-slice_split}
use Rattle.rio_chars.specs.CharText.{char_text_of, HasByte}
use Rattle.rio_chars.specs.HexText.{hex_of}
use Rattle.rio_chars.specs.declared.chars.Char.{Char}
use Rattle.rio_chars.proofs.HexLaws.{hex_of-injective}
use Rattle.rio_packets.specs.Carries.{at_origin, carried}
use Rattle.rio_packets.specs.LinkForm.{Passes}
use Rattle.rio_packets.proofs.CarriesLaws.{carries_from_Passes, carried-from_Carries}
use Rattle.fabric_script.specs.declared.ports.PortRef.{PortRef}
use Rattle.fabric_script.specs.declared.fields.Field.TheVariants.{Port}
use Rattle.fabric_script.specs.Known.{IsOrderly, Known, is_linked}
use Rattle.fabric_script.specs.Lines.{words_of}
use Rattle.fabric_script.specs.declared.values.Value.TheVariants.{Port as PortValue}
use Rattle.fabric_script.specs.Texts.{port_text}
use Rattle.fabric_script.proofs.LineLaws.{same_value}
use Rattle.trace_lines.specs.Words.{IsEnd, IsScriptPort}
use Rattle.trace_lines.proofs.OneLine.{one_number}
use Rattle.trace_lines.proofs.PlainLines.{port_in}

-- a text has a word
pub some_word : (text : List ℕ) → 1 ≤ length (words_of text)
some_word text = (let counted = length-slice_split (λ b. b == 32) text in omega (arith, counted))

-- ---- ports

-- a port without a link is no other that has one
pub no_end : (known : Known) (word : List ℕ) (p q : PortRef) → IsOrderly known
    → IsScriptPort known p → word ≡ port_text known.names p → is_linked known.links p ≡ false
    → IsEnd known q → word ≡ port_text known.names q → ⊥
no_end known word p q orderly f here unlinked end there =
    let same = same_value known Port (PortValue p) (PortValue q) orderly tt f end.0 (sym here
    ∙ there) in
    let port : p ≡ q = ap (λ value. port_in (Some value)) same in
    absurd (cc (ap (is_linked known.links) port, unlinked, end.1))

-- ---- packets

origin_is : (bytes : List ℕ) → Passes bytes → at_origin bytes ≡ bytes
origin_is [] passes = refl
origin_is (b ∷ bytes) passes =
    let low : b < 4 = passes.origin in
    ap (λ n. n ∷ bytes) (omega (arith, low))

-- a packet in link form carries itself
pub carries_itself : (bytes : List ℕ) → Passes bytes
    → carried bytes ≡ Some (get_or bytes 0 0 / 8, bytes)
carries_itself bytes passes =
    let same = origin_is bytes passes in
    let low = passes.origin in
    let carries = carries_from_Passes bytes (omega (arith, low)) (subst Passes (sym same) passes) in
    carried-from_Carries bytes (get_or bytes 0 0 / 8) (at_origin bytes) carries
    ∙ ap (λ (l : List ℕ). Some (get_or bytes 0 0 / 8, l)) same

-- bytes that carry no packet are no packet's
pub no_form : (bytes packet word : List ℕ) → carried bytes ≡ None → word ≡ hex_of bytes
    → Passes packet → word ≡ hex_of packet → ⊥
no_form bytes packet word none here passes there =
    let same = hex_of-injective bytes packet (sym here ∙ there) in
    let some = carries_itself bytes (subst Passes (sym same) passes) in
    absurd (cc (none, some))

abbrev packet_of : Option (ℕ × List ℕ) → List ℕ
packet_of None = []
packet_of (Some found) = found.1

-- bytes that carry another packet are no packet's
pub other_form : (bytes found packet word : List ℕ) (ack : ℕ) → carried bytes ≡ Some (ack, found)
    → (found ≡ bytes → ⊥) → word ≡ hex_of bytes → Passes packet → word ≡ hex_of packet → ⊥
other_form bytes found packet word ack some other here passes there =
    let same = hex_of-injective bytes packet (sym here ∙ there) in
    let own = carries_itself bytes (subst Passes (sym same) passes) in
    other (ap (λ (o : Option (ℕ × List ℕ)). packet_of o) (sym some ∙ own))

-- ---- numbers

-- a number that is not below a bound is no other that is
pub not_below : (word : List ℕ) (number bound n : ℕ) → number < 2 ^ 32 → bound ≤ 256
    → (number < bound → ⊥) → word ≡ decimal number → n < bound → word ≡ decimal n → ⊥
not_below word number bound n fits low high here less there =
    let same = one_number number n (2 ^ 32) fits (omega (arith, less, low)) (omega arith)
    (sym here ∙ there) in
    high (omega (arith, same, less))

-- ---- characters

-- characters whose texts these are have one with the text of the next word
char_in : (chars before : List Char) (word : List ℕ) (more : List (List ℕ))
    → AllByRecursion HasByte chars
    → map char_text_of before ++ word ∷ more ≡ map char_text_of chars
    → (c : Char) × HasByte c × (word ≡ char_text_of c)
char_in [] [] word more all is = absurd cc
char_in [] (x ∷ before) word more all is = absurd cc
char_in (c ∷ chars) [] word more all is = (c, all.0, cc)
char_in (c ∷ chars) (x ∷ before) word more all is = char_in chars before word more all.1 cc

-- words of which one is no character are no characters
pub no_chars : (before : List Char) (word : List ℕ) (more all : List (List ℕ))
    → ((c : Char) → HasByte c → word ≡ char_text_of c → ⊥)
    → map char_text_of before ++ word ∷ more ≡ all
    → (chars : List Char) → AllByRecursion HasByte chars → all ≡ map char_text_of chars → ⊥
no_chars before word more all none is chars bytes words =
    let found = char_in chars before word more bytes (is ∙ words) in
    none found.0 found.1 found.2
