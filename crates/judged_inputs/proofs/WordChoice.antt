-- A word is the text of one thing of a kind, or of none.
use Rattle.judged_inputs.proofs.Prelude.{◌≡◌, ℕ, ◌<◌, true, List, [], ◌∷◌, length, refl, sym, ◌∙◌, subst, inl, inr, arith, decimal, hex_of, char_text_of, HasByte, Passes, PortRef, name_of, port_text, hex_text, Known, IsOrderly, is_linked, no_hit, IsScriptPort, IsEnd, IsNode, Decided, same_or_not, first_or_none}
use Rattle.rio_packets.specs.Carries.{passes}
use Rattle.rio_packets.proofs.CarriesLaws.{decides_passes}
use Rattle.fabric_script.specs.declared.fields.Field.TheVariants.{Port, Hex, Character}
use Rattle.fabric_script.specs.declared.values.Value.TheVariants.{Port as PortValue, Bytes, Code}
use Rattle.fabric_script.proofs.HexWords.{hex_text-injective}
use Rattle.fabric_script.proofs.LineLaws.{same_value}
use Rattle.script_law.proofs.PortWords.{port_or_hit}
use Rattle.script_law.proofs.HexWords.{hex_or_hit, character_or_hit}
use Rattle.judged_inputs.proofs.Choices.{by_test, true_or_not}

-- the word is the text of one that fits
abbrev pub SaysOne : {A : Type 0} → (A → List ℕ) → (A → Type 0) → List ℕ → Type 0
SaysOne {A} text Fits word = (a : A) × (word ≡ text a) × Fits a

-- what is below a bound
counted_or_none : (text : ℕ → List ℕ) (bound : ℕ) (word : List ℕ)
    → Decided (SaysOne text (λ n. n < bound) word)
counted_or_none text bound word = elim (first_or_none (λ n. word ≡ text n)
    (λ n. same_or_not word (text n)) bound) [
      | inl found ↦ inl (found.n, found.is, found.below)
      | inr none ↦ inr (λ says. none says.0 says.2 says.1)
    ]

pub number_word : (bound : ℕ) (word : List ℕ) → Decided (SaysOne decimal (λ n. n < bound) word)
number_word bound word = counted_or_none decimal bound word

pub node_word : (known : Known) (word : List ℕ)
    → Decided (SaysOne (name_of known.names) (IsNode known) word)
node_word known word = counted_or_none (name_of known.names) (length known.names) word

pub port_word : (known : Known) → IsOrderly known → (word : List ℕ)
    → Decided (SaysOne (port_text known.names) (IsScriptPort known) word)
port_word known orderly word = elim (port_or_hit known word) [
  | inl says ↦ inl (says.0, says.2, says.1)
  | inr hit ↦ inr (λ says.
      no_hit known Port (PortValue says.0) word hit.0 orderly says.2 says.1 hit.1)
]

pub end_word : (known : Known) → IsOrderly known → (word : List ℕ)
    → Decided (SaysOne (port_text known.names) (IsEnd known) word)
end_word known orderly word = elim (port_word known orderly word) [
  | inl says ↦ elim (true_or_not (is_linked known.links says.0)) [
    | inl linked ↦ inl (says.0, says.1, (says.2, linked))
    | inr free ↦ inr (λ other.
        let same : PortValue other.0 ≡ PortValue says.0 =
        same_value known Port (PortValue other.0) (PortValue says.0) orderly tt other.2.0 says.2
        (sym other.1 ∙ says.1) in
        let is : other.0 ≡ says.0 = cc in
        free (subst (λ (p : PortRef). is_linked known.links p ≡ true) is other.2.1))
  ]
  | inr none ↦ inr (λ other. none (other.0, other.1, other.2.0))
]

-- a packet has bytes, so it is not written as a hyphen
as_hex : (packet : List ℕ) → Passes packet → hex_text packet ≡ hex_of packet
as_hex [] is =
    let least = is.least in
    absurd (omega arith)
as_hex (byte ∷ bytes) is = refl

pub passes_or_not : (packet : List ℕ) → Decided (Passes packet)
passes_or_not packet = by_test (passes packet) (decides_passes packet)

pub packet_word : (known : Known) → IsOrderly known → (word : List ℕ)
    → Decided (SaysOne hex_of Passes word)
packet_word known orderly word = elim (hex_or_hit known word) [
  | inl says ↦ elim (passes_or_not says.0) [
    | inl is ↦ inl (says.0, says.2 ∙ as_hex says.0 is, is)
    | inr fails ↦ inr (λ other. fails (subst Passes
        (hex_text-injective other.0 says.0
        (as_hex other.0 other.2 ∙ sym other.1 ∙ says.2)) other.2))
  ]
  | inr hit ↦ inr (λ other. no_hit known Hex (Bytes other.0) word hit.0 orderly other.2.range
      (other.1 ∙ sym (as_hex other.0 other.2)) hit.1)
]

pub char_word : (known : Known) → IsOrderly known → (word : List ℕ)
    → Decided (SaysOne char_text_of HasByte word)
char_word known orderly word = elim (character_or_hit known word) [
  | inl says ↦ inl (says.0, says.2, says.1)
  | inr hit ↦ inr (λ says.
      no_hit known Character (Code says.0) word hit.0 orderly says.2 says.1 hit.1)
]
