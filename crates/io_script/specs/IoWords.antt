-- Which words each kind of word may be, and which reason hits the others.
use Rattle.std.specs.Prelude.{◌≡◌, ℕ, ◌%◌, Bool, true, false, ◌==◌, not, ◌⊎◌, List, [], ◌∷◌, length}
use Rattle.fabric_script.specs.declared.reasons.Reason.{Reason}
use Rattle.fabric_script.specs.declared.reasons.Reason.TheVariants.{BadNumber, BadLength, WrongKind}
use Rattle.fabric_script.specs.declared.fields.Field.{Field}
use Rattle.fabric_script.specs.declared.fields.Field.TheVariants.{Node, Number, Hex, Digits}
use Rattle.fabric_script.specs.Hits.{FitsField, Hits}
use Rattle.fabric_script.specs.Known.{Known, is_known_switch}
use Rattle.fabric_script.specs.declared.values.Value.{Value}
use Rattle.fabric_script.specs.declared.values.Value.TheVariants.{Node as NodeValue, Counted, Bytes, InDigits}
use Rattle.fabric_script.specs.Texts.{value_text}
use Rattle.io_packets.specs.Forms.{is_size, is_stream_size}
use Rattle.io_script.specs.declared.reasons.IoReason.{IoReason}
use Rattle.io_script.specs.declared.reasons.IoReason.TheVariants.{OfScript, Misaligned}
use Rattle.io_script.specs.IoForms.{IoField, AnEndpoint, DeviceNumber, MemorySize, ReadSize, Address, Data, StreamData}

-- how a word is spelled, by the kinds of words of all scripts
abbrev pub spelling_of : IoField → Field
spelling_of AnEndpoint = Node
spelling_of DeviceNumber = Number 0 255
spelling_of MemorySize = Number 8 65536
spelling_of ReadSize = Number 8 64
spelling_of Address = Digits 8
spelling_of Data = Hex
spelling_of StreamData = Hex

-- What a word that is spelled so has to be besides: a node is no switch; a memory has whole
-- double-words, and an address begins one; the sizes are those of this project's profile.
abbrev pub is_right : Known → IoField → Value → Bool
is_right known AnEndpoint (NodeValue n) = not (is_known_switch known.nodes n)
is_right known DeviceNumber (Counted n) = true
is_right known MemorySize (Counted n) = n % 8 == 0
is_right known ReadSize (Counted n) = is_size n
is_right known Address (InDigits shown n) = n % 8 == 0
is_right known Data (Bytes bytes) = is_size (length bytes)
is_right known StreamData (Bytes bytes) = is_stream_size (length bytes)
is_right known _ _ = false

-- the reason that hits a word that is not: 11, a switch; 2, another size; 17, an address that
-- begins no double-word; 10, data of another length
abbrev pub wrong_reason : IoField → IoReason
wrong_reason AnEndpoint = OfScript WrongKind
wrong_reason Address = Misaligned
wrong_reason Data = OfScript BadLength
wrong_reason StreamData = OfScript BadLength
wrong_reason _ = OfScript BadNumber

-- what a kind of word may say
abbrev pub FitsIo : Known → IoField → Value → Type 0
FitsIo known field value =
    FitsField known (spelling_of field) value × (is_right known field value ≡ true)

-- A reason hits a word of a kind: the word is misspelled, or what it says is not right.
pub data HitsIoWord (known : Known) : IoReason → IoField → List ℕ → Type 0 where
  IsMisspelledIo : {reason : Reason} {field : IoField} {word : List ℕ}
      → Hits known reason (spelling_of field) word → HitsIoWord known (OfScript reason) field word
  IsWrong : {reason : IoReason} {field : IoField} {word : List ℕ} (value : Value)
      → FitsField known (spelling_of field) value → word ≡ value_text known.names value
      → is_right known field value ≡ false → reason ≡ wrong_reason field
      → HitsIoWord known reason field word

-- the reason hits one of these words
abbrev pub HitsIoOne : Known → IoReason → List IoField → List (List ℕ) → Type 0
HitsIoOne known reason (field ∷ fields) (word ∷ words) =
    HitsIoWord known reason field word ⊎ HitsIoOne known reason fields words
HitsIoOne known reason _ _ = ⊥

-- each value may be said by a word of its kind
abbrev pub FitIoAll : Known → List IoField → List Value → Type 0
FitIoAll known [] [] = Unit {0}
FitIoAll known (field ∷ fields) (value ∷ values) =
    FitsIo known field value × FitIoAll known fields values
FitIoAll known _ _ = ⊥
