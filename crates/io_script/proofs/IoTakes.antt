-- What a reader of one word finds is taken, or noted.
use Rattle.std.proofs.Common.{◌≡◌, ◌≢◌, ℕ, zero, suc, ◌<◌, Bool, true, false, List, [], ◌∷◌, All, length, slice_index_or, Option, Result, Ok, Err, MatchResult, unwrap_or, if◌then◌else◌, inl, inr, refl, sym, ap, ◌∙◌, subst}
use Rattle.fabric_script.specs.declared.known.Node.{Node}
use Rattle.fabric_script.specs.declared.reasons.Reason.TheVariants.{BadHex, BadLength}
use Rattle.fabric_script.specs.Hits.{HexIsBad}
use Rattle.fabric_script.specs.Known.{is_known_switch, Known}
use Rattle.fabric_script.specs.Names.{name_of}
use Rattle.fabric_script.specs.declared.values.Value.{Value}
use Rattle.fabric_script.specs.declared.values.Value.TheVariants.{Bytes}
use Rattle.fabric_script.specs.Texts.{hex_text, value_text}
use Rattle.io_packets.specs.Forms.{is_size, is_stream_size}
use Rattle.io_script.specs.declared.reasons.IoReason.{IoReason}
use Rattle.io_script.specs.declared.reasons.IoReason.TheVariants.{OfScript}
use Rattle.io_script.specs.IoForms.{IoField}
use Rattle.io_script.specs.IoTaking.{data_field, io_noted_by, io_ok_of, switches_among, TakesIo}
use Rattle.io_script.specs.IoWords.{FitsIo, HitsIoWord, IsMisspelledIo, IsWrong}

-- a reader that answers what its word says, or a stand-in, takes the word
pub takes_io : {T : Type 0} (known : Known) (field : IoField) (value : T → Value) (stand_in : T)
    (word : List ℕ) (hit hit_after : Option IoReason) (read : Result T IoReason)
    (answer : Option T) (result : T)
    → MatchResult read
    (λ v. FitsIo known field (value v) × (word ≡ value_text known.names (value v)))
    (λ reason. HitsIoWord known reason field word)
    → hit_after ≡ io_noted_by hit read → answer ≡ io_ok_of read
    → result ≡ unwrap_or answer stand_in → TakesIo known field (value result) word hit hit_after
takes_io known field value stand_in word hit hit_after (Ok v) answer result reads noted is got =
    let same : v ≡ result = sym (got ∙ ap (λ a. unwrap_or a stand_in) is) in
    subst (λ r. TakesIo known field (value r) word hit hit_after) same
    (inl (reads.0, reads.1, noted))
takes_io known field value stand_in word hit hit_after (Err reason) answer result reads noted is
    got =
    inr (reason, reads, noted)

-- ---- nodes

switch_in : (nodes : List Node) (n : ℕ)
    → slice_index_or (switches_among nodes) n false ≡ is_known_switch nodes n
switch_in [] n = refl
switch_in (node ∷ nodes) zero = refl
switch_in (node ∷ nodes) (suc n) = switch_in nodes n

-- whether a node is a switch is what was kept
pub switch_at : {b : Bool} (known : Known) (switches : List Bool) (n : ℕ)
    → switches ≡ switches_among known.nodes → slice_index_or switches n false ≡ b
    → is_known_switch known.nodes n ≡ b
switch_at known switches n same is =
    sym (switch_in known.nodes n) ∙ ap (λ s. slice_index_or s n false) (sym same) ∙ is

-- the name of a node is what was kept
pub named_at : (known : Known) (names : List (List ℕ)) (n : ℕ) (word : List ℕ)
    → names ≡ known.names → (n < length names) × (name_of names n ≡ word)
    → (n < length known.names) × (word ≡ name_of known.names n)
named_at known names n word same found = (
  subst (λ l. n < length l) same found.0,
  sym found.1 ∙ ap (λ l. name_of l n) same,
)

-- ---- data

pub data_misspelled : (known : Known) (stream : Bool) (word : List ℕ)
    → ((bytes : List ℕ) → All (λ byte. byte < 256) bytes → word ≢ hex_text bytes)
    → HitsIoWord known (OfScript BadHex) (data_field stream) word
data_misspelled known true word none = IsMisspelledIo (HexIsBad none)
data_misspelled known false word none = IsMisspelledIo (HexIsBad none)

-- whether a write may have so many bytes
abbrev pub fits_by : Bool → ℕ → Bool
fits_by stream count = if stream then is_stream_size count else is_size count

pub data_fits : (known : Known) (stream : Bool) (word bytes : List ℕ)
    → All (λ byte. byte < 256) bytes × (word ≡ hex_text bytes)
    → fits_by stream (length bytes) ≡ true
    → FitsIo known (data_field stream) (Bytes bytes) × (word ≡ hex_text bytes)
data_fits known true word bytes read right = ((read.0, right), read.1)
data_fits known false word bytes read right = ((read.0, right), read.1)

pub data_wrong : (known : Known) (stream : Bool) (word bytes : List ℕ)
    → All (λ byte. byte < 256) bytes × (word ≡ hex_text bytes)
    → fits_by stream (length bytes) ≡ false
    → HitsIoWord known (OfScript BadLength) (data_field stream) word
data_wrong known true word bytes read wrong = IsWrong (Bytes bytes) read.0 read.1 wrong refl
data_wrong known false word bytes read wrong = IsWrong (Bytes bytes) read.0 read.1 wrong refl
