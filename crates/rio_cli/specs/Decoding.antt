-- What `decode` reads and writes: characters as words, and the lines of their reading.
use Rattle.std.specs.Prelude.{◌≡◌, ◌↔◌, ℕ, ◌+◌, ◌==◌, Bool, true, false, List, [], ◌∷◌, ◌++◌, length, Option, codes}
use Rattle.std.specs.List.{filter, flat_map, slice_split}
use Rattle.rio_chars.specs.Lines.{text_lines}
use Rattle.std.specs.Fmt.{decimal}
use Rattle.std.specs.Io.KnownBytes.{Appends}
use Rattle.host_enumerate.specs.MapTexts.{spaced}
use Rattle.rio_chars.specs.CharText.{char_text_of, HasByte}
use Rattle.rio_chars.specs.Fronts.{AppendsFront}
use Rattle.rio_chars.specs.declared.chars.Char.{Char}
use Rattle.rio_packets.specs.CauseNumbers.{number_of}
use Rattle.rio_packets.specs.declared.cause.Cause.{Cause}
use Rattle.link_model.specs.declared.event.Event.{Event}
use Rattle.link_model.specs.declared.event.Event.TheVariants.{Ctl, Pkt, Bad}
use Rattle.link_model.specs.Reading.{Reads, Plain, IsReading, IsCut}
use Rattle.trace_lines.specs.Text.{event_text}

-- what stands between two spaces that follow each other is no word
abbrev pub is_word : List ℕ → Bool
is_word [] = false
is_word (byte ∷ bytes) = true

-- the words of a line, which spaces part
abbrev pub words_in_line : List ℕ → List (List ℕ)
words_in_line line = filter is_word (slice_split (λ byte. byte == 32) line)

-- the word that stands between two spaces, if any does
abbrev pub word_in : List ℕ → List (List ℕ)
word_in text = filter is_word (text ∷ [])

-- the words of the input, which spaces and line feeds part
abbrev pub words_of_input : List ℕ → List (List ℕ)
words_of_input bytes = flat_map words_in_line (text_lines bytes)

-- the words are the texts of these characters, one after another
abbrev pub AreTexts : List (List ℕ) → List Char → Type 0
AreTexts [] [] = Unit {0}
AreTexts [] (c ∷ chars) = ⊥
AreTexts (word ∷ words) [] = ⊥
AreTexts (word ∷ words) (c ∷ chars) = HasByte c × (word ≡ char_text_of c) × AreTexts words chars

-- each of the words is the text of a character
abbrev pub AreSpelled : List (List ℕ) → Type 0
AreSpelled words = (chars : List Char) × AreTexts words chars

-- the words of the bytes are the texts of these characters
abbrev pub SpellsChars : List ℕ → List Char → Type 0
SpellsChars bytes chars = AreTexts (words_of_input bytes) chars

-- this line, counted from 1, is the first that has a word which is no character
pub record BadWordAt (bytes : List ℕ) (line : ℕ) : Type 0 where
  pub before : List (List ℕ)
  pub text : List ℕ
  pub behind : List (List ℕ)
  pub split : text_lines bytes ≡ before ++ text ∷ behind
  pub spelled : AreSpelled (flat_map words_in_line before)
  pub bad : ¬ AreSpelled (words_in_line text)
  pub place : line ≡ length before + 1

-- the line of what is neither, behind its place: its cause
abbrev pub bad_text : Cause → List ℕ
bad_text cause = codes " bad" ++ spaced (number_of cause) ++ codes "\n"

-- the line of an event, behind its place: a symbol and a packet have the texts that they have in a
-- trace
abbrev pub event_told_text : Event → List ℕ
event_told_text (Ctl symbol) = codes " " ++ event_text (Ctl symbol) ++ codes "\n"
event_told_text (Pkt ack packet) = codes " " ++ event_text (Pkt ack packet) ++ codes "\n"
event_told_text (Bad cause) = bad_text cause

-- the line of an event at its place
abbrev pub placed_text : ℕ × Event → List ℕ
placed_text event = decimal event.0 ++ event_told_text event.1

-- the last line, by whether neither a symbol nor a packet is in progress
abbrev pub end_text : Bool → List ℕ
end_text true = codes "end\n"
end_text false = codes "end cut\n"

abbrev pub decode_text : List (ℕ × Event) → Bool → List ℕ
decode_text events rest = flat_map placed_text events ++ end_text rest

-- The bytes spell these characters and no others; this is their one reading, and they are cut just
-- where `rest` is false.
pub record Decoded (bytes : List ℕ) : Type 0 where
  pub chars : List Char
  pub events : List (ℕ × Event)
  pub rest : Bool
  pub spells : SpellsChars bytes chars
  pub only : (other : List Char) → SpellsChars bytes other → other ≡ chars
  pub reads : Reads Plain 0 chars events rest
  pub one_reading : (other : List (ℕ × Event)) → IsReading chars other → other ≡ events
  pub cut : IsCut chars ↔ (rest ≡ false)

-- The bytes spell characters, and the lines of their reading were written, and the last line.
pub record Decodes (bytes : List ℕ) (written written_after : Option (List ℕ)) : Type 0 where
  pub decoded : Decoded bytes
  pub told : Appends written written_after (decode_text decoded.events decoded.rest)

-- The bytes spell characters, and a front of those lines was written.
pub record DecodesFront (bytes : List ℕ) (written written_after : Option (List ℕ)) : Type 0 where
  pub decoded : Decoded bytes
  pub told : AppendsFront written written_after (decode_text decoded.events decoded.rest)
