-- The reading of characters, as a grammar of whole texts (RapidIO Interconnect Specification 1.3,
-- Part 6, packet delimiting and idle sequence; the causes, and that data is skipped up to an idle
-- or a delimiter after an error, are this project's profile).
use Rattle.std.specs.Prelude.{◌≡◌, ℕ, suc, ◌+◌, ◌<◌, ◌≤◌, ◌==◌, nat_le, Bool, true, false, IsTrue, List, [], ◌∷◌, ◌++◌, length, map, if◌then◌else◌, ◌||◌}
use Rattle.rio_chars.specs.declared.chars.Char.{Char}
use Rattle.rio_symbols.specs.declared.characters.Delimiter.{Delimiter}
use Rattle.rio_symbols.specs.declared.stype1.TheConstants.{START_OF_PACKET, END_OF_PACKET, LINK_REQUEST}
use Rattle.rio_symbols.specs.Delimiters.{allowed}
use Rattle.rio_symbols.specs.Fields.{Fields}
use Rattle.rio_symbols.specs.Spelling.{SpellsSymbol}
use Rattle.rio_packets.specs.declared.cause.Cause.TheVariants.{BadSymbol, BadChar, General}
use Rattle.link_model.specs.declared.event.Event.{Event}
use Rattle.link_model.specs.declared.event.Event.TheVariants.{Ctl, Bad}
use Rattle.link_model.specs.declared.reading_kinds.CharKind.TheVariants.{Byte, Opens, Idle, Stray}
use Rattle.link_model.specs.Events.{packet_event}
use Rattle.link_model.specs.ReadingKinds.{kind}

-- A text between packets, a text of which data is skipped, or a text within a packet, after these
-- bytes of it.
pub data Text : Type 0 where
  Plain : Text
  Skipped : Text
  Within : List ℕ → Text

-- a symbol may begin here
abbrev pub IsOpen : Text → Type 0
IsOpen Plain = Unit {0}
IsOpen Skipped = ⊥
IsOpen (Within bytes) = Unit {0}

-- The text after a symbol, by its stype1: start-of-packet begins a packet; stomp, end-of-packet,
-- restart-from-retry and link-request end one; any other symbol may stand in a packet, which goes
-- on.
abbrev pub text_after : Text → ℕ → Text
text_after text s1 =
    if s1 == START_OF_PACKET then Within [] else (if nat_le s1 LINK_REQUEST then Plain else text)

-- the event of a packet that ends here
abbrev pub packet_ended : Text → List Event
packet_ended Plain = []
packet_ended Skipped = []
packet_ended (Within bytes) = packet_event bytes ∷ []

-- whether a symbol ends a packet that is to be delivered: start-of-packet and end-of-packet do
abbrev pub ends_packet : ℕ → Bool
ends_packet s1 = (s1 == START_OF_PACKET) || (s1 == END_OF_PACKET)

-- The events of a symbol: that of the packet that it ends, and its own.
abbrev pub told : Text → Fields → List Event
told text symbol = (if ends_packet symbol.s1 then packet_ended text else []) ++ Ctl symbol ∷ []

-- events at one place
abbrev pub placed : ℕ → List Event → List (ℕ × Event)
placed at events = map (λ event. (at, event)) events

-- a delimiter and three data characters with these bytes
pub record IsWhole (d : Delimiter) (c x y z : Char) (i j k : ℕ) : Type 0 where
  pub opens : kind c ≡ Opens d
  pub first : kind x ≡ Byte i
  pub second : kind y ≡ Byte j
  pub third : kind z ≡ Byte k

-- a delimiter and fewer than three data characters
pub data IsUnfinished : List Char → Type 0 where
  no_byte : {c : Char} {d : Delimiter} → kind c ≡ Opens d → IsUnfinished (c ∷ [])
  one_byte : {c x : Char} {d : Delimiter} {i : ℕ} → kind c ≡ Opens d → kind x ≡ Byte i
      → IsUnfinished (c ∷ x ∷ [])
  two_bytes : {c x y : Char} {d : Delimiter} {i j : ℕ} → kind c ≡ Opens d → kind x ≡ Byte i
      → kind y ≡ Byte j → IsUnfinished (c ∷ x ∷ y ∷ [])

-- Characters from a place on, in a text, say these events, each at the place of the character that
-- completes it. The last word says whether neither a symbol nor a packet is in progress at the end.
pub data Reads : Text → ℕ → List Char → List (ℕ × Event) → Bool → Type 0 where
  -- a text between packets
  plain_ends : {at : ℕ} → Reads Plain at [] [] true
  idle_passes : {at : ℕ} {c : Char} {cs : List Char} {es : List (ℕ × Event)} {rest : Bool}
      → kind c ≡ Idle
      → Reads Plain (suc at) cs es rest → Reads Plain at (c ∷ cs) es rest
  data_outside : {at i : ℕ} {c : Char} {cs : List Char} {es : List (ℕ × Event)} {rest : Bool}
      → kind c ≡ Byte i
      → Reads Skipped (suc at) cs es rest → Reads Plain at (c ∷ cs) ((at, Bad BadChar) ∷ es) rest
  stray_outside : {at : ℕ} {c : Char} {cs : List Char} {es : List (ℕ × Event)} {rest : Bool}
      → kind c ≡ Stray
      → Reads Skipped (suc at) cs es rest → Reads Plain at (c ∷ cs) ((at, Bad BadChar) ∷ es) rest
  -- a text of which data is skipped
  skipped_ends : {at : ℕ} → Reads Skipped at [] [] true
  data_skipped : {at i : ℕ} {c : Char} {cs : List Char} {es : List (ℕ × Event)} {rest : Bool}
      → kind c ≡ Byte i
      → Reads Skipped (suc at) cs es rest → Reads Skipped at (c ∷ cs) es rest
  stray_skipped : {at : ℕ} {c : Char} {cs : List Char} {es : List (ℕ × Event)} {rest : Bool}
      → kind c ≡ Stray
      → Reads Skipped (suc at) cs es rest → Reads Skipped at (c ∷ cs) es rest
  idle_ends_skipping : {at : ℕ} {c : Char} {cs : List Char} {es : List (ℕ × Event)} {rest : Bool}
      → kind c ≡ Idle
      → Reads Plain (suc at) cs es rest → Reads Skipped at (c ∷ cs) es rest
  delimiter_ends_skipping
      : {at : ℕ} {c : Char} {cs : List Char} {es : List (ℕ × Event)} {rest : Bool} {d : Delimiter}
      → kind c ≡ Opens d → Reads Plain at (c ∷ cs) es rest → Reads Skipped at (c ∷ cs) es rest
  -- a text within a packet
  packet_is_cut : {at : ℕ} {bytes : List ℕ} → Reads (Within bytes) at [] [] false
  data_is_added
      : {at i : ℕ} {bytes : List ℕ} {c : Char} {cs : List Char} {es : List (ℕ × Event)} {rest :
      Bool} → kind c ≡ Byte i
      → length bytes < 276 → Reads (Within (bytes ++ i ∷ [])) (suc at) cs es rest
      → Reads (Within bytes) at (c ∷ cs) es rest
  data_is_too_long
      : {at i : ℕ} {bytes : List ℕ} {c : Char} {cs : List Char} {es : List (ℕ × Event)} {rest :
      Bool} → kind c ≡ Byte i
      → 276 ≤ length bytes → Reads Skipped (suc at) cs es rest
      → Reads (Within bytes) at (c ∷ cs) ((at, Bad General) ∷ es) rest
  idle_in_packet
      : {at : ℕ} {bytes : List ℕ} {c : Char} {cs : List Char} {es : List (ℕ × Event)} {rest : Bool}
      → kind c ≡ Idle
      → Reads Plain (suc at) cs es rest
      → Reads (Within bytes) at (c ∷ cs) ((at, Bad BadChar) ∷ es) rest
  stray_in_packet
      : {at : ℕ} {bytes : List ℕ} {c : Char} {cs : List Char} {es : List (ℕ × Event)} {rest : Bool}
      → kind c ≡ Stray
      → Reads Skipped (suc at) cs es rest
      → Reads (Within bytes) at (c ∷ cs) ((at, Bad BadChar) ∷ es) rest
  -- a symbol, between packets or in one
  symbol_is_read
      : {t : Text} {at i j k : ℕ} {d : Delimiter} {c x y z : Char} {cs : List Char} {es : List
      (ℕ × Event)} {rest : Bool}
      (s : Fields) → IsOpen t → IsWhole d c x y z i j k → SpellsSymbol s (i ∷ j ∷ k ∷ [])
      → IsTrue (allowed d s)
      → Reads (text_after t s.s1) (suc (suc (suc (suc at)))) cs es rest
      → Reads t at (c ∷ x ∷ y ∷ z ∷ cs) (placed (suc (suc (suc at))) (told t s) ++ es) rest
  -- a broken symbol
  spells_none : {t : Text} {at i j k : ℕ} {d : Delimiter} {c x y z : Char} {cs : List Char} {es :
      List (ℕ × Event)} {rest : Bool}
      → IsOpen t → IsWhole d c x y z i j k → ((s : Fields) → SpellsSymbol s (i ∷ j ∷ k ∷ []) → ⊥)
      → Reads Skipped (suc (suc (suc (suc at)))) cs es rest
      → Reads t at (c ∷ x ∷ y ∷ z ∷ cs) ((suc (suc (suc at)), Bad BadSymbol) ∷ es) rest
  not_allowed : {t : Text} {at i j k : ℕ} {d : Delimiter} {c x y z : Char} {cs : List Char} {es :
      List (ℕ × Event)} {rest : Bool}
      (s : Fields) → IsOpen t → IsWhole d c x y z i j k → SpellsSymbol s (i ∷ j ∷ k ∷ [])
      → allowed d s ≡ false
      → Reads Skipped (suc (suc (suc (suc at)))) cs es rest
      → Reads t at (c ∷ x ∷ y ∷ z ∷ cs) ((suc (suc (suc at)), Bad General) ∷ es) rest
  cut_by_delimiter
      : {t : Text} {at n : ℕ} {d : Delimiter} {cs all : List Char} {es : List (ℕ × Event)} {rest :
      Bool}
      (front : List Char) (c : Char) → IsOpen t → IsUnfinished front → n ≡ at + length front
      → all ≡ front ++ c ∷ cs
      → kind c ≡ Opens d → Reads Plain n (c ∷ cs) es rest
      → Reads t at all ((n, Bad BadChar) ∷ es) rest
  cut_by_idle : {t : Text} {at n : ℕ} {cs all : List Char} {es : List (ℕ × Event)} {rest : Bool}
      (front : List Char) (c : Char) → IsOpen t → IsUnfinished front → n ≡ at + length front
      → all ≡ front ++ c ∷ cs
      → kind c ≡ Idle → Reads Plain (suc n) cs es rest → Reads t at all ((n, Bad BadChar) ∷ es) rest
  cut_by_stray : {t : Text} {at n : ℕ} {cs all : List Char} {es : List (ℕ × Event)} {rest : Bool}
      (front : List Char) (c : Char) → IsOpen t → IsUnfinished front → n ≡ at + length front
      → all ≡ front ++ c ∷ cs
      → kind c ≡ Stray → Reads Skipped (suc n) cs es rest
      → Reads t at all ((n, Bad BadChar) ∷ es) rest
  cut_by_the_end : {t : Text} {at : ℕ} {front : List Char} → IsOpen t → IsUnfinished front
      → Reads t at front [] false

-- A list of characters says these events, each at the place of the character that completes it.
abbrev pub IsReading : List Char → List (ℕ × Event) → Type 0
IsReading chars events = (rest : Bool) × Reads Plain 0 chars events rest

-- A list of characters ends within a packet or a symbol.
abbrev pub IsCut : List Char → Type 0
IsCut chars = (events : List (ℕ × Event)) × Reads Plain 0 chars events false
