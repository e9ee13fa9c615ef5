-- Each character that a port sends is a byte, and what a port finds that was not sent can be told.
use Rattle.lawful_traces.proofs.Prelude.{◌≡◌, ℕ, suc, ◌<◌, ◌++◌, Bool, true, false, nat_lt, List, [], ◌∷◌, All, length, Option, Some, None, if◌then◌else◌, refl, subst, arith, AllByRecursion, flat_map, Char, HasByte, Fields, InRange, Passes, Event, packet_or_cause, packet_event, Place, byte_added, outside, symbol_taken, finished, step_by, step, run, delimiter_char, data_chars, symbol_chars_of, bytes_with_ack, packet_chars_of, PortState, is_acted, AreAnswers, Flow, Delivered, Through, WentUndetected, begun, done, met, comes, goes_on, come, ended, delivered, undetected, behind, answers, all-append, EventFits}
use Rattle.std.proofs.lemmas.List.Elements.{All-head, All-tail}
use Rattle.rio_symbols.specs.declared.characters.Delimiter.{Delimiter}
use Rattle.rio_symbols.specs.declared.characters.Delimiter.TheVariants.{Sc, Pd}
use Rattle.rio_symbols.specs.Delimiters.{allowed, delimiter_of}
use Rattle.rio_symbols.specs.Spelling.{symbol_bytes, spelled}
use Rattle.rio_symbols.proofs.SpellingLaws.{spells_own, spelled_some}
use Rattle.rio_packets.specs.Carries.{carried}
use Rattle.rio_packets.specs.declared.cause.Cause.{Cause}
use Rattle.rio_packets.proofs.CarriesLaws.{Carries-from_carried}
use Rattle.rio_packets.proofs.FormLaws.{Passes-from_form}
use Rattle.link_model.specs.declared.event.Event.TheVariants.{Ctl, Pkt, Bad}
use Rattle.link_model.specs.declared.reading_kinds.CharKind.{CharKind}
use Rattle.link_model.specs.declared.reading_kinds.CharKind.TheVariants.{Byte, Opens, Idle, Stray}
use Rattle.link_model.specs.declared.reading_kinds.Pending.{Pending}
use Rattle.link_model.specs.declared.reading_kinds.Pending.TheVariants.{Nothing, Opened, One, Two}
use Rattle.link_model.specs.Reading.{Text, Plain, Skipped, Within, packet_ended, ends_packet, told, placed}
use Rattle.link_model.specs.ReadingKinds.{kind}

-- each character is a byte
abbrev pub AreBytesOf : List Char → Type 0
AreBytesOf chars = AllByRecursion HasByte chars

-- ---- symbols and packets as characters

data_bytes : (bytes : List ℕ) → All (λ b. b < 256) bytes → AreBytesOf (data_chars bytes)
data_bytes [] all = tt
data_bytes (byte ∷ bytes) all = (
  All-head (λ b. b < 256) byte bytes all,
  data_bytes bytes (All-tail (λ b. b < 256) byte bytes all),
)

delimiter_byte : (d : Delimiter) → HasByte (delimiter_char d)
delimiter_byte Sc = omega arith
delimiter_byte Pd = omega arith

pub symbol_is_bytes : (symbol : Fields) → InRange symbol → AreBytesOf (symbol_chars_of symbol)
unfolding symbol_chars_of
symbol_is_bytes symbol range = (
  delimiter_byte (delimiter_of symbol),
  data_bytes (symbol_bytes symbol) (spells_own symbol range).are_bytes,
)

packet_bytes : (packet : List ℕ) (ack : ℕ) → ack < 32 → Passes packet
    → AreBytesOf (data_chars (bytes_with_ack ack packet))
unfolding bytes_with_ack
packet_bytes [] ack low passes = absurd (let least = passes.least in omega (arith, least))
packet_bytes (byte ∷ bytes) ack low passes =
    let first : byte < 4 = passes.origin in (
      omega (arith, low, first),
      data_bytes bytes (All-tail (λ b. b < 256) byte bytes passes.range),
    )

pub packet_is_bytes : (first : Fields) (ack : ℕ) (packet : List ℕ) (last : Fields)
    → InRange first → ack < 32 → Passes packet → InRange last
    → AreBytesOf (packet_chars_of first ack packet last)
unfolding packet_chars_of
packet_is_bytes first ack packet last opens low passes closes =
    all-append HasByte (symbol_chars_of first) _ (symbol_is_bytes first opens)
    (all-append HasByte (data_chars (bytes_with_ack ack packet)) (symbol_chars_of last)
    (packet_bytes packet ack low passes) (symbol_is_bytes last closes))

pub answers_are_bytes : (replies : List Fields) → AreAnswers replies
    → AreBytesOf (answers replies).chars
unfolding AreAnswers
answers_are_bytes [] are = tt
answers_are_bytes (symbol ∷ replies) are =
    all-append HasByte (symbol_chars_of symbol) (flat_map symbol_chars_of replies)
    (symbol_is_bytes symbol are.0.range) (answers_are_bytes replies are.1)

-- ---- what is read

-- a good event can be told
abbrev EventIsRead : Event → Type 0
EventIsRead (Ctl symbol) = InRange symbol
EventIsRead (Pkt ack packet) = (ack < 32) × Passes packet
EventIsRead (Bad cause) = Unit {0}

found_is_read : (bytes : List ℕ) (found : Option (ℕ × List ℕ)) (cause : Cause)
    → carried bytes ≡ found → EventIsRead (packet_or_cause found cause)
found_is_read bytes None cause is = tt
found_is_read bytes (Some found) cause is =
    let carries = Carries-from_carried bytes found.0 found.1 is in
    (carries.ack_range, Passes-from_form carries.body found.1 carries.form)

packet_is_read : (bytes : List ℕ) → EventIsRead (packet_event bytes)
unfolding packet_event
packet_is_read bytes = found_is_read bytes (carried bytes) _ refl

ended_is_read : (text : Text) → AllByRecursion EventIsRead (packet_ended text)
ended_is_read Plain = tt
ended_is_read Skipped = tt
ended_is_read (Within bytes) = (packet_is_read bytes, tt)

told_is_read : (text : Text) (symbol : Fields) → InRange symbol
    → AllByRecursion EventIsRead (told text symbol)
told_is_read text symbol range = by (ends_packet symbol.s1)
  where
    by : (b : Bool) → AllByRecursion EventIsRead
        ((if b then packet_ended text else []) ++ Ctl symbol ∷ [])
    by true = all-append EventIsRead (packet_ended text) (Ctl symbol ∷ []) (ended_is_read text)
        (range, tt)
    by false = (range, tt)

abbrev GivesRead : Text → Pending → CharKind → Type 0
GivesRead text pending k = AllByRecursion EventIsRead (step_by text pending k).gives

finished_is_read : (text : Text) (d : Delimiter) (x y z : ℕ) (found : Option Fields)
    → spelled x y z ≡ found → AllByRecursion EventIsRead (finished text d found).gives
finished_is_read text d x y z None is = (tt, tt)
finished_is_read text d x y z (Some symbol) is = by (allowed d symbol)
  where
    by : (b : Bool) → AllByRecursion EventIsRead (symbol_taken text symbol b).gives
    by true = told_is_read text symbol (spelled_some x y z symbol is).in_range
    by false = (tt, tt)

added_is_read : (bytes : List ℕ) (byte : ℕ) (b : Bool)
    → AllByRecursion EventIsRead (byte_added bytes byte b).gives
added_is_read bytes byte true = tt
added_is_read bytes byte false = (tt, tt)

outside_is_read : (text : Text) (k : CharKind) → AllByRecursion EventIsRead (outside text k).gives
outside_is_read text (Opens d) = tt
outside_is_read Plain Idle = tt
outside_is_read Skipped Idle = tt
outside_is_read (Within bytes) Idle = (tt, tt)
outside_is_read Plain (Byte byte) = (tt, tt)
outside_is_read Skipped (Byte byte) = tt
outside_is_read (Within bytes) (Byte byte) = added_is_read bytes byte (nat_lt (length bytes) 276)
outside_is_read Plain Stray = (tt, tt)
outside_is_read Skipped Stray = tt
outside_is_read (Within bytes) Stray = (tt, tt)

gives_read : (text : Text) (pending : Pending) (k : CharKind) → GivesRead text pending k
gives_read text Nothing k = outside_is_read text k
gives_read text (Opened d) (Byte x) = tt
gives_read text (Opened d) (Opens e) = (tt, tt)
gives_read text (Opened d) Idle = (tt, tt)
gives_read text (Opened d) Stray = (tt, tt)
gives_read text (One d x) (Byte y) = tt
gives_read text (One d x) (Opens e) = (tt, tt)
gives_read text (One d x) Idle = (tt, tt)
gives_read text (One d x) Stray = (tt, tt)
gives_read text (Two d x y) (Byte z) = finished_is_read text d x y z (spelled x y z) refl
gives_read text (Two d x y) (Opens e) = (tt, tt)
gives_read text (Two d x y) Idle = (tt, tt)
gives_read text (Two d x y) Stray = (tt, tt)

abbrev PlacedIsRead : ℕ × Event → Type 0
PlacedIsRead event = EventIsRead event.1

placed_read : (at : ℕ) (events : List Event) → AllByRecursion EventIsRead events
    → AllByRecursion PlacedIsRead (placed at events)
placed_read at [] all = tt
placed_read at (event ∷ events) all = (all.0, placed_read at events all.1)

run_read : (from : Place) (at : ℕ) (chars : List Char)
    → AllByRecursion PlacedIsRead (run from at chars)
unfolding run
run_read from at [] = tt
run_read from at (c ∷ chars) =
    all-append PlacedIsRead (placed at (step from c).gives) (run (step from c).place (suc at) chars)
    (placed_read at (step from c).gives (gives_read from.text from.pending (kind c)))
    (run_read (step from c).place (suc at) chars)

-- ---- an event that was not sent

abbrev FoundFits : Delivered → Type 0
FoundFits (Through flow) = Unit {0}
FoundFits (WentUndetected told e) = EventFits e

acted_fits : (port : PortState) (e : Event) → is_acted port e ≡ true → EventIsRead e → EventFits e
acted_fits port (Ctl symbol) acted is = is
acted_fits port (Pkt ack packet) acted is = is
acted_fits port (Bad cause) acted is = absurd cc

met_fits : (at : ℕ) (e : Event) (kept : Option (List Event)) (flow : Flow) → EventFits e
    → FoundFits (met at e kept flow)
met_fits at e None flow fits = fits
met_fits at e (Some kept) flow fits = tt

comes_fits : (flow : Flow) (event : ℕ × Event) → PlacedIsRead event
    → FoundFits (comes flow event)
comes_fits flow event is = by (is_acted flow.port event.1) refl
  where
    by : (b : Bool) → is_acted flow.port event.1 ≡ b
        → FoundFits (if b then met event.0 event.1 (behind event.1 flow.kept) flow
        else Through (done event.1 [] flow.kept flow))
    by true acted = met_fits event.0 event.1 (behind event.1 flow.kept) flow
        (acted_fits flow.port event.1 acted is)
    by false other = tt

on_fits : (more : Flow → Delivered) (d : Delivered) → ((flow : Flow) → FoundFits (more flow))
    → FoundFits d → FoundFits (goes_on more d)
on_fits more (Through flow) next fits = next flow
on_fits more (WentUndetected told e) next fits = fits

come_fits : (events : List (ℕ × Event)) (flow : Flow) → AllByRecursion PlacedIsRead events
    → FoundFits (come events flow)
unfolding come
come_fits [] flow all = tt
come_fits (event ∷ events) flow all =
    on_fits (come events) (comes flow event) (λ next. come_fits events next all.1)
    (comes_fits flow event all.0)

ended_fits : (place : Place) (count : ℕ) (d : Delivered) (e : Event) → FoundFits d
    → undetected (ended place count d) ≡ Some e → EventFits e
ended_fits place count (Through flow) e fits is = absurd cc
ended_fits place count (WentUndetected told found) e fits is =
    let same : found ≡ e = cc in subst EventFits same fits

-- what a port acts on and was not sent is a good event
pub undetected_fits : (port : PortState) (kept : List Event) (chars : List Char) (e : Event)
    → undetected (delivered port kept chars) ≡ Some e → EventFits e
undetected_fits port kept chars e is =
    ended_fits _ _ (come (run port.place 0 chars) (begun port kept)) e
    (come_fits (run port.place 0 chars) (begun port kept) (run_read port.place 0 chars)) is
