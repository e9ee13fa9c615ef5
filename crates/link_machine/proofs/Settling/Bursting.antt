-- What a port sends, read by a receiver at rest, is what was sent, also if the receiver skips data.
use Rattle.link_machine.proofs.Prelude.{◌≡◌, ℕ, zero, suc, Bool, true, false, if◌then◌else◌, List, [], ◌∷◌, ◌++◌, map, Option, Some, None, slice_get, refl, ap, ◌∙◌, delimiter_of, ReaderStep, rests_by, Char, Fields, Delimiter, Sc, Pd, Place, place, place_start, step, at_rest, placed, run, place_after, said, Text, Plain, Skipped, Within, Sends, symbol_bytes, data_chars, symbol_chars_of, packet_chars_of, status, start_of_packet, end_of_packet, kind, place_after-append, list_at, Event, Pending, Nothing, Opened, One, Two, PortState, IsPort, standing, symbol_burst, tell_sends, Burst, IsRead, no_burst, packet_burst, burst_of, port_turn, turn_sends, turns_to, waiting_in, none_read, standing_range, status_read, turn_read, turn_port, both_bursts, port_turned, bursts, answers, AreAnswers, chars_of, controls}
use Rattle.link_model.specs.ReadingSpelt.{delimiter_char, bytes_with_ack}
use Rattle.link_machine.proofs.Settling.AnswerLaws.{answers_read}
use Rattle.link_machine.proofs.Settling.SaidLaws.{said-append}

-- ---- read from the start

both_read : (first next : Burst) → IsRead first → IsRead next → IsRead (both_bursts first next)
both_read first next one two = record {
  says =
      said-append place_start first.chars next.chars
      ∙ (λ i. one.says i ++ said (one.rests i) next.chars)
      ∙ ap (λ (l : List Event). first.sent ++ l) two.says;
  rests =
      place_after-append place_start first.chars next.chars
      ∙ ap (λ (p : Place). place_after p next.chars) one.rests
      ∙ two.rests;
}

-- what turns send
pub turns_read : (n : ℕ) (port : PortState) → IsPort port → IsRead (bursts n port)
unfolding bursts
turns_read zero port is = none_read
turns_read (suc n) port is =
    both_read (turn_sends port) (bursts n (turns_to port)) (turn_read port is)
    (turns_read n (turns_to port) (turn_port port is))

-- what a port sends that tells its free buffers
pub tell_read : (port : PortState) → IsPort port → IsRead (tell_sends port)
tell_read port is = by port.tells
  where
    by : (b : Bool) → IsRead (if b
        then symbol_burst (status (standing port).expected (standing port).buffers)
        else no_burst)
    by true = status_read (standing port) (standing_range port is)
    by false = none_read

-- what answers send
pub answers_are_read : (replies : List Fields) → AreAnswers replies → IsRead (answers replies)
unfolding chars_of controls
answers_are_read replies are =
    let read = answers_read Plain replies refl are in
    record {
      says = ap (λ (r : List Event × Place). r.0) read;
      rests = ap (λ (r : List Event × Place). r.1) read;
    }

-- turns change the output half alone
pub turned_is : (n : ℕ) (port : PortState)
    → port_turned n port ≡ record port { output = (port_turned n port).output }
unfolding port_turned
turned_is zero port = refl
turned_is (suc n) port = turned_is n (turns_to port)

-- ---- the first character

-- there is no character, or the first is a delimiter
pub data IsDelimited : List Char → Type 0 where
  IsEmpty : IsDelimited []
  BeginsWith : (d : Delimiter) (chars : List Char) → IsDelimited (delimiter_char d ∷ chars)

delimited-append : {xs ys : List Char} → IsDelimited xs → IsDelimited ys → IsDelimited (xs ++ ys)
delimited-append {ys = ys} IsEmpty two = two
delimited-append {ys = ys} (BeginsWith d chars) two = BeginsWith d (chars ++ ys)

symbol_delimited : (symbol : Fields) → IsDelimited (symbol_chars_of symbol)
unfolding symbol_chars_of
symbol_delimited symbol = BeginsWith (delimiter_of symbol) (data_chars (symbol_bytes symbol))

packet_delimited : (port : PortState) (ack : ℕ) (found : Option (List ℕ))
    → IsDelimited (packet_burst (standing port) ack found).chars
unfolding packet_chars_of symbol_chars_of
packet_delimited port ack None = IsEmpty
packet_delimited port ack (Some packet) =
    let first = start_of_packet (standing port).expected (standing port).buffers in
    let last = end_of_packet (standing port).expected (standing port).buffers in
    BeginsWith (delimiter_of first) (data_chars (symbol_bytes first)
    ++ (data_chars (bytes_with_ack ack packet) ++ symbol_chars_of last))

burst_delimited : (sends : Sends) (port : PortState) (waiting : List (List (List ℕ)))
    → IsDelimited (burst_of sends (standing port) waiting).chars
burst_delimited (Sends.Packet ack prio) port waiting =
    packet_delimited port ack (slice_get (list_at waiting prio) 0)
burst_delimited Sends.Restart port waiting = symbol_delimited _
burst_delimited Sends.Request port waiting = symbol_delimited _
burst_delimited Sends.Status port waiting = symbol_delimited _
burst_delimited Sends.Nothing port waiting = IsEmpty

turn_delimited : (port : PortState) → IsDelimited (turn_sends port).chars
turn_delimited port = burst_delimited (port_turn port).sends port (waiting_in port)

pub tell_delimited : (port : PortState) → IsDelimited (tell_sends port).chars
tell_delimited port = by port.tells
  where
    by : (b : Bool) → IsDelimited (if b
        then symbol_burst (status (standing port).expected (standing port).buffers)
        else no_burst).chars
    by true = symbol_delimited _
    by false = IsEmpty

pub turns_delimited : (n : ℕ) (port : PortState) → IsDelimited (bursts n port).chars
unfolding bursts
turns_delimited zero port = IsEmpty
turns_delimited (suc n) port =
    delimited-append (turn_delimited port) (turns_delimited n (turns_to port))

pub answers_delimited : (replies : List Fields) → IsDelimited (answers replies).chars
answers_delimited [] = IsEmpty
answers_delimited (symbol ∷ replies) =
    delimited-append (symbol_delimited symbol) (answers_delimited replies)

-- ---- read by a receiver at rest

abbrev skipping : Place
skipping = place Skipped Nothing

-- a delimiter ends skipping
delimiter_step : (d : Delimiter)
    → step skipping (delimiter_char d) ≡ step place_start (delimiter_char d)
unfolding kind
delimiter_step Sc = refl
delimiter_step Pd = refl

-- Data that is skipped changes nothing of what is said behind it.
record IsSameFrom (from : Place) (chars : List Char) : Type 0 where
  pub says : said from chars ≡ said place_start chars
  pub rests : at_rest (place_after place_start chars) ≡ true
      → at_rest (place_after from chars) ≡ true

skipping_same : {chars : List Char} → IsDelimited chars → IsSameFrom skipping chars
unfolding run place_after
skipping_same IsEmpty = record { says = refl; rests = λ rests. refl }
skipping_same (BeginsWith d chars) =
    let same = delimiter_step d in
    record {
      says =
          ap (λ (s : ReaderStep).
          map (λ (e : ℕ × Event). e.1) (placed 0 s.gives ++ run s.place 1 chars))
          same;
      rests = λ rests. ap (λ (s : ReaderStep). at_rest (place_after s.place chars)) same ∙ rests;
    }

-- Read from this place, a burst says the events that it sends, and nothing is in progress then.
pub record IsReadFrom (from : Place) (burst : Burst) : Type 0 where
  pub says : said from burst.chars ≡ burst.sent
  pub rests : at_rest (place_after from burst.chars) ≡ true

pub read_at_rest : (from : Place) (burst : Burst) → at_rest from ≡ true → IsRead burst
    → IsDelimited burst.chars → IsReadFrom from burst
read_at_rest from burst rests read delimited = by_place from.text from.pending rests
  where
    by_place : (text : Text) (pending : Pending) → rests_by text pending ≡ true
        → IsReadFrom (place text pending) burst
    by_place Plain Nothing is = record { says = read.says; rests = ap at_rest read.rests }
    by_place Skipped Nothing is =
        let same = skipping_same delimited in
        record { says = same.says ∙ read.says; rests = same.rests (ap at_rest read.rests) }
    by_place (Within bytes) Nothing is = absurd cc
    by_place Plain (Opened d) is = absurd cc
    by_place Skipped (Opened d) is = absurd cc
    by_place (Within bytes) (Opened d) is = absurd cc
    by_place Plain (One d x) is = absurd cc
    by_place Skipped (One d x) is = absurd cc
    by_place (Within bytes) (One d x) is = absurd cc
    by_place Plain (Two d x y) is = absurd cc
    by_place Skipped (Two d x y) is = absurd cc
    by_place (Within bytes) (Two d x y) is = absurd cc
