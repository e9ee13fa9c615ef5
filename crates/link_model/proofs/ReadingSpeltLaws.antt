-- What is sent for a symbol or a packet is read as it.
use Rattle.link_model.proofs.Prelude.{◌≡◌, ℕ, suc, ◌+◌, ◌*◌, ◌<◌, ◌≤◌, Bool, true, Option, if◌then◌else◌, nat_lt, List, [], ◌∷◌, ◌++◌, length, get_or, refl, sym, ap, ◌∙◌, arith, append_assoc, append-nil, length-append, Char, Delimiter, allowed, delimiter_of, Fields, InRange, symbol_bytes, spelled_own, Carries, BadPacket, General, Carries-with_ack, carried-from_Carries, Event, Ctl, Pkt, Byte, Opens, Pending, Nothing, Opened, One, Two, packet_event, packet_or_cause, Place, ReaderStep, place, opened, broken_off, begins_in, byte_added, symbol_taken, finished, place_start, step_by, step, run, place_after, Text, Plain, Skipped, Within, IsOpen, IsWhole, text_after, ends_packet, packet_ended, told, placed, kind, delimiter_char, data_chars, symbol_chars_of, bytes_with_ack, packet_chars_of}
use Rattle.std.proofs.Math.ListN.{length-set}
use Rattle.rio_chars.specs.declared.chars.Char.TheVariants.{Data}
use Rattle.rio_symbols.specs.declared.characters.Delimiter.TheVariants.{Sc, Pd}
use Rattle.rio_symbols.specs.Crc5.{crc5_value}
use Rattle.rio_packets.specs.LinkForm.{Passes}
use Rattle.link_model.proofs.ReadingSteps.{course, follow_to, course_step, course_whole, below}

pub kind-data : (byte : ℕ) → kind (Data byte) ≡ Byte byte
unfolding kind
kind-data byte = refl

pub kind-delimiter : (d : Delimiter) → kind (delimiter_char d) ≡ Opens d
unfolding kind
kind-delimiter Sc = refl
kind-delimiter Pd = refl

pub own_is_allowed : (s : Fields) → InRange s → allowed (delimiter_of s) s ≡ true
own_is_allowed s range = grind arith

-- A symbol, where one may begin.
pub symbol_course : (t : Text) (at : ℕ) (s : Fields) (cs : List Char) → IsOpen t → InRange s
    → course (place t Nothing) at (symbol_chars_of s ++ cs)
    ≡ follow_to (symbol_taken t s true) (suc (suc (suc at))) cs
unfolding symbol_chars_of symbol_bytes
symbol_course t at s cs may range =
    let d = delimiter_of s in
    let i = s.s0 * 32 + s.p0 in let j = s.p1 * 8 + s.s1 in let k = s.cmd * 32 + crc5_value s in
    let w : IsWhole d (delimiter_char d) (Data i) (Data j) (Data k) i j k =
    record {
      opens = kind-delimiter d;
      first = kind-data i;
      second = kind-data j;
      third = kind-data k;
    } in
    course_whole t at cs may w
    ∙ ap (λ (o : Option Fields). follow_to (finished t d o) (suc (suc (suc at))) cs)
    (spelled_own s range)
    ∙ ap (λ (b : Bool). follow_to (symbol_taken t s b) (suc (suc (suc at))) cs)
    (own_is_allowed s range)

-- data characters within a packet
data_course : (bytes xs : List ℕ) (at n : ℕ) (cs : List Char) → length bytes + length xs ≤ 276
    → n ≡ at + length xs
    → course (place (Within bytes) Nothing) at (data_chars xs ++ cs)
    ≡ course (place (Within (bytes ++ xs)) Nothing) n cs
data_course bytes [] at n cs h e =
    let here : at ≡ n = omega arith in
    ap (λ (m : ℕ). course (place (Within bytes) Nothing) m cs) here
    ∙ ap (λ (all : List ℕ). course (place (Within all) Nothing) n cs) (sym (append-nil bytes))
data_course bytes (x ∷ xs) at n cs h e =
    course_step (place (Within bytes) Nothing) at (Data x) (data_chars xs ++ cs) (Byte x)
    (kind-data x)
    ∙ ap (λ (b : Bool). follow_to (byte_added bytes x b) at (data_chars xs ++ cs))
    (below (length bytes) 276 (omega arith))
    ∙ data_course (bytes ++ x ∷ []) xs (suc at) n cs (longer bytes x xs h) (omega arith)
    ∙ ap (λ (all : List ℕ). course (place (Within all) Nothing) n cs)
    (append_assoc bytes (x ∷ []) xs)
  where
    longer : (bytes : List ℕ) (x : ℕ) (xs : List ℕ) → length bytes + length (x ∷ xs) ≤ 276
        → length (bytes ++ x ∷ []) + length xs ≤ 276
    longer bytes x xs h = grind (arith, length-append)

-- the bytes that are sent for a packet carry it
pub bytes_with_ack-carry : (packet : List ℕ) (ack : ℕ) → ack < 32 → Passes packet
    → Carries (bytes_with_ack ack packet) ack packet
unfolding bytes_with_ack
bytes_with_ack-carry [] ack h p = absurd (let least = p.least in omega arith)
bytes_with_ack-carry (b ∷ bs) ack h p = Carries-with_ack (b ∷ bs) ack h p

pub event-bytes_with_ack : (packet : List ℕ) (ack : ℕ) → ack < 32 → Passes packet
    → packet_event (bytes_with_ack ack packet) ≡ Pkt ack packet
unfolding packet_event
event-bytes_with_ack packet ack h p =
    let bytes = bytes_with_ack ack packet in
    ap (λ (o : Option (ℕ × List ℕ)). packet_or_cause o
    (if nat_lt (length bytes) 8 then General else BadPacket))
    (carried-from_Carries bytes ack packet (bytes_with_ack-carry packet ack h p))

pub length-bytes_with_ack : (packet : List ℕ) (ack : ℕ)
    → length (bytes_with_ack ack packet) ≡ length packet
unfolding bytes_with_ack
length-bytes_with_ack packet ack = length-set packet 0 (8 * ack + get_or packet 0 0)

-- more events in front
abbrev before : List (ℕ × Event) → List (ℕ × Event) × Place → List (ℕ × Event) × Place
before es r = (es ++ r.0, r.1)

-- what a symbol of this stype1 tells within a packet, and the characters behind it
abbrev ends_as : List ℕ → Fields → ℕ → ℕ → List Char → List (ℕ × Event) × Place
ends_as bytes last m k cs = (
  placed (suc (suc (suc m))) ((if ends_packet k then packet_ended (Within bytes) else [])
      ++ Ctl last ∷ [])
      ++ run (place (text_after (Within bytes) k) Nothing) (suc (suc (suc (suc m)))) cs,
  place_after (place (text_after (Within bytes) k) Nothing) cs,
)

-- A packet, where a symbol may begin.
pub packet_course : (t : Text) (at n : ℕ) (first : Fields) (ack : ℕ) (packet : List ℕ)
    (last : Fields) (cs : List Char) → IsOpen t
    → InRange first → first.s1 ≡ 0 → ack < 32 → Passes packet → InRange last → last.s1 ≡ 2
    → n ≡ at + 7 + length packet
    → course (place t Nothing) at (packet_chars_of first ack packet last ++ cs)
    ≡ (
      placed (suc (suc (suc at))) (told t first) ++ (n, Pkt ack packet) ∷ (n, Ctl last)
          ∷ run place_start (suc n) cs,
      place_after place_start cs,
    )
unfolding packet_chars_of
packet_course t at n first ack packet last cs may in_first starts few passes in_last ends e =
    let bytes = bytes_with_ack ack packet in
    let rest = symbol_chars_of last ++ cs in
    let inner = data_chars bytes ++ rest in
    let most = passes.most in
    let size = length-bytes_with_ack packet ack in
    let three = suc (suc (suc at)) in
    let m = at + 4 + length packet in
    let there : n ≡ suc (suc (suc m)) = omega arith in
    ap (course (place t Nothing) at)
    (append_assoc (symbol_chars_of first) (data_chars bytes ++ symbol_chars_of last) cs
    ∙ ap (λ (xs : List Char). symbol_chars_of first ++ xs)
    (append_assoc (data_chars bytes) (symbol_chars_of last) cs))
    ∙ symbol_course t at first inner may in_first
    ∙ ap (λ (k : ℕ). before (placed three (told t first))
    (course (place (text_after t k) Nothing) (suc three) inner)) starts
    ∙ ap (before (placed three (told t first)))
    (data_course [] bytes (suc three) m rest (omega arith) (omega arith)
    ∙ symbol_course (Within bytes) m last cs tt in_last
    ∙ ap (λ (k : ℕ). ends_as bytes last m k cs) ends
    ∙ ap (λ (ev : Event). (
      placed (suc (suc (suc m))) (ev ∷ Ctl last ∷ [])
          ++ run place_start (suc (suc (suc (suc m)))) cs,
      place_after place_start cs,
    ))
    (event-bytes_with_ack packet ack few passes)
    ∙ ap
    (λ (k : ℕ).
    ((k, Pkt ack packet) ∷ (k, Ctl last) ∷ run place_start (suc k) cs, place_after place_start cs))
    (sym there))

pub run-symbol : (t : Text) (at : ℕ) (s : Fields) → IsOpen t → InRange s
    → run (place t Nothing) at (symbol_chars_of s) ≡ placed (at + 3) (told t s)
unfolding run
run-symbol t at s may range =
    let there : suc (suc (suc at)) ≡ at + 3 = omega arith in
    ap (run (place t Nothing) at) (sym (append-nil (symbol_chars_of s)))
    ∙ ap (λ (r : List (ℕ × Event) × Place). r.0) (symbol_course t at s [] may range)
    ∙ append-nil (placed (suc (suc (suc at))) (told t s))
    ∙ ap (λ (k : ℕ). placed k (told t s)) there

pub place_after-symbol : (t : Text) (s : Fields) → IsOpen t → InRange s
    → place_after (place t Nothing) (symbol_chars_of s) ≡ place (text_after t s.s1) Nothing
unfolding place_after
place_after-symbol t s may range =
    ap (place_after (place t Nothing)) (sym (append-nil (symbol_chars_of s)))
    ∙ ap (λ (r : List (ℕ × Event) × Place). r.1) (symbol_course t 0 s [] may range)

pub run-packet : (t : Text) (at n : ℕ) (first : Fields) (ack : ℕ) (packet : List ℕ) (last : Fields)
    → IsOpen t
    → InRange first → first.s1 ≡ 0 → ack < 32 → Passes packet → InRange last → last.s1 ≡ 2
    → n ≡ at + 7 + length packet
    → run (place t Nothing) at (packet_chars_of first ack packet last)
    ≡ placed (at + 3) (told t first) ++ (n, Pkt ack packet) ∷ (n, Ctl last) ∷ []
unfolding run
run-packet t at n first ack packet last may in_first starts few passes in_last ends e =
    let there : suc (suc (suc at)) ≡ at + 3 = omega arith in
    ap (run (place t Nothing) at) (sym (append-nil (packet_chars_of first ack packet last)))
    ∙ ap (λ (r : List (ℕ × Event) × Place). r.0)
    (packet_course t at n first ack packet last [] may in_first starts few passes in_last ends e)
    ∙ ap (λ (k : ℕ). placed k (told t first) ++ (n, Pkt ack packet) ∷ (n, Ctl last) ∷ []) there

pub place_after-packet : (t : Text) (first : Fields) (ack : ℕ) (packet : List ℕ) (last : Fields)
    → IsOpen t
    → InRange first → first.s1 ≡ 0 → ack < 32 → Passes packet → InRange last → last.s1 ≡ 2
    → place_after (place t Nothing) (packet_chars_of first ack packet last) ≡ place_start
unfolding place_after
place_after-packet t first ack packet last may in_first starts few passes in_last ends =
    ap (place_after (place t Nothing)) (sym (append-nil (packet_chars_of first ack packet last)))
    ∙ ap (λ (r : List (ℕ × Event) × Place). r.1)
    (packet_course t 0 (0 + 7 + length packet) first ack packet last [] may in_first starts few
    passes in_last ends refl)

-- ---- from any place

opened_twice : (t : Text) → opened (opened t) ≡ opened t
opened_twice Plain = refl
opened_twice Skipped = refl
opened_twice (Within bytes) = refl

pub begins_opened : (t : Text) (p : Pending) → opened (begins_in t p) ≡ begins_in t p
begins_opened t Nothing = opened_twice t
begins_opened t _ = refl

pub begins_open : (t : Text) (p : Pending) → IsOpen (begins_in t p)
begins_open Plain Nothing = tt
begins_open _ Nothing = tt
begins_open t (Opened d) = tt
begins_open t (One d x) = tt
begins_open t (Two d x y) = tt

-- a delimiter breaks off a symbol in progress, and begins one
delimiter-step : (t : Text) (p : Pending) (d : Delimiter)
    → step (place t p) (delimiter_char d) ≡ record {
      place = place (begins_in t p) (Opened d);
      gives = broken_off p;
    }
delimiter-step t Nothing d = ap (step_by t Nothing) (kind-delimiter d)
delimiter-step t (Opened e) d = ap (step_by t (Opened e)) (kind-delimiter d)
delimiter-step t (One e x) d = ap (step_by t (One e x)) (kind-delimiter d)
delimiter-step t (Two e x y) d = ap (step_by t (Two e x y)) (kind-delimiter d)

run-delimited : (t : Text) (p : Pending) (at : ℕ) (d : Delimiter) (cs : List Char)
    → run (place t p) at (delimiter_char d ∷ cs)
    ≡ placed at (broken_off p) ++ run (place (begins_in t p) Nothing) at (delimiter_char d ∷ cs)
unfolding run
run-delimited t p at d cs =
    ap (λ (s : ReaderStep). placed at s.gives ++ run s.place (suc at) cs) (delimiter-step t p d)
    ∙ ap (λ (u : Text). placed at (broken_off p) ++ run (place u (Opened d)) (suc at) cs)
    (sym (begins_opened t p))
    ∙ ap (λ (s : ReaderStep). placed at (broken_off p)
    ++ (placed at s.gives ++ run s.place (suc at) cs))
    (sym (delimiter-step (begins_in t p) Nothing d))

place_after-delimited : (t : Text) (p : Pending) (d : Delimiter) (cs : List Char)
    → place_after (place t p) (delimiter_char d ∷ cs)
    ≡ place_after (place (begins_in t p) Nothing) (delimiter_char d ∷ cs)
unfolding place_after
place_after-delimited t p d cs =
    ap (λ (s : ReaderStep). place_after s.place cs) (delimiter-step t p d)
    ∙ ap (λ (u : Text). place_after (place u (Opened d)) cs) (sym (begins_opened t p))
    ∙ ap (λ (s : ReaderStep). place_after s.place cs)
    (sym (delimiter-step (begins_in t p) Nothing d))

pub run-symbol_anywhere : (t : Text) (p : Pending) (at : ℕ) (s : Fields) → InRange s
    → run (place t p) at (symbol_chars_of s)
    ≡ placed at (broken_off p) ++ placed (at + 3) (told (begins_in t p) s)
unfolding symbol_chars_of
run-symbol_anywhere t p at s range =
    run-delimited t p at (delimiter_of s) (data_chars (symbol_bytes s))
    ∙ ap (λ (es : List (ℕ × Event)). placed at (broken_off p) ++ es)
    (run-symbol (begins_in t p) at s (begins_open t p) range)

pub place_after-symbol_anywhere : (t : Text) (p : Pending) (s : Fields) → InRange s
    → place_after (place t p) (symbol_chars_of s) ≡ place (text_after (begins_in t p) s.s1) Nothing
unfolding symbol_chars_of
place_after-symbol_anywhere t p s range =
    place_after-delimited t p (delimiter_of s) (data_chars (symbol_bytes s))
    ∙ place_after-symbol (begins_in t p) s (begins_open t p) range

pub run-packet_anywhere : (t : Text) (p : Pending) (at n : ℕ) (first : Fields) (ack : ℕ)
    (packet : List ℕ) (last : Fields)
    → InRange first → first.s1 ≡ 0 → ack < 32 → Passes packet → InRange last → last.s1 ≡ 2
    → n ≡ at + 7 + length packet
    → run (place t p) at (packet_chars_of first ack packet last)
    ≡ placed at (broken_off p)
    ++ (placed (at + 3) (told (begins_in t p) first) ++ (n, Pkt ack packet) ∷ (n, Ctl last) ∷ [])
unfolding packet_chars_of symbol_chars_of
run-packet_anywhere t p at n first ack packet last in_first starts few passes in_last ends e =
    run-delimited t p at (delimiter_of first)
    (data_chars (symbol_bytes first)
    ++ (data_chars (bytes_with_ack ack packet) ++ symbol_chars_of last))
    ∙ ap (λ (es : List (ℕ × Event)). placed at (broken_off p) ++ es)
    (run-packet (begins_in t p) at n first ack packet last (begins_open t p) in_first starts few
    passes in_last ends e)

pub place_after-packet_anywhere : (t : Text) (p : Pending) (first : Fields) (ack : ℕ)
    (packet : List ℕ) (last : Fields)
    → InRange first → first.s1 ≡ 0 → ack < 32 → Passes packet → InRange last → last.s1 ≡ 2
    → place_after (place t p) (packet_chars_of first ack packet last) ≡ place_start
unfolding packet_chars_of symbol_chars_of
place_after-packet_anywhere t p first ack packet last in_first starts few passes in_last ends =
    place_after-delimited t p (delimiter_of first)
    (data_chars (symbol_bytes first)
    ++ (data_chars (bytes_with_ack ack packet) ++ symbol_chars_of last))
    ∙ place_after-packet (begins_in t p) first ack packet last (begins_open t p) in_first starts few
    passes in_last ends
