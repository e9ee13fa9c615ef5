-- The symbols that are read have ackIDs of five bits.
use Rattle.link_machine.proofs.Prelude.{ℕ, suc, ◌<◌, Bool, true, false, Option, Some, None, List, All, [], ◌∷◌, if◌then◌else◌, arith, nat_lt, length, All-nil, All-cons, All-append, All-map, Char, Delimiter, allowed, Fields, is_spelling, fields_at, spelled, Event, Ctl, Pending, Nothing, Opened, One, Two, packet_or_cause, packet_event, Place, byte_added, symbol_taken, finished, step_by, step, run, Text, Plain, Skipped, Within, packet_ended, ends_packet, told, placed, kind, HasAck}
use Rattle.rio_packets.specs.Carries.{carried}
use Rattle.rio_packets.specs.declared.cause.Cause.{Cause}
use Rattle.rio_packets.specs.declared.cause.Cause.TheVariants.{General, BadPacket}
use Rattle.link_model.specs.declared.reading_kinds.CharKind.{CharKind}
use Rattle.link_model.specs.declared.reading_kinds.CharKind.TheVariants.{Byte, Opens, Idle, Stray}

-- an event at a place
abbrev pub HasAckAt : ℕ × Event → Type 0
HasAckAt placed_event = HasAck placed_event.1

one : (e : Event) → HasAck e → All HasAck (e ∷ [])
one e has = All-cons HasAck e [] has (All-nil HasAck)

found_has : (found : Option (ℕ × List ℕ)) (cause : Cause) → HasAck (packet_or_cause found cause)
found_has (Some found) cause = tt
found_has None cause = tt

packet_has : (bytes : List ℕ) → HasAck (packet_event bytes)
unfolding packet_event
packet_has bytes =
    found_has (carried bytes) (if nat_lt (length bytes) 8 then General else BadPacket)

ended_has : (t : Text) → All HasAck (packet_ended t)
ended_has Plain = All-nil HasAck
ended_has Skipped = All-nil HasAck
ended_has (Within bytes) = one (packet_event bytes) (packet_has bytes)

front_has : (ends : Bool) (t : Text) → All HasAck (if ends then packet_ended t else [])
front_has true t = ended_has t
front_has false t = All-nil HasAck

told_has : (t : Text) (s : Fields) → s.p0 < 32 → All HasAck (told t s)
told_has t s below =
    All-append HasAck (if ends_packet s.s1 then packet_ended t else []) (Ctl s ∷ [])
    (front_has (ends_packet s.s1) t) (one (Ctl s) below)

taken_has : (t : Text) (s : Fields) (b : Bool) → s.p0 < 32 → All HasAck (symbol_taken t s b).gives
taken_has t s true below = told_has t s below
taken_has t s false below = one _ tt

spelling_has : (t : Text) (d : Delimiter) (x y z : ℕ) (b : Bool)
    → All HasAck (finished t d (if b then Some (fields_at x y z) else None)).gives
spelling_has t d x y z true =
    taken_has t (fields_at x y z) (allowed d (fields_at x y z)) (omega arith)
spelling_has t d x y z false = one _ tt

finished_has : (t : Text) (d : Delimiter) (x y z : ℕ)
    → All HasAck (finished t d (spelled x y z)).gives
unfolding spelled
finished_has t d x y z = spelling_has t d x y z (is_spelling x y z)

added_has : (bytes : List ℕ) (i : ℕ) (b : Bool) → All HasAck (byte_added bytes i b).gives
added_has bytes i true = All-nil HasAck
added_has bytes i false = one _ tt

by_has : (t : Text) (p : Pending) (k : CharKind) → All HasAck (step_by t p k).gives
by_has t Nothing (Opens d) = All-nil HasAck
by_has Plain Nothing Idle = All-nil HasAck
by_has Plain Nothing (Byte i) = one _ tt
by_has Plain Nothing Stray = one _ tt
by_has Skipped Nothing Idle = All-nil HasAck
by_has Skipped Nothing (Byte i) = All-nil HasAck
by_has Skipped Nothing Stray = All-nil HasAck
by_has (Within bytes) Nothing Idle = one _ tt
by_has (Within bytes) Nothing (Byte i) = added_has bytes i (nat_lt (length bytes) 276)
by_has (Within bytes) Nothing Stray = one _ tt
by_has t (Opened d) (Opens e) = one _ tt
by_has t (Opened d) Idle = one _ tt
by_has t (Opened d) (Byte x) = All-nil HasAck
by_has t (Opened d) Stray = one _ tt
by_has t (One d x) (Opens e) = one _ tt
by_has t (One d x) Idle = one _ tt
by_has t (One d x) (Byte y) = All-nil HasAck
by_has t (One d x) Stray = one _ tt
by_has t (Two d x y) (Opens e) = one _ tt
by_has t (Two d x y) Idle = one _ tt
by_has t (Two d x y) (Byte z) = finished_has t d x y z
by_has t (Two d x y) Stray = one _ tt

placed_has : (at : ℕ) (es : List Event) → All HasAck es → All HasAckAt (placed at es)
placed_has at es has = All-map HasAckAt (λ e. (at, e)) es has

-- whatever characters are read from whatever place
pub run_has : (from : Place) (at : ℕ) (cs : List Char) → All HasAckAt (run from at cs)
unfolding run
run_has from at [] = All-nil HasAckAt
run_has from at (c ∷ cs) =
    All-append HasAckAt (placed at (step from c).gives) (run (step from c).place (suc at) cs)
    (placed_has at (step from c).gives (by_has from.text from.pending (kind c)))
    (run_has (step from c).place (suc at) cs)
