-- What has room behind a line has room before it.
use Rattle.std.proofs.Common.{◌≡◌, ℕ, Bool, true, false, zero, suc, ◌+◌, ◌<◌, ◌≤◌, ◌==◌, Option, Some, None, Result, Ok, Err, List, [], ◌∷◌, length, slice_set, slice_index_or, if◌then◌else◌, refl, sym, ap, ◌∙◌, subst, arith}
use Rattle.std.specs.Prelude.{nat_lt, OnErr}
use Rattle.std.proofs.lemmas.Bool.{ltb-true, lt-ltb}
use Rattle.rio_symbols.specs.Fields.{Fields}
use Rattle.link_model.specs.declared.event.Event.{Event}
use Rattle.link_model.specs.declared.event.Event.TheVariants.{Ctl, Pkt, Bad}
use Rattle.trace_counts.specs.declared.sums.Sums.{Sums}
use Rattle.trace_counts.specs.declared.sums.LineCounts.{LineCounts}
use Rattle.trace_counts.specs.declared.sums.LineKind.{LineKind}
use Rattle.trace_counts.specs.declared.sums.LineKind.TheVariants.{Take, MoveIn, MoveOut, Hold, Free, Drop, Answer, Leave, Fire}
use Rattle.trace_counts.specs.Sums.{PortCounts, noted, noted_all, nothing_done, one_more, packet_counted, with_symbol, kind_raised}
use Rattle.rio_symbols.specs.declared.stype0.TheConstants.{PACKET_NOT_ACCEPTED}
use Rattle.rio_framer.specs.Giving.{listed}
use Rattle.fabric_script.specs.declared.ports.PortRef.{PortRef}
use Rattle.trace_counts.specs.Counts.{at_port, count_place, with_line_kind}
use Rattle.trace_counts.specs.Room.{HasRoom, EachHasRoom, SumsHaveRoom, PortsHaveRoom, line_sums}

-- what is set has room if all have
pub room-at : (ns : List ℕ) (i n : ℕ) → i < length ns → EachHasRoom (slice_set ns i n) → HasRoom n
room-at [] i n within room = absurd (omega (arith, within))
room-at (m ∷ ns) zero n within room = room.0
room-at (m ∷ ns) (suc i) n within room = room-at ns i n (omega (arith, within)) room.1

-- one more of a kind
pub room-one_more : (ns : List ℕ) (i : ℕ) → EachHasRoom (one_more ns i) → EachHasRoom ns
room-one_more [] i room = room
room-one_more (m ∷ ns) zero room = (omega (arith, room.0), room.1)
room-one_more (m ∷ ns) (suc i) room = (room.0, room-one_more ns i room.1)

room-cause : (b : Bool) (ns : List ℕ) (i : ℕ)
    → EachHasRoom (if b then one_more ns i else ns) → EachHasRoom ns
room-cause true ns i room = room-one_more ns i room
room-cause false ns i room = room

room-greater : (b : Bool) (m n : ℕ) → nat_lt m n ≡ b → HasRoom (if b then n else m) → HasRoom m
room-greater true m n is room = omega (arith, ltb-true m n is, room)
room-greater false m n is room = room

room-symbol : (c : Sums) (s : Fields) → SumsHaveRoom (with_symbol c s) → SumsHaveRoom c
room-symbol c s room = record {
  characters = room.characters;
  packets = room.packets;
  bad = room.bad;
  senders = room-one_more c.senders s.s0 room.senders;
  receivers = room-one_more c.receivers s.s1 room.receivers;
  causes = room-cause _ c.causes s.p1 room.causes;
  used = room.used;
  most = room.most;
  lines = room.lines;
}

room-packet : (c : Sums) (ack : ℕ) → SumsHaveRoom (packet_counted c ack) → SumsHaveRoom c
room-packet c ack room = record {
  characters = room.characters;
  packets = omega (arith, room.packets);
  bad = room.bad;
  senders = room.senders;
  receivers = room.receivers;
  causes = room.causes;
  used = room-greater _ c.used _ refl room.used;
  most = room-greater _ c.most _ refl room.most;
  lines = room.lines;
}

pub room-noted : (c : Sums) (e : Event) → SumsHaveRoom (noted c e) → SumsHaveRoom c
room-noted c (Ctl s) room = room-symbol c s room
room-noted c (Pkt ack packet) room = room-packet c ack room
room-noted c (Bad cause) room = record {
  characters = room.characters;
  packets = room.packets;
  bad = omega (arith, room.bad);
  senders = room.senders;
  receivers = room.receivers;
  causes = room.causes;
  used = room.used;
  most = room.most;
  lines = room.lines;
}

pub room-noted_all : (c : Sums) (es : List Event) → SumsHaveRoom (noted_all c es) → SumsHaveRoom c
room-noted_all c [] room = room
room-noted_all c (e ∷ es) room = room-noted c e (room-noted_all (noted c e) es room)

pub room-kind : (c : LineCounts) (k : LineKind) → EachHasRoom (line_sums (kind_raised c k))
    → EachHasRoom (line_sums c)
room-kind c Take room = room-one_more (line_sums c) 0 room
room-kind c MoveIn room = room-one_more (line_sums c) 1 room
room-kind c MoveOut room = room-one_more (line_sums c) 2 room
room-kind c Hold room = room-one_more (line_sums c) 3 room
room-kind c Free room = room-one_more (line_sums c) 4 room
room-kind c Drop room = room-one_more (line_sums c) 5 room
room-kind c Answer room = room-one_more (line_sums c) 6 room
room-kind c Leave room = room-one_more (line_sums c) 7 room
room-kind c Fire room = room-one_more (line_sums c) 8 room

-- what is set at a port has room if all have
pub room-port : (all : List PortCounts) (i : ℕ) (c : PortCounts) → i < length all
    → PortsHaveRoom (slice_set all i c) → SumsHaveRoom c.sums
room-port [] i c within room = absurd (omega (arith, within))
room-port (d ∷ all) zero c within room = room.0
room-port (d ∷ all) (suc i) c within room = room-port all i c (omega (arith, within)) room.1

pub room-ports : (all : List PortCounts) (i : ℕ) (c : PortCounts)
    → (SumsHaveRoom c.sums → SumsHaveRoom (slice_index_or all i nothing_done).sums)
    → PortsHaveRoom (slice_set all i c) → PortsHaveRoom all
room-ports [] i c before room = room
room-ports (d ∷ all) zero c before room = (before room.0, room.1)
room-ports (d ∷ all) (suc i) c before room = (room.0, room-ports all i c before room.1)

-- a symbol of a kind of which there are too many
pub full-senders : (c : Sums) (s : Fields) → s.s0 < length c.senders
    → 18446744073709551616 ≤ slice_index_or c.senders s.s0 0 + 1
    → SumsHaveRoom (with_symbol c s) → ⊥
full-senders c s within many room =
    omega (arith, many, room-at c.senders s.s0 _ within room.senders)

pub full-receivers : (c : Sums) (s : Fields) → s.s1 < length c.receivers
    → 18446744073709551616 ≤ slice_index_or c.receivers s.s1 0 + 1
    → SumsHaveRoom (with_symbol c s) → ⊥
full-receivers c s within many room =
    omega (arith, many, room-at c.receivers s.s1 _ within room.receivers)

pub full-causes : (c : Sums) (s : Fields) → (s.s0 == PACKET_NOT_ACCEPTED) ≡ true
    → s.p1 < length c.causes → 18446744073709551616 ≤ slice_index_or c.causes s.p1 0 + 1
    → SumsHaveRoom (with_symbol c s) → ⊥
full-causes c s refused within many room =
    let causes : EachHasRoom (one_more c.causes s.p1) = subst
    (λ b. EachHasRoom (if b then one_more c.causes s.p1 else c.causes)) refused room.causes in
    omega (arith, many, room-at c.causes s.p1 _ within causes)

-- of two events, what the first adds
pub room-ended : (c : Sums) (ended : Option Event) (s : Fields)
    → SumsHaveRoom (noted_all c (listed ended (Some s)))
    → SumsHaveRoom (noted_all c (listed ended None))
room-ended c (Some e) s room = room-noted (noted c e) (Ctl s) room
room-ended c None s room = room-noted c (Ctl s) room

room-line : (c : PortCounts) (k : LineKind) → SumsHaveRoom (with_line_kind k c).sums
    → SumsHaveRoom c.sums
room-line c k room = record {
  characters = room.characters;
  packets = room.packets;
  bad = room.bad;
  senders = room.senders;
  receivers = room.receivers;
  causes = room.causes;
  used = room.used;
  most = room.most;
  lines = room-kind c.sums.lines k room.lines;
}

room-if : (b : Bool) (all : List PortCounts) (i : ℕ) (k : LineKind)
    → PortsHaveRoom (if b
    then slice_set all i (with_line_kind k (slice_index_or all i nothing_done)) else all)
    → PortsHaveRoom all
room-if true all i k room =
    let one = slice_index_or all i nothing_done in
    room-ports all i (with_line_kind k one) (room-line one k) room
room-if false all i k room = room

-- a line at another port before
pub room-before : (all : List PortCounts) (p : PortRef) (k : LineKind)
    → PortsHaveRoom (at_port all p (with_line_kind k)) → PortsHaveRoom all
room-before all p k room = room-if _ all (count_place p) k room

-- what stands at a place, whatever would stand behind the end
one-at : (all : List PortCounts) (n : ℕ) (c d : PortCounts) → n < length all
    → slice_index_or all n c ≡ slice_index_or all n d
one-at [] n c d within = absurd (omega (arith, within))
one-at (e ∷ all) zero c d within = refl
one-at (e ∷ all) (suc n) c d within = one-at all n c d (omega (arith, within))

-- a port of which there is no room for the sums
pub full-port : (all : List PortCounts) (p : PortRef) (change : PortCounts → PortCounts) (n : ℕ)
    (one : PortCounts) → n ≡ count_place p → n < length all
    → one ≡ slice_index_or all n one → (SumsHaveRoom (change one).sums → ⊥)
    → PortsHaveRoom (at_port all p change) → ⊥
full-port all p change n one place within one_is none room =
    let i = count_place p in
    let there : i < length all = subst (λ k. k < length all) place within in
    let here : one ≡ slice_index_or all i nothing_done =
    one_is ∙ one-at all n one nothing_done within
    ∙ ap (λ k. slice_index_or all k nothing_done) place in
    let set : PortsHaveRoom (slice_set all i (change (slice_index_or all i nothing_done))) = subst
    (λ b. PortsHaveRoom (if b then slice_set all i (change (slice_index_or all i nothing_done))
    else all)) (lt-ltb i (length all) there) room in
    none (subst (λ c. SumsHaveRoom (change c).sums) (sym here) (room-port all i _ there set))

pub on_err : {T E P : Type 0} (r : Result T E) → P → OnErr r P
on_err (Ok x) p = tt
on_err (Err e) p = p
