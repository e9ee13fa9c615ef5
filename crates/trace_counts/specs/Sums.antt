-- What a port did, as sums over the lines that name it and over what its characters say.
use Rattle.std.specs.Prelude.{ℕ, min, ◌+◌, ◌-◌, ◌%◌, ◌==◌, nat_lt, List, [], ◌∷◌, length, slice_index_or, slice_set, replicate, if◌then◌else◌}
use Rattle.rio_chars.specs.declared.chars.Char.{Char}
use Rattle.rio_symbols.specs.declared.stype0.TheConstants.{PACKET_NOT_ACCEPTED}
use Rattle.rio_symbols.specs.Fields.{Fields}
use Rattle.link_model.specs.declared.event.Event.{Event}
use Rattle.link_model.specs.declared.event.Event.TheVariants.{Ctl, Pkt, Bad}
use Rattle.link_model.specs.Places.{Place, place_start, place_after}
use Rattle.link_model.specs.Said.{said}
use Rattle.trace_counts.specs.declared.sums.Sums.{Sums}
use Rattle.trace_counts.specs.declared.sums.LineCounts.{LineCounts}
use Rattle.trace_counts.specs.declared.sums.LineKind.{LineKind}
use Rattle.trace_counts.specs.declared.sums.LineKind.TheVariants.{Take, MoveIn, MoveOut, Hold, Free, Drop, Answer, Leave, Fire}

-- a line of this kind more
abbrev pub kind_raised : LineCounts → LineKind → LineCounts
kind_raised c Take = record c { takes = c.takes + 1 }
kind_raised c MoveIn = record c { moves_in = c.moves_in + 1 }
kind_raised c MoveOut = record c { moves_out = c.moves_out + 1 }
kind_raised c Hold = record c { holds = c.holds + 1 }
kind_raised c Free = record c { frees = c.frees + 1 }
kind_raised c Drop = record c { drops = c.drops + 1 }
kind_raised c Answer = record c { answers = c.answers + 1 }
kind_raised c Leave = record c { leaves = c.leaves + 1 }
kind_raised c Fire = record c { fires = c.fires + 1 }

-- one more of the kind with this number
abbrev pub one_more : List ℕ → ℕ → List ℕ
one_more counts kind = slice_set counts kind (slice_index_or counts kind 0 + 1)

abbrev pub greater : ℕ → ℕ → ℕ
greater a b = if nat_lt a b then b else a

-- How many packets are outstanding, the one with this ackID the last of them, if so many were
-- freed: the oldest one that is not freed has the ackID of that number modulo 32.
abbrev pub outstanding : ℕ → ℕ → ℕ
outstanding frees ack = (ack % 32 + 32 - frees % 32) % 32 + 1

-- a packet more
abbrev pub packet_counted : Sums → ℕ → Sums
packet_counted c ack = record c {
  packets = c.packets + 1;
  used = greater c.used (c.lines.frees + outstanding c.lines.frees ack);
  most = greater c.most (outstanding c.lines.frees ack);
}

-- a symbol more
abbrev pub with_symbol : Sums → Fields → Sums
with_symbol c s = record c {
  senders = one_more c.senders s.s0;
  receivers = one_more c.receivers s.s1;
  causes = if s.s0 == PACKET_NOT_ACCEPTED then one_more c.causes s.p1 else c.causes;
}

-- an event more
abbrev pub noted : Sums → Event → Sums
noted c (Ctl s) = with_symbol c s
noted c (Pkt ack packet) = packet_counted c ack
noted c (Bad cause) = record c { bad = c.bad + 1 }

abbrev pub noted_all : Sums → List Event → Sums
noted_all c [] = c
noted_all c (e ∷ es) = noted_all (noted c e) es

-- the sums of a port, and where the reading of what it sends is
pub record PortCounts : Type 0 where
  pub place : Place
  pub sums : Sums

-- the port sends characters: what they say is noted
abbrev pub sent : PortCounts → List Char → PortCounts
sent c chars = record {
  place = place_after c.place chars;
  sums = noted_all (record c.sums { characters = c.sums.characters + length chars })
      (said c.place chars);
}

abbrev pub no_counts : LineCounts
no_counts = record {
  takes = 0;
  moves_in = 0;
  moves_out = 0;
  holds = 0;
  frees = 0;
  drops = 0;
  answers = 0;
  leaves = 0;
  fires = 0;
}

abbrev pub no_sums : Sums
no_sums = record {
  characters = 0;
  packets = 0;
  bad = 0;
  senders = replicate 8 0;
  receivers = replicate 8 0;
  causes = replicate 32 0;
  used = 0;
  most = 0;
  lines = no_counts;
}

abbrev pub nothing_done : PortCounts
nothing_done = record { place = place_start; sums = no_sums }

-- a number that fits into 64 bits, or the greatest that does
abbrev pub capped : ℕ → ℕ
capped n = min n 18446744073709551615

-- how often a packet was sent with an ackID that was used already
abbrev pub sent_again : Sums → ℕ
sent_again c = c.packets - c.used

-- How many packets are to be sent, or were sent and not freed. What came in is counted up to 2^64
-- less 1.
abbrev pub left_to_send : LineCounts → ℕ
left_to_send c = capped (c.takes + c.moves_in + c.answers) - c.frees

-- how many packets are held
abbrev pub still_held : LineCounts → ℕ
still_held c = c.holds - (c.moves_out + c.drops + c.answers + c.leaves)

-- four totals with a port more: what was taken, answered, left and was dropped there
abbrev pub totals_with : List ℕ → LineCounts → List ℕ
totals_with total c =
    capped (slice_index_or total 0 0 + c.takes)
    ∷ capped (slice_index_or total 1 0 + c.answers)
    ∷ capped (slice_index_or total 2 0 + c.leaves)
    ∷ capped (slice_index_or total 3 0 + c.drops) ∷ []
