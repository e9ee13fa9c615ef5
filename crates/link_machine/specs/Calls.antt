-- What each call of a link does to it, and what it notes.
use Rattle.std.specs.Prelude.{ℕ, nat_le, Bool, true, false, ◌&&◌, ◌++◌, List, [], ◌∷◌, length, map, take, if◌then◌else◌}
use Rattle.rio_chars.specs.declared.chars.Char.{Char}
use Rattle.link_port.specs.Turns.{tell_sends, timed_out}
use Rattle.link_watch.specs.Sides.{other_side}
use Rattle.link_watch.specs.declared.note.Note.{Note}
use Rattle.link_watch.specs.declared.note.Note.TheVariants.{Sent, Got, Hold, Free, Fire}
use Rattle.link_watch.specs.declared.side.Side.{Side}
use Rattle.link_wires.specs.Wires.{with_sent, port_turned, bursts, answers, without_front, silenced, after_edit}
use Rattle.link_wires.specs.Deliveries.{Told, Delivered, Through, WentUndetected, delivered, told_of}
use Rattle.rio_chars.specs.declared.edit.Edit.{Edit}
use Rattle.link_wires.specs.declared.moves.Move.{Move}
use Rattle.link_wires.specs.declared.moves.Move.TheVariants.{Held, Freed}
use Rattle.link_machine.specs.States.{LinkState, at_end, from_end}

-- characters that a port sent, where there are any
abbrev pub sent_notes : Side → List Char → List Note
sent_notes side [] = []
sent_notes side (c ∷ chars) = Sent side (c ∷ chars) ∷ []

-- ---- turns

-- the first port takes turns, and what it sends goes on its wire
abbrev pub first_turns : ℕ → LinkState → LinkState
first_turns n s = record s { a = port_turned n s.a; wire_a = with_sent s.wire_a (bursts n s.a) }

abbrev pub pumped : Side → ℕ → LinkState → LinkState
pumped from n = at_end from (first_turns n)

abbrev pub pump_notes : Side → ℕ → LinkState → List Note
pump_notes from n s = sent_notes from (bursts n (from_end from s).a).chars

-- ---- statuses

-- the first port tells its free buffers, if it does, and its status goes on its wire
abbrev pub first_tells : LinkState → LinkState
first_tells s = record s { wire_a = with_sent s.wire_a (tell_sends s.a) }

abbrev pub told_from : Side → LinkState → LinkState
told_from from = at_end from first_tells

abbrev pub tell_notes : Side → LinkState → List Note
tell_notes from s = sent_notes from (tell_sends (from_end from s).a).chars

-- ---- deliveries

-- what the first port does with characters of the far port's wire
abbrev pub delivery : ℕ → LinkState → Delivered
delivery count s = delivered s.a s.wire_b.kept (take count s.wire_b.chars)

-- The first port took characters, and its answers go on its own wire. Nothing is said of the link
-- after an event that was not sent.
abbrev pub after_delivery : ℕ → Delivered → LinkState → LinkState
after_delivery count (Through flow) s = record {
  a = flow.port;
  b = s.b;
  wire_a = with_sent s.wire_a (answers flow.told.replies);
  wire_b = without_front count flow.kept s.wire_b;
}
after_delivery count (WentUndetected told e) s = s

abbrev pub first_takes : ℕ → LinkState → LinkState
first_takes count s = after_delivery count (delivery count s) s

-- whether so many characters stand on the wire of the port at this end
abbrev pub has_chars : Side → ℕ → LinkState → Bool
has_chars from count s = nat_le count (length (from_end from s).wire_a.chars)

-- what the port at the other end does with them
abbrev pub delivery_from : Side → ℕ → LinkState → Delivered
delivery_from from count s = delivery count (from_end (other_side from) s)

abbrev pub delivered_from : Side → ℕ → LinkState → LinkState
delivered_from from count s =
    if has_chars from count s then at_end (other_side from) (first_takes count) s else s

abbrev pub move_note : Side → Move → Note
move_note side (Held packet) = Hold side packet
move_note side (Freed packet) = Free side packet

-- The characters that the port at this end got, up to an event that was not sent; then what it held
-- and freed, in order; then its answers, joined.
abbrev pub told_notes : Side → List Char → Told → List Note
told_notes to chars told =
    Got to (take told.count chars)
    ∷ (map (move_note to) told.moves ++ sent_notes to (answers told.replies).chars)

abbrev pub delivery_notes : Side → ℕ → LinkState → List Note
delivery_notes from count s =
    if has_chars from count s
    then told_notes (other_side from) (take count (from_end from s).wire_a.chars)
    (told_of (delivery_from from count s))
    else []

-- ---- edits

abbrev pub first_edited : Edit → LinkState → LinkState
first_edited edit s = record s { wire_a = after_edit edit s.wire_a }

abbrev pub edited_from : Side → Edit → LinkState → LinkState
edited_from from edit = at_end from (first_edited edit)

-- ---- time-outs

abbrev pub has_none : List Char → Bool
has_none [] = true
has_none (c ∷ chars) = false

-- whether nothing stands on either wire
abbrev pub is_silent : LinkState → Bool
is_silent s = has_none s.wire_a.chars && has_none s.wire_b.chars

-- the time-out of the first port fires, and what was sent before, both ways, is not spoken of any
-- more
abbrev pub first_fires : LinkState → LinkState
first_fires s =
    record { a = timed_out s.a; b = s.b; wire_a = silenced s.wire_a; wire_b = silenced s.wire_b }

abbrev pub timed_out_at : Side → LinkState → LinkState
timed_out_at side s = if is_silent s then at_end side first_fires s else s

abbrev pub time_out_notes : Side → LinkState → List Note
time_out_notes side s = if is_silent s then Fire side ∷ [] else []
