-- No sender fails within a delivery of a trace.
use Rattle.fabric_trace.proofs.Prelude.{◌≡◌, ◌++◌, Bool, true, false, List, [], ◌∷◌, map, take, None, sym, ap, ◌∙◌, subst, if◌then◌else◌, All-take, Char, run, Side, A, B, told_of, bursts, answers, Move, Held, Freed, sent_notes, delivery_from, move_note, told_notes, is_silent, HasAckAt, run_has, PortRef, lines_of, seen_line, seen, Seen, port_seen, kept_of, link_at, TraceLine, Got, Signed, WorksWithin, NeverFailWithin, Part, PartBegins, PartLacks, PartEnds, PartNames, PartSteps, PartServes, PartTurns, PartTells, PartDelivers, PartFires, Made, Done, Then, tell_sends}
use Rattle.link_watch.specs.declared.note.Note.TheVariants as Notes
use Rattle.link_machine.proofs.Ways.{events_work}
use Rattle.fabric_trace.proofs.Parts.Keeping.{IsGood, part_keeps}

-- a port of a sound link
got_works : (s : Seen) (q : PortRef) (chars : List Char) → IsGood s → s.undetected ≡ None
    → WorksWithin s (Signed (Got q chars))
got_works s q chars good none p events peer =
    let link = (good.links none q p peer).sound in
    events_work (port_seen s q) (port_seen s p) (kept_of (s.wires q)) (kept_of (s.wires p))
    (take events (run (port_seen s q).place 0 chars)) link.port_a link.port_b
    (All-take HasAckAt events (run (port_seen s q).place 0 chars)
    (run_has (port_seen s q).place 0 chars)) link.sound

-- ---- lines in which no port gets anything

sent_ways : (a b : PortRef) (side : Side) (chars : List Char) (s : Seen)
    → NeverFailWithin s (lines_of a b (sent_notes side chars))
sent_ways a b side [] s = tt
sent_ways a b side (c ∷ chars) s = (tt, tt)

moves_ways : (a b : PortRef) (side : Side) (moves : List Move) (chars : List Char) (s : Seen)
    → NeverFailWithin s (lines_of a b (map (move_note side) moves ++ sent_notes side chars))
moves_ways a b side [] chars s = sent_ways a b side chars s
moves_ways a b side (Held packet ∷ moves) chars s = (tt, moves_ways a b side moves chars _)
moves_ways a b side (Freed packet ∷ moves) chars s = (tt, moves_ways a b side moves chars _)

fire_ways : (a b : PortRef) (silent : Bool) (s : Seen)
    → NeverFailWithin s (lines_of a b (if silent then Notes.Fire A ∷ [] else []))
fire_ways a b true s = (tt, tt)
fire_ways a b false s = tt

-- ---- parts

by_lines : (s : Seen) {lines other : List TraceLine} → lines ≡ other → NeverFailWithin s other
    → NeverFailWithin s lines
by_lines s is ways = subst (NeverFailWithin s) (sym is) ways

part_ways : {s : Seen} {lines : List TraceLine} → IsGood s → Part s lines → NeverFailWithin s lines
part_ways {s} good (PartBegins line is) = by_lines s is (tt, tt)
part_ways {s} good (PartLacks lack is) = by_lines s is (tt, tt)
part_ways {s} good (PartEnds is) = by_lines s is (tt, tt)
part_ways {s} good (PartNames number q e found is) = by_lines s is (tt, tt)
part_ways {s} good (PartSteps step needs few is) = by_lines s is (tt, tt)
part_ways {s} good (PartServes step needs is) = by_lines s is (tt, tt)
part_ways {s} good (PartTurns p q n peer none is) =
    by_lines s is (sent_ways p q A (bursts n (link_at s p q).a).chars s)
part_ways {s} good (PartTells p q peer none is) =
    by_lines s is (sent_ways p q A (tell_sends (link_at s p q).a).chars s)
part_ways {s} good (PartDelivers p q n peer none has is) =
    let told = told_of (delivery_from A n (link_at s p q)) in
    let chars = take told.count (take n (s.wires p).chars) in
    by_lines s (is ∙ ap (λ x. lines_of p q
    (if x then told_notes B (take n (s.wires p).chars) told else [])) has)
    (got_works s q chars good none, moves_ways p q B told.moves (answers told.replies).chars _)
part_ways {s} good (PartFires p q peer none silent is) =
    by_lines s is (fire_ways p q (is_silent (link_at s p q)) s)

ways-append : (xs ys : List TraceLine) (s : Seen) → NeverFailWithin s xs
    → NeverFailWithin (seen s xs) ys → NeverFailWithin s (xs ++ ys)
ways-append [] ys s one two = two
ways-append (x ∷ xs) ys s one two = (one.0, ways-append xs ys (seen_line s x) one.1 two)

pub made_ways : {s : Seen} {lines : List TraceLine} → IsGood s → Made s lines
    → NeverFailWithin s lines
made_ways {s} good (Done is) = by_lines s is tt
made_ways {s} good (Then first rest is own more) =
    by_lines s is
    (ways-append first rest s (part_ways good own) (made_ways (part_keeps good own).good more))

pub ways_front : (xs ys : List TraceLine) (s : Seen) → NeverFailWithin s (xs ++ ys)
    → NeverFailWithin s xs
ways_front [] ys s ways = tt
ways_front (x ∷ xs) ys s ways = (ways.0, ways_front xs ys (seen_line s x) ways.1)
