-- Each free stands in the notes of a delivery.
use Rattle.fabric_trace.proofs.Prelude.{◌≡◌, ◌++◌, Bool, true, false, List, [], ◌∷◌, map, take, sym, ap, ◌∙◌, subst, if◌then◌else◌, Char, Side, A, B, told_of, bursts, answers, Move, Held, Freed, sent_notes, delivery_from, move_note, told_notes, is_silent, PortRef, same_port, TraceLine, Seen, link_at, lines_of, is_noting, FreesNoted, Part, PartBegins, PartLacks, PartEnds, PartNames, PartSteps, PartServes, PartTurns, PartTells, PartDelivers, PartFires, Made, Done, Then, tell_sends}
use Rattle.link_watch.specs.declared.note.Note.TheVariants as Notes

sent_noted : (c a b : PortRef) (side : Side) (chars : List Char) (now : Bool)
    → FreesNoted c now (lines_of a b (sent_notes side chars))
sent_noted c a b side [] now = tt
sent_noted c a b side (x ∷ chars) now = (tt, tt)

moves_noted : (c p q : PortRef) (moves : List Move) (chars : List Char)
    → FreesNoted c (same_port c q) (lines_of p q (map (move_note B) moves ++ sent_notes B chars))
moves_noted c p q [] chars = sent_noted c p q B chars (same_port c q)
moves_noted c p q (Held packet ∷ moves) chars = (tt, moves_noted c p q moves chars)
moves_noted c p q (Freed packet ∷ moves) chars = (λ here. here, moves_noted c p q moves chars)

fire_noted : (c a b : PortRef) (silent now : Bool)
    → FreesNoted c now (lines_of a b (if silent then Notes.Fire A ∷ [] else []))
fire_noted c a b true now = (tt, tt)
fire_noted c a b false now = tt

by_lines : (c : PortRef) (now : Bool) (lines other : List TraceLine) → lines ≡ other
    → FreesNoted c now other → FreesNoted c now lines
by_lines c now lines other is noted = subst (FreesNoted c now) (sym is) noted

part_noted : (c : PortRef) (now : Bool) (s : Seen) (lines : List TraceLine) → Part s lines
    → FreesNoted c now lines
part_noted c now s lines (PartBegins line is) = by_lines c now lines _ is (tt, tt)
part_noted c now s lines (PartLacks lack is) = by_lines c now lines _ is (tt, tt)
part_noted c now s lines (PartEnds is) = by_lines c now lines _ is (tt, tt)
part_noted c now s lines (PartNames number q e found is) = by_lines c now lines _ is (tt, tt)
part_noted c now s lines (PartSteps step needs few is) = by_lines c now lines _ is (tt, tt)
part_noted c now s lines (PartServes step needs is) = by_lines c now lines _ is (tt, tt)
part_noted c now s lines (PartTurns p q n peer none is) =
    by_lines c now lines _ is (sent_noted c p q A (bursts n (link_at s p q).a).chars now)
part_noted c now s lines (PartTells p q peer none is) =
    by_lines c now lines _ is (sent_noted c p q A (tell_sends (link_at s p q).a).chars now)
part_noted c now s lines (PartDelivers p q n peer none has is) =
    let told = told_of (delivery_from A n (link_at s p q)) in
    by_lines c now lines _ (is
    ∙ ap (λ x. lines_of p q (if x then told_notes B (take n (s.wires p).chars) told else [])) has)
    (tt, moves_noted c p q told.moves (answers told.replies).chars)
part_noted c now s lines (PartFires p q peer none silent is) =
    by_lines c now lines _ is (fire_noted c p q (is_silent (link_at s p q)) now)

abbrev is_noting_all : PortRef → Bool → List TraceLine → Bool
is_noting_all c now [] = now
is_noting_all c now (line ∷ lines) = is_noting_all c (is_noting c now line) lines

noted-append : (c : PortRef) (xs ys : List TraceLine) (now : Bool) → FreesNoted c now xs
    → FreesNoted c (is_noting_all c now xs) ys → FreesNoted c now (xs ++ ys)
noted-append c [] ys now one two = two
noted-append c (x ∷ xs) ys now one two = (one.0, noted-append c xs ys (is_noting c now x) one.1 two)

pub made_noted : (c : PortRef) (now : Bool) {s : Seen} {lines : List TraceLine} → Made s lines
    → FreesNoted c now lines
made_noted c now {s} {lines} (Done is) = by_lines c now lines [] is tt
made_noted c now {s} {lines} (Then first rest is own more) =
    by_lines c now lines (first ++ rest) is
    (noted-append c first rest now (part_noted c now s first own)
    (made_noted c (is_noting_all c now first) more))

pub noted_front : (c : PortRef) (xs ys : List TraceLine) (now : Bool) → FreesNoted c now (xs ++ ys)
    → FreesNoted c now xs
noted_front c [] ys now noted = tt
noted_front c (x ∷ xs) ys now noted = (noted.0, noted_front c xs ys (is_noting c now x) noted.1)
