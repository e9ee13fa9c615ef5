-- Lines in which no port gets anything.
use Rattle.fabric_trace.proofs.Prelude.{Bool, true, false, List, [], ◌∷◌, ◌++◌, map, if◌then◌else◌, Char, Side, A, Move, Held, Freed, sent_notes, move_note, PortRef, Got, TraceLine, Signed, lines_of}
use Rattle.link_watch.specs.declared.note.Note.TheVariants as Notes

unfoldable pub GotNone : List TraceLine → Type 0
GotNone [] = Unit {0}
GotNone (Signed (Got q chars) ∷ lines) = ⊥
GotNone (line ∷ lines) = GotNone lines

pub sent_none : (a b : PortRef) (side : Side) (chars : List Char)
    → GotNone (lines_of a b (sent_notes side chars))
unfolding GotNone
sent_none a b side [] = tt
sent_none a b side (c ∷ chars) = tt

pub moves_none : (a b : PortRef) (side : Side) (moves : List Move) (chars : List Char)
    → GotNone (lines_of a b (map (move_note side) moves ++ sent_notes side chars))
unfolding GotNone
moves_none a b side [] chars = sent_none a b side chars
moves_none a b side (Held packet ∷ moves) chars = moves_none a b side moves chars
moves_none a b side (Freed packet ∷ moves) chars = moves_none a b side moves chars

pub fired_none : (a b : PortRef) (x : Bool)
    → GotNone (lines_of a b (if x then Notes.Fire A ∷ [] else []))
unfolding GotNone
fired_none a b true = tt
fired_none a b false = tt
