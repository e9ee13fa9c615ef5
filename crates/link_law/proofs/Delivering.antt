-- What the code of a delivery has done is what the delivery does.
use Rattle.link_law.proofs.Prelude.{◌≡◌, ℕ, true, List, [], ◌∷◌, ◌++◌, map, take, Option, Some, None, OnOk, refl, sym, ap, ◌∙◌, if◌then◌else◌, Char, Event, Move, Got, other_side, Side, first_takes, has_chars, delivery_from, delivered_from, delivery_notes, told_notes, move_note, sent_notes, LinkState, at_end, from_end, told_of, delivery_end}
use Rattle.link_law.specs.Carried.{AreOfDelivery}

pub link_is : (from : Side) (count : ℕ) (s : LinkState) → has_chars from count s ≡ true
    → at_end (other_side from) (first_takes count) s ≡ delivered_from from count s
link_is from count s has =
    ap (λ b. if b then at_end (other_side from) (first_takes count) s else s) (sym has)

-- what is noted of it, in parts
pub notes_are : (from to : Side) (count : ℕ) (s : LinkState) (got : List Char) (moves : List Move)
    (told answers : List Char) (found : Option Event) → to ≡ other_side from
    → has_chars from count s ≡ true
    → AreOfDelivery (delivery_from from count s) (take count (from_end from s).wire_a.chars) got
    moves
    answers found
    → told ≡ answers
    → Got to got ∷ (map (move_note to) moves ++ sent_notes to told) ≡ delivery_notes from count s
notes_are from to count s got moves told answers found other has carried same =
    let d = told_of (delivery_from from count s) in
    let chars = take count (from_end from s).wire_a.chars in
    (λ i. Got (other i) (carried.got_is i)
    ∷ (map (move_note (other i)) (carried.moves_are i)
    ++ sent_notes (other i) ((same ∙ carried.answers_are) i)))
    ∙ ap (λ b. if b then told_notes (other_side from) chars d else []) (sym has)

-- what holds if all events were sent
pub on_done : {P : Type 0} (to : Side) (found : Option Event) → (found ≡ None → P)
    → OnOk (delivery_end to found) P
on_done to None h = h refl
on_done to (Some e) h = tt
