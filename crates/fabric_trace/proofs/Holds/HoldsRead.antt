-- The holds of a port are read in what it got.
use Rattle.fabric_trace.proofs.Prelude.{◌≡◌, ℕ, ◌%◌, ◌++◌, List, [], ◌∷◌, length, map, None, refl, sym, ap, ◌∙◌, subst, arith, length-append, if◌then◌else◌, append-nil, Char, Event, Place, place_start, place_after, said, place_after-append, expected_of, said-append, Side, B, Delivered, Through, WentUndetected, told_of, undetected, IsSubsequence, Move, Held, Freed, through_place, move_note, PortRef, same_port-refl, TraceLine, Half, Seen, port_seen, kept_of, says, taken_from, half_after, undetected_at, port_at_side, lines_of, got, holds, numbered_packets, HoldsCame, IsLink}
use Rattle.fabric_trace.proofs.Holds.Coming.{held_in, HaveCome, within-append, numbered-append, delivered_comes}
use Rattle.fabric_trace.proofs.Parts.Carrying.{got_lines, Carries}
use Rattle.fabric_trace.proofs.Holds.HoldsStill.{IsRead, quiet_read}
pub use Rattle.fabric_trace.proofs.Holds.HoldsStill.{got-append, holds-append}

-- ---- a delivery

moves_got : (c a b : PortRef) (side : Side) (moves : List Move)
    → got c (lines_of a b (map (move_note side) moves)) ≡ []
moves_got c a b side [] = refl
moves_got c a b side (Held packet ∷ moves) = moves_got c a b side moves
moves_got c a b side (Freed packet ∷ moves) = moves_got c a b side moves

moves_own : (a b : PortRef) (side : Side) (moves : List Move)
    → holds (port_at_side a b side) (lines_of a b (map (move_note side) moves)) ≡ held_in moves
moves_own a b side [] = refl
moves_own a b side (Held packet ∷ moves) =
    (λ i. (if same_port-refl (port_at_side a b side) i then packet ∷ [] else [])
    ++ moves_own a b side moves i)
moves_own a b side (Freed packet ∷ moves) = moves_own a b side moves

-- the port gets the characters and holds the packets
got_is : (before : List TraceLine) (p q : PortRef) (chars : List Char) (moves : List Move)
    → got q (before ++ got_lines p q chars moves) ≡ got q before ++ chars
got_is before p q chars moves =
    got-append q before (got_lines p q chars moves)
    ∙ (λ i. got q before
    ++ ((if same_port-refl q i then chars else []) ++ moves_got q p q B moves i))
    ∙ ap (λ (l : List Char). got q before ++ l) (append-nil chars)

held_is : (before : List TraceLine) (p q : PortRef) (chars : List Char) (moves : List Move)
    → holds q (before ++ got_lines p q chars moves) ≡ holds q before ++ held_in moves
held_is before p q chars moves =
    holds-append q before (got_lines p q chars moves)
    ∙ ap (λ (l : List (List ℕ)). holds q before ++ l) (moves_own p q B moves)

-- the port that got the characters, by what came of them
own_read : (q : PortRef) (before : List TraceLine) (s t : Seen) (p : PortRef) (chars : List Char)
    (d : Delivered) → s.undetected ≡ None → IsLink s p q → taken_from s p q chars ≡ d
    → t.halves q ≡ half_after (s.halves q) d → t.undetected ≡ undetected_at q (undetected d)
    → IsRead before s q → IsRead (before ++ got_lines p q chars (told_of d).moves) t q
own_read q before s t p chars d none link is half found h =
    by_end d is half found
    (subst (HaveCome (length (holds q before)) (said (s.halves q).place chars)) is
    (delivered_comes s p q chars (length (holds q before)) link (h.expected none)))
  where
    joined : (moves : List Move)
        → IsSubsequence (numbered_packets (length (holds q before)) (held_in moves))
        (said (s.halves q).place chars) → HoldsCame q (before ++ got_lines p q chars moves)
    joined moves within =
        let packets = held_in moves in
        let lines = got_lines p q chars moves in
        let said_is : says (got q (before ++ lines)) ≡ says (got q before)
        ++ said (s.halves q).place chars =
        ap says (got_is before p q chars moves) ∙ said-append place_start (got q before) chars
        ∙ ap (λ (p' : Place). says (got q before) ++ said p' chars) (sym (h.place none)) in
        let numbered_is : numbered_packets 0 (holds q (before ++ lines))
        ≡ numbered_packets 0 (holds q before)
        ++ numbered_packets (length (holds q before)) packets =
        ap (numbered_packets 0) (held_is before p q chars moves)
        ∙ numbered-append 0 (length (holds q before)) (holds q before) packets (omega arith) in
        subst (λ (l : List Event). IsSubsequence l (says (got q (before ++ lines))))
        (sym numbered_is)
        (subst (λ (l : List Event). IsSubsequence
        (numbered_packets 0 (holds q before) ++ numbered_packets (length (holds q before)) packets)
        l) (sym said_is) (within-append h.within within))

    by_end : (d' : Delivered) → taken_from s p q chars ≡ d'
        → t.halves q ≡ half_after (s.halves q) d' → t.undetected ≡ undetected_at q (undetected d')
        → HaveCome (length (holds q before)) (said (s.halves q).place chars) d'
        → IsRead (before ++ got_lines p q chars (told_of d').moves) t q
    by_end (Through flow) is half found came =
        let moves = flow.told.moves in
        let place = through_place (port_seen s q) (kept_of (s.wires p)) chars flow is in
        let longer = length-append (holds q before) (held_in moves) in
        record {
          within = joined moves came.within;
          place = λ still. ap (λ (x : Half). x.place) half ∙ place
              ∙ ap (λ (x : Place). place_after x chars) (h.place none)
              ∙ sym (place_after-append place_start (got q before) chars)
              ∙ ap (place_after place_start) (sym (got_is before p q chars moves));
          expected =
              λ still. ap (λ (x : Half). expected_of x.input) half ∙ came.expected
              ∙ ap (λ k. k % 32) (sym longer)
              ∙ ap (λ (l : List (List ℕ)). length l % 32) (sym (held_is before p q chars moves));
        }
    by_end (WentUndetected told e) is half found came = record {
      within = joined told.moves came;
      place = λ still. absurd (cc (found, still));
      expected = λ still. absurd (cc (found, still));
    }

pub read_carried : (c : PortRef) → Carries c (λ before s. IsRead before s c)
read_carried c = record { quiet = quiet_read c; gets = own_read c }
