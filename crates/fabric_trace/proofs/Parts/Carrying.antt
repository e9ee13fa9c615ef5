-- What the quiet lines of a port and the deliveries to it keep, lines that are made of parts keep.
use Rattle.fabric_trace.proofs.Prelude.{◌≡◌, LinkState, ℕ, ◌++◌, Bool, true, false, List, [], ◌∷◌, map, take, Some, None, refl, sym, ap, ◌∙◌, subst, append_assoc, if◌then◌else◌, append-nil, Char, tell_sends, A, B, Delivered, told_of, undetected, bursts, answers, Move, sent_notes, has_chars, is_silent, delivery_from, move_note, told_notes, delivery_notes, PortRef, same_port, after_all, port_is, Got, TraceLine, Signed, Seen, peer_of, port_seen, kept_of, link_at, taken_from, half_after, undetected_at, got_from, seen, lines_of, IsLink, Part, PartBegins, PartLacks, PartEnds, PartNames, PartSteps, PartServes, PartTurns, PartTells, PartDelivers, PartFires, Made, Done, Then}
use Rattle.link_machine.specs.Queues as link
use Rattle.fabric_trace.proofs.Links.Cuts.{taken_again}
use Rattle.fabric_trace.proofs.Network.Walks.{net_steps}
use Rattle.fabric_trace.proofs.Parts.Folding.{seen-append, lines-append, half_own, half_other, moves_seen}
use Rattle.fabric_trace.proofs.Parts.Keeping.{IsGood, good_peers, part_keeps}
use Rattle.fabric_trace.proofs.Parts.Quiet.{AreStill, sent_still, fired_still, IsQuiet, still_quiet, moves_quiet, StaysSo, same_so, still_stays}

-- the line `got` and the moves behind it
abbrev pub got_lines : PortRef → PortRef → List Char → List Move → List TraceLine
got_lines p q chars moves = Signed (Got q chars) ∷ lines_of p q (map (move_note B) moves)

-- what a delivery writes: these, and the answers
pub delivery_lines : (p q : PortRef) (n : ℕ) (l : LinkState) → has_chars A n l ≡ true
    → lines_of p q (delivery_notes A n l)
    ≡ got_lines p q (take (told_of (delivery_from A n l)).count (take n l.wire_a.chars))
    (told_of (delivery_from A n l)).moves
    ++ lines_of p q (sent_notes B (answers (told_of (delivery_from A n l)).replies).chars)
delivery_lines p q n l has =
    let chars = take n l.wire_a.chars in
    let told = told_of (delivery_from A n l) in
    let replies = (answers told.replies).chars in
    ap (λ x. lines_of p q (if x then told_notes B chars told else [])) has
    ∙ ap (λ (x : List TraceLine). Signed (Got q (take told.count chars)) ∷ x)
    (lines-append p q (map (move_note B) told.moves) (sent_notes B replies))

-- P is said of a port: of lines, and of what is known after them. It is kept by lines in which the
-- port gets, holds and frees nothing, and by those of a delivery to it.
pub record Carries (c : PortRef) (P : List TraceLine → Seen → Type 0) : Type 0 where
  pub quiet : (before lines : List TraceLine) (s t : Seen) → IsQuiet c lines → StaysSo s t c
      → P before s → P (before ++ lines) t
  pub gets : (before : List TraceLine) (s t : Seen) (p : PortRef) (chars : List Char)
      (d : Delivered) → s.undetected ≡ None → IsLink s p c → taken_from s p c chars ≡ d
      → t.halves c ≡ half_after (s.halves c) d → t.undetected ≡ undetected_at c (undetected d)
      → P before s → P (before ++ got_lines p c chars (told_of d).moves) t

-- ---- lines, joined

by_lines : (P : List TraceLine → Seen → Type 0) (before : List TraceLine) (s : Seen)
    (lines other : List TraceLine) → lines ≡ other → P (before ++ other) (seen s other)
    → P (before ++ lines) (seen s lines)
by_lines P before s lines other is h =
    subst (λ (x : List TraceLine). P (before ++ x) (seen s x)) (sym is) h

both_lines : (P : List TraceLine → Seen → Type 0) (before first rest : List TraceLine) (s : Seen)
    → P ((before ++ first) ++ rest) (seen (seen s first) rest)
    → P (before ++ (first ++ rest)) (seen s (first ++ rest))
both_lines P before first rest s h =
    subst (λ (x : Seen). P (before ++ (first ++ rest)) x) (sym (seen-append s first rest))
    (subst (λ (x : List TraceLine). P x (seen (seen s first) rest))
    (append_assoc before first rest) h)

-- ---- a delivery

got_seen : (s : Seen) (p q : PortRef) (chars : List Char) (moves : List Move)
    → peer_of s q ≡ Some p
    → seen s (got_lines p q chars moves) ≡ record (got_from s (Some p) q chars) {
      network = after_all s.network (net_steps p q (link.steps_at B moves));
    }
got_seen s p q chars moves back =
    ap (λ o. seen (got_from s o q chars) (lines_of p q (map (move_note B) moves))) back
    ∙ moves_seen (got_from s (Some p) q chars) p q B moves

carry_own : {c : PortRef} {P : List TraceLine → Seen → Type 0} → Carries c P
    → (before : List TraceLine) (s : Seen) (p : PortRef) (chars : List Char) (d : Delivered)
    → s.undetected ≡ None → P before s → peer_of s c ≡ Some p → IsLink s p c
    → taken_from s p c chars ≡ d
    → P (before ++ got_lines p c chars (told_of d).moves)
    (seen s (got_lines p c chars (told_of d).moves))
carry_own {c} {P} k before s p chars d none h back link is =
    let lines = got_lines p c chars (told_of d).moves in
    let there = got_seen s p c chars (told_of d).moves back in
    let half : (seen s lines).halves c ≡ half_after (s.halves c) d =
    ap (λ (x : Seen). x.halves c) there
    ∙ half_own s.halves c (half_after (s.halves c) (taken_from s p c chars))
    ∙ ap (half_after (s.halves c)) is in
    let found : (seen s lines).undetected ≡ undetected_at c (undetected d) =
    ap (λ (x : Seen). x.undetected) there
    ∙ ap (λ (x : Delivered). undetected_at c (undetected x)) is in
    k.gets before s (seen s lines) p chars d none link is half found h

-- to any port
carry_got : {c : PortRef} {P : List TraceLine → Seen → Type 0} → Carries c P
    → (before : List TraceLine) (s : Seen) (p q : PortRef) (chars : List Char) (d : Delivered)
    → s.undetected ≡ None → P before s → peer_of s q ≡ Some p → IsLink s p q
    → taken_from s p q chars ≡ d
    → P (before ++ got_lines p q chars (told_of d).moves)
    (seen s (got_lines p q chars (told_of d).moves))
carry_got {c} {P} k before s p q chars d none h back link is = by_port (same_port c q) refl
  where
    by_port : (x : Bool) → same_port c q ≡ x
        → P (before ++ got_lines p q chars (told_of d).moves)
        (seen s (got_lines p q chars (told_of d).moves))
    by_port true same =
        subst (λ (x : PortRef). peer_of s x ≡ Some p → IsLink s p x → taken_from s p x chars ≡ d
        → P (before ++ got_lines p x chars (told_of d).moves)
        (seen s (got_lines p x chars (told_of d).moves))) (port_is c q same)
        (carry_own k before s p chars d none h) back link is
    by_port false apart =
        let lines = got_lines p q chars (told_of d).moves in
        let half : (seen s lines).halves c ≡ s.halves c =
        ap (λ (x : Seen). x.halves c) (got_seen s p q chars (told_of d).moves back)
        ∙ half_other s.halves q (half_after (s.halves q) (taken_from s p q chars)) c apart in
        k.quiet before lines s (seen s lines) (apart, moves_quiet c p q B (told_of d).moves apart)
        (same_so s (seen s lines) c half (λ still. none)) h

carry_still : {c : PortRef} {P : List TraceLine → Seen → Type 0} → Carries c P
    → (before lines : List TraceLine) (s : Seen) → AreStill lines → P before s
    → P (before ++ lines) (seen s lines)
carry_still {c} {P} k before lines s still h =
    k.quiet before lines s (seen s lines) (still_quiet c lines still) (still_stays s lines c still)
    h

carry_delivery : {c : PortRef} {P : List TraceLine → Seen → Type 0} → Carries c P
    → (before : List TraceLine) (s : Seen) (p q : PortRef) (n : ℕ) → peer_of s q ≡ Some p
    → s.undetected ≡ None → IsLink s p q → has_chars A n (link_at s p q) ≡ true → P before s
    → P (before ++ lines_of p q (delivery_notes A n (link_at s p q)))
    (seen s (lines_of p q (delivery_notes A n (link_at s p q))))
carry_delivery {c} {P} k before s p q n back none link has h =
    let l = link_at s p q in
    let chars = take n (s.wires p).chars in
    let d = delivery_from A n l in
    let told = told_of d in
    let sent = (answers told.replies).chars in
    let first = got_lines p q (take told.count chars) told.moves in
    let one =
    carry_got k before s p q (take told.count chars) d none h back link
    (taken_again (port_seen s q) (kept_of (s.wires p)) chars d refl) in
    by_lines P before s _ _ (delivery_lines p q n l has)
    (both_lines P before first (lines_of p q (sent_notes B sent)) s
    (carry_still k (before ++ first) (lines_of p q (sent_notes B sent)) (seen s first)
    (sent_still p q B sent) one))

-- ---- parts

carry_as : {c : PortRef} {P : List TraceLine → Seen → Type 0} → Carries c P
    → (before lines other : List TraceLine) (s : Seen) → lines ≡ other → AreStill other
    → P before s → P (before ++ lines) (seen s lines)
carry_as {c} {P} k before lines other s is still h =
    by_lines P before s lines other is (carry_still k before other s still h)

carry_part : {c : PortRef} {P : List TraceLine → Seen → Type 0} → Carries c P
    → (before lines : List TraceLine) (s : Seen) → IsGood s → Part s lines → P before s
    → P (before ++ lines) (seen s lines)
carry_part k before lines s good (PartBegins line is) h = carry_as k before lines _ s is (tt, tt) h
carry_part k before lines s good (PartLacks lack is) h = carry_as k before lines _ s is (tt, tt) h
carry_part k before lines s good (PartEnds is) h = carry_as k before lines _ s is (tt, tt) h
carry_part k before lines s good (PartNames number q e found is) h =
    carry_as k before lines _ s is (tt, tt) h
carry_part k before lines s good (PartSteps step needs few is) h =
    carry_as k before lines _ s is (tt, tt) h
carry_part k before lines s good (PartServes step needs is) h =
    carry_as k before lines _ s is (tt, tt) h
carry_part k before lines s good (PartTurns p q n peer none is) h =
    carry_as k before lines _ s is (sent_still p q A (bursts n (link_at s p q).a).chars) h
carry_part k before lines s good (PartTells p q peer none is) h =
    carry_as k before lines _ s is (sent_still p q A (tell_sends (link_at s p q).a).chars) h
carry_part {c} {P} k before lines s good (PartDelivers p q n peer none has is) h =
    by_lines P before s lines _ is
    (carry_delivery k before s p q n (good_peers p q good peer).back none
    (good.links none p q peer) has h)
carry_part k before lines s good (PartFires p q peer none silent is) h =
    carry_as k before lines _ s is (fired_still p q (is_silent (link_at s p q))) h

pub carry_made : {c : PortRef} {P : List TraceLine → Seen → Type 0} → Carries c P
    → {s : Seen} {lines : List TraceLine} (before : List TraceLine) → IsGood s → Made s lines
    → P before s → P (before ++ lines) (seen s lines)
carry_made {c} {P} k {s} {lines} before good (Done is) h =
    by_lines P before s lines [] is
    (subst (λ (x : List TraceLine). P x s) (sym (append-nil before)) h)
carry_made {c} {P} k {s} {lines} before good (Then first rest is own more) h =
    by_lines P before s lines (first ++ rest) is
    (both_lines P before first rest s
    (carry_made k (before ++ first) (part_keeps good own).good more
    (carry_part k before first s good own h)))
