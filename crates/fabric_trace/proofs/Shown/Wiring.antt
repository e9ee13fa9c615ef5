-- The characters that a port got stood on its peer's wire.
use Rattle.fabric_trace.proofs.Prelude.{◌≡◌, ℕ, ◌++◌, Bool, true, false, List, [], ◌∷◌, length, map, take, drop, Option, Some, None, refl, sym, ap, ◌∙◌, subst, append_assoc, if◌then◌else◌, take-append-drop, Char, Note, A, B, told_of, bursts, answers, Edit, sent_notes, has_chars, is_silent, delivery_from, move_note, told_notes, delivery_notes, pump_notes, time_out_notes, tell_notes, PortRef, Network, same_port, peer_in, after_all, peer_back, port_is, links_stay, Sign, Sent, Got, Fired, TraceLine, Begun, Stepped, Signed, Lacked, Ended, Undetected, steps_of, Wire, Seen, with_wire, peer_of, link_at, edit_of, changed, edited_by, wire_sent, taken_from, got_from, wire_silenced, fired_from, signed, seen_line, seen, lines_of, Part, PartBegins, PartLacks, PartEnds, PartNames, PartSteps, PartServes, PartTurns, PartTells, PartDelivers, PartFires, Made, Done, Then, WireChars, with_chars, edited_chars, taken_chars, signed_chars, on_wires, WireFold, tell_sends}
use Rattle.fabric_trace.proofs.Parts.Folding.{network_is}
use Rattle.fabric_trace.proofs.Parts.Keeping.{IsGood, legal_links, part_keeps}
use Rattle.fabric_trace.proofs.Holds.Still.{GotNone, sent_none, moves_none, fired_none}

-- ---- the characters of the fold

abbrev pub chars_of : Seen → WireChars
chars_of s p = (s.wires p).chars

set_chars : (wires : PortRef → Wire) (p : PortRef) (wire : Wire)
    → (λ q. (with_wire wires p wire q).chars) ≡ with_chars (λ q. (wires q).chars) p wire.chars
set_chars wires p wire = λ i q. one (same_port q p) q i
  where
    one : (own : Bool) (q : PortRef)
        → (if own then wire else wires q).chars ≡ (if own then wire.chars else (wires q).chars)
    one true q = refl
    one false q = refl

abbrev chars_in : (PortRef → Wire) → WireChars
chars_in wires p = (wires p).chars

keep_chars : (wires : PortRef → Wire) (p : PortRef) (wire : Wire) → wire.chars ≡ (wires p).chars
    → chars_in (with_wire wires p wire) ≡ chars_in wires
keep_chars wires p wire same = λ i q. one q (same_port q p) refl i
  where
    one : (q : PortRef) (own : Bool) → same_port q p ≡ own
        → (if own then wire else wires q).chars ≡ (wires q).chars
    one q true is = same ∙ ap (λ x. (wires x).chars) (sym (port_is q p is))
    one q false is = refl

pub edited_is : (s : Seen) (edit : Option (PortRef × Edit))
    → chars_of (edited_by s edit) ≡ edited_chars (chars_of s) edit
edited_is s None = refl
edited_is s (Some edit) =
    set_chars s.wires edit.0
    (record (s.wires edit.0) { chars = changed edit.1 (s.wires edit.0).chars })

got_is : (s : Seen) (peer : Option PortRef) (q : PortRef) (chars : List Char)
    → chars_of (got_from s peer q chars) ≡ taken_chars (chars_of s) peer chars
got_is s None q chars = refl
got_is s (Some p) q chars =
    set_chars s.wires p (record {
      chars = drop (length chars) (s.wires p).chars;
      sent = (s.wires p).sent;
      acted = (s.wires p).acted ++ (told_of (taken_from s p q chars)).acted;
    })

fired_is : (s : Seen) (peer : Option PortRef) (p : PortRef)
    → chars_of (fired_from s peer p) ≡ chars_of s
fired_is s None p = refl
fired_is s (Some q) p =
    let one = with_wire s.wires p (wire_silenced (s.wires p)) in
    let first = keep_chars s.wires p (wire_silenced (s.wires p)) refl in
    keep_chars one q (wire_silenced (s.wires q)) (ap (λ (w : WireChars). w q) (sym first)) ∙ first

pub signed_is : (s : Seen) (sign : Sign)
    → chars_of (signed s sign) ≡ signed_chars s.network.links (chars_of s) sign
signed_is s (Sent p chars) = set_chars s.wires p (wire_sent (s.wires p) chars)
signed_is s (Got q chars) = got_is s (peer_of s q) q chars
signed_is s (Fired p) = fired_is s (peer_of s p) p

pub line_is : (s : Seen) (line : TraceLine)
    → chars_of (seen_line s line) ≡ on_wires s.network.links (chars_of s) line
line_is s (Begun line) = edited_is s (edit_of line)
line_is s (Signed sign) = signed_is s sign
line_is s _ = refl

-- ---- links stay

pub line_links : (s : Seen) (line : TraceLine) → (seen_line s line).network.links ≡ s.network.links
line_links s line = ap (λ (n : Network). n.links) (network_is s (line ∷ [])) ∙ by_line line
  where
    by_line : (line : TraceLine)
        → (after_all s.network (steps_of (line ∷ []))).links ≡ s.network.links
    by_line (Begun line) = refl
    by_line (Stepped step) = links_stay s.network step
    by_line (Signed sign) = refl
    by_line (Lacked lack) = refl
    by_line Ended = refl
    by_line (Undetected number q e) = refl

pub seen_links : (s : Seen) (lines : List TraceLine)
    → (seen s lines).network.links ≡ s.network.links
seen_links s [] = refl
seen_links s (line ∷ lines) = seen_links (seen_line s line) lines ∙ line_links s line

-- ---- joining

pub fold-append : (xs ys : List TraceLine) (s : Seen) (links : List (PortRef × PortRef))
    → s.network.links ≡ links
    → WireFold links (chars_of s) xs → WireFold links (chars_of (seen s xs)) ys
    → WireFold links (chars_of s) (xs ++ ys)
fold-append [] ys s links is first rest = rest
fold-append (x ∷ xs) ys s links is first rest =
    let wires : chars_of (seen_line s x) ≡ on_wires links (chars_of s) x =
    line_is s x ∙ ap (λ (l : List (PortRef × PortRef)). on_wires l (chars_of s) x) is in (
      first.0,
      subst (λ (w : WireChars). WireFold links w (xs ++ ys)) wires
          (fold-append xs ys (seen_line s x) links (line_links s x ∙ is)
          (subst (λ (w : WireChars). WireFold links w xs) (sym wires) first.1) rest),
    )

-- ---- lines in which no port got anything

quiet : (lines : List TraceLine) (links : List (PortRef × PortRef)) (wires : WireChars)
    → GotNone lines → WireFold links wires lines
unfolding GotNone
quiet [] links wires none = tt
quiet (Begun line ∷ lines) links wires none = (tt, quiet lines links _ none)
quiet (Stepped step ∷ lines) links wires none = (tt, quiet lines links _ none)
quiet (Signed (Sent p chars) ∷ lines) links wires none = (tt, quiet lines links _ none)
quiet (Signed (Got q chars) ∷ lines) links wires none = absurd none
quiet (Signed (Fired p) ∷ lines) links wires none = (tt, quiet lines links _ none)
quiet (Lacked lack ∷ lines) links wires none = (tt, quiet lines links _ none)
quiet (Ended ∷ lines) links wires none = (tt, quiet lines links _ none)
quiet (Undetected number q e ∷ lines) links wires none = (tt, quiet lines links _ none)

-- ---- parts

front_parts : (chars : List Char) (n k : ℕ)
    → chars ≡ take k (take n chars) ++ (drop k (take n chars) ++ drop n chars)
front_parts chars n k =
    sym (take-append-drop n chars)
    ∙ ap (λ (l : List Char). l ++ drop n chars) (sym (take-append-drop k (take n chars)))
    ∙ append_assoc (take k (take n chars)) (drop k (take n chars)) (drop n chars)

delivery_fold : (s : Seen) (p q : PortRef) (n : ℕ) (links : List (PortRef × PortRef))
    → peer_in links q ≡ Some p → has_chars A n (link_at s p q) ≡ true
    → WireFold links (chars_of s) (lines_of p q (delivery_notes A n (link_at s p q)))
delivery_fold s p q n links back has =
    let told = told_of (delivery_from A n (link_at s p q)) in
    let chars = take n (s.wires p).chars in
    let notes : delivery_notes A n (link_at s p q) ≡ told_notes B chars told =
    ap (λ x. if x then told_notes B chars told else []) has in
    subst (λ (l : List Note). WireFold links (chars_of s) (lines_of p q l)) (sym notes) (
      record {
        peer = p;
        behind = drop told.count chars ++ drop n (s.wires p).chars;
        peer_is = back;
        stands = front_parts (s.wires p).chars n told.count;
      },
      quiet (lines_of p q (map (move_note B) told.moves ++ sent_notes B
          (answers told.replies).chars)) links _
          (moves_none p q B told.moves (answers told.replies).chars),
    )

part_fold : {s : Seen} {lines : List TraceLine} (links : List (PortRef × PortRef))
    → s.network.links ≡ links → IsGood s → Part s lines → WireFold links (chars_of s) lines
unfolding GotNone
part_fold {s} links same good (PartBegins line is) =
    subst (WireFold links (chars_of s)) (sym is) (tt, tt)
part_fold {s} links same good (PartLacks lack is) =
    subst (WireFold links (chars_of s)) (sym is) (tt, tt)
part_fold {s} links same good (PartEnds is) = subst (WireFold links (chars_of s)) (sym is) (tt, tt)
part_fold {s} links same good (PartNames number q e found is) =
    subst (WireFold links (chars_of s)) (sym is) (tt, tt)
part_fold {s} links same good (PartSteps step needs few is) =
    subst (WireFold links (chars_of s)) (sym is) (tt, tt)
part_fold {s} links same good (PartServes step needs is) =
    subst (WireFold links (chars_of s)) (sym is) (tt, tt)
part_fold {s} links same good (PartTurns p q n peer none is) =
    subst (WireFold links (chars_of s)) (sym is)
    (quiet (lines_of p q (pump_notes A n (link_at s p q))) links (chars_of s)
    (sent_none p q A (bursts n (link_at s p q).a).chars))
part_fold {s} links same good (PartTells p q peer none is) =
    subst (WireFold links (chars_of s)) (sym is)
    (quiet (lines_of p q (tell_notes A (link_at s p q))) links (chars_of s)
    (sent_none p q A (tell_sends (link_at s p q).a).chars))
part_fold {s} links same good (PartDelivers p q n peer none has is) =
    let back = peer_back s.network.links q p good.proper peer in
    subst (WireFold links (chars_of s)) (sym is)
    (delivery_fold s p q n links
    (ap (λ (l : List (PortRef × PortRef)). peer_in l q) (sym same) ∙ back) has)
part_fold {s} links same good (PartFires p q peer none silent is) =
    subst (WireFold links (chars_of s)) (sym is)
    (quiet (lines_of p q (time_out_notes A (link_at s p q))) links (chars_of s)
    (fired_none p q (is_silent (link_at s p q))))

pub made_fold : {s : Seen} {lines : List TraceLine} (links : List (PortRef × PortRef))
    → s.network.links ≡ links → IsGood s → Made s lines → WireFold links (chars_of s) lines
made_fold {s} links same good (Done is) = subst (WireFold links (chars_of s)) (sym is) tt
made_fold {s} links same good (Then first rest is own more) =
    let kept = part_keeps good own in
    let still = legal_links s.network (steps_of first) (seen s first).network kept.legal ∙ same in
    subst (WireFold links (chars_of s)) (sym is)
    (fold-append first rest s links same (part_fold links same good own)
    (made_fold links still kept.good more))
