-- What is kept of all ports, where one or two of them act.
use Rattle.answered_traces.proofs.Prelude.{◌≡◌, ◌++◌, Bool, true, false, List, [], ◌∷◌, map, None, refl, sym, ap, ◌∙◌, subst, if◌then◌else◌, Char, packet_count, PortState, sent_notes, move_note, Move, PortRef, same_port, port_is, same_port-refl, apart_back, TraceLine, port_at_side, lines_of, seen, Seen, port_seen, Half, lists_in, Untouched, seen-append, after_line, after_lines, LinesReact, ReactionsKept, with_port_kept, AreDue, PortKept, after_sending}
use Rattle.link_watch.specs.declared.side.Side.{Side}
use Rattle.link_wires.specs.declared.moves.Move.TheVariants.{Held, Freed}
use Rattle.answered_traces.proofs.Following.{half_kept, KeepsPortAs, KeepsSeen}
use Rattle.answered_traces.proofs.PortCalls.{sending_none}

-- ---- lines, and more after them

pub lines_after : (kept : ReactionsKept) (first rest : List TraceLine)
    → after_lines kept (first ++ rest) ≡ after_lines (after_lines kept first) rest
lines_after kept [] rest = refl
lines_after kept (line ∷ first) rest = lines_after (after_line kept line) first rest

pub react_both : (kept : ReactionsKept) (first rest : List TraceLine) → LinesReact kept first
    → LinesReact (after_lines kept first) rest → LinesReact kept (first ++ rest)
react_both kept [] rest one two = two
react_both kept (line ∷ first) rest one two =
    (one.0, react_both (after_line kept line) first rest one.1 two)

-- Each reaction in the lines is due. While no event was found that was not sent, what is kept of
-- each port after them is what the port is.
pub record StaysKept (kept : ReactionsKept) (s : Seen) (lines : List TraceLine) : Type 0 where
  pub react : LinesReact kept lines
  pub keeps : (seen s lines).undetected ≡ None → KeepsSeen (after_lines kept lines) (seen s lines)

pub stays_by : {kept : ReactionsKept} {s : Seen} {lines other : List TraceLine} → lines ≡ other
    → StaysKept kept s other → StaysKept kept s lines
stays_by {kept} {s} is stays = subst (StaysKept kept s) (sym is) stays

pub stays_both : {kept : ReactionsKept} {s : Seen} (first rest : List TraceLine)
    → StaysKept kept s first → StaysKept (after_lines kept first) (seen s first) rest
    → StaysKept kept s (first ++ rest)
stays_both {kept} {s} first rest one two = record {
  react = react_both kept first rest one.react two.react;
  keeps = λ none.
      subst (λ (k : ReactionsKept). KeepsSeen k (seen s (first ++ rest)))
      (sym (lines_after kept first rest))
      (subst (KeepsSeen (after_lines (after_lines kept first) rest))
      (sym (seen-append s first rest))
      (two.keeps (ap (λ (x : Seen). x.undetected) (sym (seen-append s first rest)) ∙ none)));
}

-- ---- one port

-- nothing changed of the port that counts
pub same_keeps : {kept : PortKept} {port next : PortState} → KeepsPortAs kept port
    → next.place ≡ port.place → half_kept next ≡ half_kept port → KeepsPortAs kept next
same_keeps keeps place half = record {
  hearing = keeps.hearing ∙ sym place;
  sending = keeps.sending;
  input = keeps.input ∙ sym half;
}

untouched_keeps : {kept : PortKept} {s t : Seen} {c : PortRef} → Untouched s t c
    → KeepsPortAs kept (port_seen s c) → KeepsPortAs kept (port_seen t c)
untouched_keeps same keeps =
    same_keeps keeps (ap (λ (h : Half). h.place) same.half)
    (λ i. record {
      buffers = same.lists.buffers i;
      input = (same.half i).input;
      held = packet_count (lists_in (same.lists.received i));
      due = [];
    })

pub keeps_on : {kept now : PortKept} {port next : PortState} → now ≡ kept → next ≡ port
    → KeepsPortAs kept port → KeepsPortAs now next
keeps_on {kept} {next = next} is there keeps =
    subst (λ (k : PortKept). KeepsPortAs k next) (sym is)
    (subst (KeepsPortAs kept) (sym there) keeps)

-- ---- one port among all

-- what is kept of one port became this, and of the others it is as it was
pub record BecomesAt (kept now : ReactionsKept) (p : PortRef) (port : PortKept) : Type 0 where
  pub own : now.ports p ≡ port
  pub others : (c : PortRef) → same_port c p ≡ false → now.ports c ≡ kept.ports c

pub changed_own : (ports : PortRef → PortKept) (p : PortRef) (after : PortKept → PortKept)
    → with_port_kept ports p after p ≡ after (ports p)
changed_own ports p after =
    ap (λ own. if own then after (ports p) else ports p) (same_port-refl p)

pub changed_other : (ports : PortRef → PortKept) (p : PortRef) (after : PortKept → PortKept)
    (c : PortRef) → same_port c p ≡ false → with_port_kept ports p after c ≡ ports c
changed_other ports p after c apart =
    ap (λ own. if own then after (ports c) else ports c) (apart_back c p apart)

-- what is kept of a port is what the port is
abbrev pub KeepsAt : (PortRef → PortKept) → Seen → PortRef → Type 0
KeepsAt ports s p = KeepsPortAs (ports p) (port_seen s p)

-- two ports are what is kept of them, and the others are untouched
pub by_two_ports : (kept now : ReactionsKept) (s t : Seen) (p q : PortRef)
    → ((c : PortRef) → same_port c p ≡ false → same_port c q ≡ false → Untouched s t c)
    → ((c : PortRef) → same_port c p ≡ false → same_port c q ≡ false → now.ports c ≡ kept.ports c)
    → KeepsAt now.ports t p → KeepsAt now.ports t q → KeepsSeen kept s → KeepsSeen now t
by_two_ports kept now s t p q same others own_p own_q keeps c =
    by (same_port c p) (same_port c q) refl refl
  where
    by : (x y : Bool) → same_port c p ≡ x → same_port c q ≡ y → KeepsAt now.ports t c
    by true y is_p is_q = subst (KeepsAt now.ports t) (sym (port_is c p is_p)) own_p
    by false true is_p is_q = subst (KeepsAt now.ports t) (sym (port_is c q is_q)) own_q
    by false false is_p is_q =
        subst (λ (k : PortKept). KeepsPortAs k (port_seen t c)) (sym (others c is_p is_q))
        (untouched_keeps (same c is_p is_q) (keeps c))

-- ---- characters that are sent

pub sending_reacts : (kept : ReactionsKept) (a b : PortRef) (side : Side) (chars : List Char)
    → AreDue (kept.ports (port_at_side a b side)) chars
    → LinesReact kept (lines_of a b (sent_notes side chars))
sending_reacts kept a b side [] due = tt
sending_reacts kept a b side (c ∷ chars) due = (due, tt)

pub sending_becomes : (kept : ReactionsKept) (a b : PortRef) (side : Side) (chars : List Char)
    → BecomesAt kept (after_lines kept (lines_of a b (sent_notes side chars)))
    (port_at_side a b side) (after_sending (kept.ports (port_at_side a b side)) chars)
sending_becomes kept a b side [] = record {
  own = sym ((sending_none (kept.ports (port_at_side a b side))).1);
  others = λ c apart. refl;
}
sending_becomes kept a b side (x ∷ chars) = record {
  own = changed_own kept.ports (port_at_side a b side) (λ port. after_sending port (x ∷ chars));
  others = λ c apart.
      changed_other kept.ports (port_at_side a b side) (λ port. after_sending port (x ∷ chars)) c
      apart;
}

-- ---- moves

-- what is held and freed changes nothing of what is kept
pub moves_react : (kept : ReactionsKept) (a b : PortRef) (side : Side) (moves : List Move)
    → LinesReact kept (lines_of a b (map (move_note side) moves))
    × (after_lines kept (lines_of a b (map (move_note side) moves)) ≡ kept)
moves_react kept a b side [] = (tt, refl)
moves_react kept a b side (Held packet ∷ moves) =
    let rest = moves_react kept a b side moves in ((tt, rest.0), rest.1)
moves_react kept a b side (Freed packet ∷ moves) =
    let rest = moves_react kept a b side moves in ((tt, rest.0), rest.1)
