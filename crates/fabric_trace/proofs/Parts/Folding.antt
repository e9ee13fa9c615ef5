-- What lines make of what is known, part by part.
use Rattle.fabric_trace.proofs.Prelude.{◌≡◌, ◌++◌, false, List, [], ◌∷◌, map, Option, Some, None, unwrap_or, refl, sym, ap, ◌∙◌, if◌then◌else◌, append-nil, map-append, Char, Event, run, Note, Side, behind_some, behind_all, Edit, Move, Held, Freed, all-more, behind_all-append, sent_notes, move_note, PortRef, Network, same_port, after_all, same_port-refl, TraceLine, Begun, Stepped, Signed, Sign, Sent, Got, Fired, steps_of, Half, Wire, Seen, with_wire, with_half, peer_of, kept_of, edit_of, edited_by, got_from, fired_from, says, sends, wire_sent, half_sent, signed, seen_line, seen, port_at_side, line_of, lines_of, IsKept}
use Rattle.link_machine.specs.Queues as link
use Rattle.fabric_trace.proofs.Links.Bursts.{sends-none}
use Rattle.fabric_trace.proofs.Network.Walks.{net_steps}

pub seen-append : (s : Seen) (xs ys : List TraceLine) → seen s (xs ++ ys) ≡ seen (seen s xs) ys
seen-append s [] ys = refl
seen-append s (x ∷ xs) ys = seen-append (seen_line s x) xs ys

pub lines-append : (a b : PortRef) (xs ys : List Note) → lines_of a b (xs ++ ys) ≡ lines_of a b xs
    ++ lines_of a b ys
lines-append a b xs ys = map-append (line_of a b) xs ys

-- ---- wires and halves of one port

pub wire_own : (wires : PortRef → Wire) (p : PortRef) (wire : Wire) → with_wire wires p wire p
    ≡ wire
wire_own wires p wire = ap (λ own. if own then wire else wires p) (same_port-refl p)

pub wire_other : (wires : PortRef → Wire) (p : PortRef) (wire : Wire) (c : PortRef) → same_port c p
    ≡ false → with_wire wires p wire c ≡ wires c
wire_other wires p wire c apart = ap (λ own. if own then wire else wires c) apart

pub half_own : (halves : PortRef → Half) (p : PortRef) (half : Half) → with_half halves p half p
    ≡ half
half_own halves p half = ap (λ own. if own then half else halves p) (same_port-refl p)

pub half_other : (halves : PortRef → Half) (p : PortRef) (half : Half) (c : PortRef) → same_port c p
    ≡ false → with_half halves p half c ≡ halves c
half_other halves p half c apart = ap (λ own. if own then half else halves c) apart

-- ---- characters that are sent

pub says_none : says [] ≡ []
unfolding run
says_none = refl

-- A port sent characters, where there are any.
pub record IsSent (s t : Seen) (p : PortRef) (chars : List Char) : Type 0 where
  pub wire : t.wires p ≡ wire_sent (s.wires p) chars
  pub half : t.halves p ≡ half_sent (s.halves p) chars
  pub other_wires : (c : PortRef) → same_port c p ≡ false → t.wires c ≡ s.wires c
  pub other_halves : (c : PortRef) → same_port c p ≡ false → t.halves c ≡ s.halves c
  pub network : t.network ≡ s.network
  pub undetected : t.undetected ≡ s.undetected

nothing_sent : (s : Seen) (p : PortRef) → IsSent s s p []
nothing_sent s p = record {
  wire = λ i. record {
    chars = sym (append-nil (s.wires p).chars) i;
    sent = sym
        (ap (λ (l : List Event). (s.wires p).sent ++ l) says_none ∙ append-nil (s.wires p).sent) i;
    acted = (s.wires p).acted;
  };
  half = λ i. record (s.halves p) {
    output = sym (ap (sends (s.halves p).output) says_none ∙ sends-none (s.halves p).output) i;
  };
  other_wires = λ c apart. refl;
  other_halves = λ c apart. refl;
  network = refl;
  undetected = refl;
}

some_sent : (s : Seen) (p : PortRef) (chars : List Char) → IsSent s (signed s (Sent p chars)) p
    chars
some_sent s p chars = record {
  wire = wire_own s.wires p (wire_sent (s.wires p) chars);
  half = half_own s.halves p (half_sent (s.halves p) chars);
  other_wires = λ c apart. wire_other s.wires p (wire_sent (s.wires p) chars) c apart;
  other_halves = λ c apart. half_other s.halves p (half_sent (s.halves p) chars) c apart;
  network = refl;
  undetected = refl;
}

pub sent_is : (s : Seen) (a b : PortRef) (side : Side) (chars : List Char)
    → IsSent s (seen s (lines_of a b (sent_notes side chars))) (port_at_side a b side) chars
sent_is s a b side [] = nothing_sent s (port_at_side a b side)
sent_is s a b side (c ∷ chars) = some_sent s (port_at_side a b side) (c ∷ chars)

-- ---- what is kept

left_is : (found : Option (List Event)) (left : List Event) → found ≡ Some left → unwrap_or found []
    ≡ left
left_is None left is = absurd cc
left_is (Some x) left is = cc

pub kept_is : (wire : Wire) (k : IsKept wire) → kept_of wire ≡ k.left
kept_is wire k = left_is (behind_all wire.acted wire.sent) k.left k.found

pub sent_kept : (wire : Wire) (chars : List Char) → IsKept wire → IsKept (wire_sent wire chars)
sent_kept wire chars k = record {
  left = k.left ++ says chars;
  found = all-more wire.acted wire.sent k.left (says chars) k.found;
}

pub kept_more : (wire : Wire) (chars : List Char) → IsKept wire → kept_of (wire_sent wire chars)
    ≡ kept_of wire ++ says chars
unfolding sent_kept
kept_more wire chars k = kept_is (wire_sent wire chars) (sent_kept wire chars k)
    ∙ ap (λ (l : List Event). l ++ says chars) (sym (kept_is wire k))

-- more was acted on
pub acted_kept : (wire : Wire) (chars : List Char) (acted left : List Event) (k : IsKept wire)
    → behind_all acted (kept_of wire) ≡ Some left
    → IsKept (record { chars = chars; sent = wire.sent; acted = wire.acted ++ acted })
acted_kept wire chars acted left k is = record {
  left = left;
  found = behind_all-append wire.acted acted wire.sent ∙ ap (behind_some (behind_all acted)) k.found
      ∙ ap (behind_all acted) (sym (kept_is wire k)) ∙ is;
}

pub acted_left : (wire : Wire) (chars : List Char) (acted left : List Event) (k : IsKept wire)
    (found : behind_all acted (kept_of wire) ≡ Some left)
    → kept_of (record { chars = chars; sent = wire.sent; acted = wire.acted ++ acted }) ≡ left
unfolding acted_kept
acted_left wire chars acted left k found =
    kept_is (record { chars = chars; sent = wire.sent; acted = wire.acted ++ acted })
    (acted_kept wire chars acted left k found)

-- ---- steps

-- moves of a port change the network alone
pub moves_seen : (s : Seen) (a b : PortRef) (side : Side) (moves : List Move)
    → seen s (lines_of a b (map (move_note side) moves))
    ≡ record s { network = after_all s.network (net_steps a b (link.steps_at side moves)) }
moves_seen s a b side [] = refl
moves_seen s a b side (Held packet ∷ moves) =
    moves_seen (seen_line s (line_of a b (move_note side (Held packet)))) a b side moves
moves_seen s a b side (Freed packet ∷ moves) =
    moves_seen (seen_line s (line_of a b (move_note side (Freed packet)))) a b side moves

-- ---- the network

pub edited_net : (s : Seen) (edit : Option (PortRef × Edit)) → (edited_by s edit).network
    ≡ s.network
edited_net s None = refl
edited_net s (Some edit) = refl

pub got_net : (s : Seen) (peer : Option PortRef) (q : PortRef) (chars : List Char)
    → (got_from s peer q chars).network ≡ s.network
got_net s None q chars = refl
got_net s (Some p) q chars = refl

pub fired_net : (s : Seen) (peer : Option PortRef) (p : PortRef) → (fired_from s peer p).network
    ≡ s.network
fired_net s None p = refl
fired_net s (Some q) p = refl

-- ---- what was found

pub edited_found : (s : Seen) (edit : Option (PortRef × Edit))
    → (edited_by s edit).undetected ≡ s.undetected
edited_found s None = refl
edited_found s (Some edit) = refl

pub fired_found : (s : Seen) (peer : Option PortRef) (p : PortRef)
    → (fired_from s peer p).undetected ≡ s.undetected
fired_found s None p = refl
fired_found s (Some q) p = refl

signed_net : (s : Seen) (sign : Sign) → (signed s sign).network ≡ s.network
signed_net s (Sent p chars) = refl
signed_net s (Got q chars) = got_net s (peer_of s q) q chars
signed_net s (Fired p) = fired_net s (peer_of s p) p

-- the network after lines is that after their steps
pub network_is : (s : Seen) (lines : List TraceLine) → (seen s lines).network
    ≡ after_all s.network (steps_of lines)
network_is s [] = refl
network_is s (Begun line ∷ lines) = network_is (edited_by s (edit_of line)) lines
    ∙ ap (λ (net : Network). after_all net (steps_of lines)) (edited_net s (edit_of line))
network_is s (Stepped step ∷ lines) = network_is (seen_line s (Stepped step)) lines
network_is s (Signed sign ∷ lines) = network_is (signed s sign) lines
    ∙ ap (λ (net : Network). after_all net (steps_of lines)) (signed_net s sign)
network_is s (_ ∷ lines) = network_is s lines
