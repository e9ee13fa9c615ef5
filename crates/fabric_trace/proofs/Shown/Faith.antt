-- What a port acted on was sent where a trace goes on, and was not where it names an event.
use Rattle.fabric_trace.proofs.Prelude.{◌≡◌, ◌↔◌, ℕ, true, false, List, [], ◌∷◌, length, drop, Option, Some, None, refl, sym, ap, ◌∙◌, if◌then◌else◌, append-nil, Char, Event, Place, run, place_after, PortState, is_acted, Told, Flow, Delivered, Through, WentUndetected, begun, done, met, comes, goes_on, come, ended, delivered, told_of, undetected, behind, behind_some, behind_all, Edit, all_then, PortRef, Network, same_port, Sent, Got, Fired, TraceLine, Begun, Stepped, Signed, Lacked, Ended, Undetected, Wire, Seen, with_wire, peer_of, port_seen, kept_of, edit_of, edited_by, taken_from, undetected_at, got_from, wire_silenced, fired_from, signed, seen_line, seen, IsKept, ActsOnSent, trace_goes_on, names_undetected, IsFaithful, FaithfulLine, Faithful, FindsFirst, begins, under_way, Settled}
use Rattle.link_wires.proofs.Exact.{delivered_exact}
use Rattle.fabric_trace.proofs.Parts.Folding.{sent_kept, kept_is, acted_kept, fired_found}

-- ---- what a delivery leaves, also where an event was not sent

abbrev Leaves : List Event → Delivered → Type 0
Leaves start (Through flow) = behind_all flow.told.acted start ≡ Some flow.kept
Leaves start (WentUndetected told e) =
    (left : List Event) × (behind_all told.acted start ≡ Some left) × (behind e left ≡ None)

met_leaves : (start : List Event) (flow : Flow) (at : ℕ) (e : Event) (kept : Option (List Event))
    → behind e flow.kept ≡ kept → Leaves start (Through flow) → Leaves start (met at e kept flow)
met_leaves start flow at e None is h = (flow.kept, h, is)
met_leaves start flow at e (Some kept) is h =
    all_then flow.told.acted start e ∙ ap (behind_some (behind e)) h ∙ is

comes_leaves : (start : List Event) (flow : Flow) (placed : ℕ × Event) → Leaves start (Through flow)
    → Leaves start (comes flow placed)
comes_leaves start flow placed h =
    elim (is_acted flow.port placed.1) as
    (λ b. Leaves start
    (if b then met placed.0 placed.1 (behind placed.1 flow.kept) flow else Through
    (done placed.1 [] flow.kept flow))) [
      | true ↦ met_leaves start flow placed.0 placed.1 (behind placed.1 flow.kept) refl h
      | false ↦ ap (λ (acted : List Event). behind_all acted start) (append-nil flow.told.acted) ∙ h
    ]

on_leaves : (start : List Event) (more : Flow → Delivered) (d : Delivered)
    → ((f : Flow) → Leaves start (Through f) → Leaves start (more f)) → Leaves start d
    → Leaves start (goes_on more d)
on_leaves start more (Through f) next h = next f h
on_leaves start more (WentUndetected told e) next h = h

come_leaves : (start : List Event) (events : List (ℕ × Event)) (flow : Flow)
    → Leaves start (Through flow) → Leaves start (come events flow)
unfolding come
come_leaves start [] flow h = h
come_leaves start (placed ∷ events) flow h =
    on_leaves start (come events) (comes flow placed) (come_leaves start events)
    (comes_leaves start flow placed h)

ended_leaves : (start : List Event) (place : Place) (count : ℕ) (d : Delivered) → Leaves start d
    → Leaves start (ended place count d)
ended_leaves start place count (Through flow) h = h
ended_leaves start place count (WentUndetected told e) h = h

delivered_leaves : (port : PortState) (kept : List Event) (chars : List Char)
    → Leaves kept (delivered port kept chars)
delivered_leaves port kept chars =
    ended_leaves kept (place_after port.place chars) _
    (come (run port.place 0 chars) (begun port kept))
    (come_leaves kept (run port.place 0 chars) (begun port kept) refl)

-- what is left of what was kept
abbrev HasLeft : List Event → Told → Type 0
HasLeft kept told = (left : List Event) × (behind_all told.acted kept ≡ Some left)

left_of : (kept : List Event) (d : Delivered) → Leaves kept d → HasLeft kept (told_of d)
left_of kept (Through flow) h = (flow.kept, h)
left_of kept (WentUndetected told e) h = (h.0, h.1)

-- what the wires have acted is found
abbrev pub AreKept : Seen → Type 0
AreKept s = (p : PortRef) → IsKept (s.wires p)

-- ---- every line keeps them

with_kept : (wires : PortRef → Wire) (p : PortRef) (wire : Wire)
    → ((c : PortRef) → IsKept (wires c)) → IsKept wire → (c : PortRef)
    → IsKept (with_wire wires p wire c)
with_kept wires p wire all own c =
    elim (same_port c p) as (λ x. IsKept (if x then wire else wires c))
    [ true ↦ own | false ↦ all c ]

edited_keep : (s : Seen) (edit : Option (PortRef × Edit)) → AreKept s → AreKept (edited_by s edit)
edited_keep s None all = all
edited_keep s (Some edit) all =
    with_kept s.wires edit.0 _ all (record { left = (all edit.0).left; found = (all edit.0).found })

got_keep : (s : Seen) (peer : Option PortRef) (q : PortRef) (chars : List Char) → AreKept s
    → AreKept (got_from s peer q chars)
got_keep s None q chars all = all
got_keep s (Some p) q chars all =
    let left = left_of (kept_of (s.wires p)) (taken_from s p q chars)
    (delivered_leaves (port_seen s q) (kept_of (s.wires p)) chars) in
    with_kept s.wires p _ all
    (acted_kept (s.wires p) (drop (length chars) (s.wires p).chars)
    (told_of (taken_from s p q chars)).acted left.0 (all p) left.1)

fired_keep : (s : Seen) (peer : Option PortRef) (p : PortRef) → AreKept s
    → AreKept (fired_from s peer p)
fired_keep s None p all = all
fired_keep s (Some q) p all =
    with_kept (with_wire s.wires p (wire_silenced (s.wires p))) q (wire_silenced (s.wires q))
    (with_kept s.wires p (wire_silenced (s.wires p)) all (record { left = []; found = refl }))
    (record { left = []; found = refl })

line_keep : (s : Seen) (line : TraceLine) → AreKept s → AreKept (seen_line s line)
line_keep s (Begun line) all = edited_keep s (edit_of line) all
line_keep s (Stepped step) all = all
line_keep s (Signed (Sent p chars)) all =
    with_kept s.wires p _ all (sent_kept (s.wires p) chars (all p))
line_keep s (Signed (Got q chars)) all = got_keep s (peer_of s q) q chars all
line_keep s (Signed (Fired p)) all = fired_keep s (peer_of s p) p all
line_keep s (Lacked lack) all = all
line_keep s Ended all = all
line_keep s (Undetected number q e) all = all

-- so it is after any lines from a state in which nothing was sent
pub begins_kept : (net : Network) → AreKept (begins net)
begins_kept net p = record { left = []; found = refl }

pub lines_keep : (s : Seen) (lines : List TraceLine) → AreKept s → AreKept (seen s lines)
lines_keep s [] all = all
lines_keep s (line ∷ lines) all = lines_keep (seen_line s line) lines (line_keep s line all)

-- ---- nothing is found exactly if all that a port acts on was sent

pub sent_exactly : (s : Seen) (p q : PortRef) (chars : List Char) → IsKept (s.wires p)
    → (undetected (taken_from s p q chars) ≡ None) ↔ ActsOnSent s p q chars
sent_exactly s p q chars kept =
    delivered_exact (port_seen s q) (s.wires p).acted (s.wires p).sent (kept_of (s.wires p)) chars
    (kept.found ∙ ap Some (sym (kept_is (s.wires p) kept)))

-- where a trace goes on, nothing was found
on_unfound : (s : Seen) (port : Option PortRef) (lines : List TraceLine) → Settled s port lines
    → FindsFirst s lines → trace_goes_on lines ≡ true → s.undetected ≡ None
on_unfound s port [] settled first on = absurd cc
on_unfound s port (Begun line ∷ lines) settled first on = settled.0.0
on_unfound s port (Stepped step ∷ lines) settled first on =
    on_unfound (seen_line s (Stepped step)) port lines settled.1 first.1 on
on_unfound s port (Signed (Sent p chars) ∷ lines) settled first on =
    on_unfound (seen_line s (Signed (Sent p chars))) port lines settled.1 first.1 on
on_unfound s port (Signed (Got q chars) ∷ lines) settled first on = first.0
on_unfound s port (Signed (Fired p) ∷ lines) settled first on =
    sym (fired_found s (peer_of s p) p) ∙ on_unfound
    (seen_line s (Signed (Fired p))) port lines settled.1 first.1 on
on_unfound s port (Lacked lack ∷ lines) settled first on =
    on_unfound s port lines settled.1 first.1 on
on_unfound s port (Ended ∷ lines) settled first on = settled.0.0
on_unfound s port (Undetected number q e ∷ lines) settled first on =
    on_unfound s port lines settled.1 first.1 on

-- and where an event is named, one was found
named_found : (s : Seen) (port : Option PortRef) (lines : List TraceLine) → Settled s port lines
    → names_undetected lines ≡ true → s.undetected ≡ None → ⊥
named_found s port [] settled named none = absurd cc
named_found s port (Begun line ∷ lines) settled named none = absurd cc
named_found s port (Stepped step ∷ lines) settled named none =
    named_found (seen_line s (Stepped step)) port lines settled.1 named none
named_found s port (Signed (Sent p chars) ∷ lines) settled named none =
    named_found (seen_line s (Signed (Sent p chars))) port lines settled.1 named none
named_found s port (Signed (Got q chars) ∷ lines) settled named none = absurd cc
named_found s port (Signed (Fired p) ∷ lines) settled named none =
    named_found (seen_line s (Signed (Fired p))) port lines settled.1 named
    (fired_found s (peer_of s p) p ∙ none)
named_found s port (Lacked lack ∷ lines) settled named none =
    named_found s port lines settled.1 named none
named_found s port (Ended ∷ lines) settled named none = absurd cc
named_found s port (Undetected number q e ∷ lines) settled named none =
    absurd (cc (settled.0, none))

-- ---- one delivery

-- what is found by a delivery, and what the lines behind it tell of that
found_none : (q : PortRef) (e : Option Event) → undetected_at q e ≡ None → e ≡ None
found_none q None is = refl
found_none q (Some e) is = absurd cc

module _ (s : Seen) (p q : PortRef) (chars : List Char) (port : Option PortRef)
    (lines : List TraceLine) (kept : IsKept (s.wires p)) (peer : peer_of s q ≡ Some p) where
  finds : (signed s (Got q chars)).undetected
      ≡ undetected_at q (undetected (taken_from s p q chars))
  finds = ap (λ (o : Option PortRef). (got_from s o q chars).undetected) peer

  delivery_faithful : Settled (signed s (Got q chars)) port lines
      → FindsFirst (signed s (Got q chars)) lines → IsFaithful s p q chars lines
  delivery_faithful settled first = record {
    sent = λ on. (let none = on_unfound (signed s (Got q chars)) port lines settled first on in
        (sent_exactly s p q chars kept).0
        (found_none q (undetected (taken_from s p q chars)) (sym finds ∙ none)));
    undetected = λ named sent. (let none = (sent_exactly s p q chars kept).1 sent in
        named_found (signed s (Got q chars)) port lines settled named
        (finds ∙ ap (undetected_at q) none));
  }

-- ---- whole traces and their fronts

pub made_faithful : (s : Seen) (port : Option PortRef) (lines : List TraceLine) → AreKept s
    → Settled s port lines → FindsFirst s lines → Faithful s lines
made_faithful s port [] kept settled first = tt
made_faithful s port (line ∷ lines) kept settled first = (
  by_line line settled.1 first.1,
  made_faithful (seen_line s line) (under_way port line) lines
      (line_keep s line kept) settled.1 first.1,
)
  where
    by_line : (line : TraceLine) → Settled (seen_line s line) (under_way port line) lines
        → FindsFirst (seen_line s line) lines → FaithfulLine s line lines
    by_line (Begun line) settled first = tt
    by_line (Stepped step) settled first = tt
    by_line (Signed (Sent p chars)) settled first = tt
    by_line (Signed (Got q chars)) settled first = λ p peer. delivery_faithful s p q chars port
        lines (kept p) peer settled first
    by_line (Signed (Fired p)) settled first = tt
    by_line (Lacked lack) settled first = tt
    by_line Ended settled first = tt
    by_line (Undetected number q e) settled first = tt
