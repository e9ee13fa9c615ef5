-- What turns, a status and a time-out make of a link and of the network.
use Rattle.fabric_trace.proofs.Prelude.{◌≡◌, ℕ, ◌++◌, true, false, List, [], ◌∷◌, Option, Some, None, refl, sym, ap, ◌∙◌, subst, if◌then◌else◌, Bool, Event, status, PortState, timed_out, tell_sends, standing, symbol_burst, no_burst, A, port_turned, bursts, LinkState, at_end, sent_notes, pumped, pump_notes, is_silent, first_fires, timed_out_at, time_out_notes, told_from, tell_notes, queues_of, IsSoundLink, pump_keeps, pump_moves_none, fired_keeps, fire_moves_none, told_keeps, PortRef, Network, same_port, Step, LegalFrom, ArePeers, apart_back, turned_is, turns_read, tell_read, Char, half_of, Seen, UndetectedAt, with_wire, port_seen, kept_of, wire_state, link_at, says, sends, wire_silenced, fired_from, seen, lines_of, queues_in, IsKept, IsLink}
use Rattle.link_model.specs.Output as out
use Rattle.link_watch.specs.declared.note.Note.TheVariants as Notes
use Rattle.fabric_trace.proofs.Links.Bursts.{turns_leave}
use Rattle.fabric_trace.proofs.Network.Walks.{AreElsewhere, elsewhere_here}
use Rattle.fabric_trace.proofs.Network.Viewing.{Shows, link_is, is_link}
use Rattle.fabric_trace.proofs.Parts.Folding.{wire_own, wire_other, half_own, half_other, sent_is, sent_kept, kept_more}

-- What a call at a link does: its steps are legal, and what is of other ports stays. The event that
-- was not sent is this one. If there is none, the link is sound, and is this one.
pub record IsCall (s t : Seen) (p q : PortRef) (steps : List Step) (m : LinkState)
    (found : Option UndetectedAt) : Type 0 where
  pub legal : LegalFrom s.network steps t.network
  pub elsewhere : AreElsewhere s.network t.network p q
  pub wires : (c : PortRef) → same_port c p ≡ false → same_port c q ≡ false → t.wires c ≡ s.wires c
  pub halves : (c : PortRef) → same_port c p ≡ false → same_port c q ≡ false
      → t.halves c ≡ s.halves c
  pub undetected : t.undetected ≡ found
  pub link : t.undetected ≡ None → IsLink t p q
  pub becomes : t.undetected ≡ None → link_at t p q ≡ m

-- ---- characters that are sent

-- the wire behind characters that say these events
wire_says : (s : Seen) (p q : PortRef) (chars : List Char) (events : List Event) → IsLink s p q
    → says chars ≡ events
    → wire_state ((seen s (lines_of p q (sent_notes A chars))).wires p) ≡ record {
      chars = (s.wires p).chars ++ chars;
      kept = kept_of (s.wires p) ++ events;
    }
wire_says s p q chars events is says_them =
    ap wire_state (sent_is s p q A chars).wire
    ∙ (λ i. record {
      chars = (s.wires p).chars ++ chars;
      kept = (kept_more (s.wires p) chars is.kept_a
          ∙ ap (λ (es : List Event). kept_of (s.wires p) ++ es) says_them) i;
    })

-- a call that only sends characters, behind which this link is shown
sends_call : (s : Seen) (p q : PortRef) (chars : List Char) (m : LinkState)
    → ArePeers s.network.links p q → IsLink s p q → IsSoundLink m
    → Shows (seen s (lines_of p q (sent_notes A chars))) p q m
    → IsCall s (seen s (lines_of p q (sent_notes A chars))) p q [] m s.undetected
sends_call s p q chars m peers is sound shows =
    let t = seen s (lines_of p q (sent_notes A chars)) in
    let sent = sent_is s p q A chars in
    let back = apart_back p q peers.apart in
    record {
      legal = sent.network;
      elsewhere =
          subst (λ (net : Network). AreElsewhere s.network net p q) (sym sent.network)
          (elsewhere_here s.network p q);
      wires = λ c x y. sent.other_wires c x;
      halves = λ c x y. sent.other_halves c x;
      undetected = sent.undetected;
      link = λ none. is_link t p q m sound shows
          (subst IsKept (sym sent.wire) (sent_kept (s.wires p) chars is.kept_a))
          (subst IsKept (sym (sent.other_wires q back)) is.kept_b);
      becomes = λ none. link_is t p q m sound.port_a sound.port_b shows;
    }

-- ---- turns

pub turns_call : (s : Seen) (p q : PortRef) (n : ℕ) → ArePeers s.network.links p q → IsLink s p q
    → IsCall s (seen s (lines_of p q (pump_notes A n (link_at s p q)))) p q []
    (pumped A n (link_at s p q)) s.undetected
turns_call s p q n peers is =
    let l = link_at s p q in
    let chars = (bursts n l.a).chars in
    let t = seen s (lines_of p q (sent_notes A chars)) in
    let sent = sent_is s p q A chars in
    let read = turns_read n l.a is.sound.port_a in
    let output : sends l.a.output (says chars) ≡ (port_turned n l.a).output =
    ap (sends l.a.output) read.says ∙ turns_leave n l.a is.sound.port_a in
    let back = apart_back p q peers.apart in
    let m = pumped A n l in
    let sound = pump_keeps A n l is.sound in
    let shows : Shows t p q m = record {
      queues = ap (λ (net : Network). queues_in net p q) sent.network ∙ is.stands
          ∙ sym (pump_moves_none A n l is.sound);
      tells_a = ap (λ (net : Network). net.tells p) sent.network
          ∙ sym (ap (λ (port : PortState). port.tells) (turned_is n l.a));
      tells_b = ap (λ (net : Network). net.tells q) sent.network;
      half_a = sent.half
          ∙ (λ i. record { place = l.a.place; output = output i; input = l.a.input })
          ∙ sym (ap half_of (turned_is n l.a));
      half_b = sent.other_halves q back;
      wire_a = wire_says s p q chars (bursts n l.a).sent is read.says;
      wire_b = ap wire_state (sent.other_wires q back);
    } in
    sends_call s p q chars m peers is sound shows

-- ---- statuses

-- a status leaves the output half
tell_leaves : (tells : Bool) (expected buffers : ℕ) (output : out.Output)
    → sends output (if tells then symbol_burst (status expected buffers) else no_burst).sent
    ≡ output
unfolding sends
tell_leaves true expected buffers (out.Output.Ok w) = refl
tell_leaves true expected buffers _ = refl
tell_leaves false expected buffers output = refl

pub tells_call : (s : Seen) (p q : PortRef) → ArePeers s.network.links p q → IsLink s p q
    → IsCall s (seen s (lines_of p q (tell_notes A (link_at s p q)))) p q []
    (told_from A (link_at s p q)) s.undetected
tells_call s p q peers is =
    let l = link_at s p q in
    let at = standing l.a in
    let chars = (tell_sends l.a).chars in
    let t = seen s (lines_of p q (sent_notes A chars)) in
    let sent = sent_is s p q A chars in
    let read = tell_read l.a is.sound.port_a in
    let output : sends l.a.output (says chars) ≡ l.a.output =
    ap (sends l.a.output) read.says ∙ tell_leaves l.a.tells at.expected at.buffers l.a.output in
    let back = apart_back p q peers.apart in
    let m = told_from A l in
    let sound = told_keeps A l is.sound in
    let shows : Shows t p q m = record {
      queues = ap (λ (net : Network). queues_in net p q) sent.network ∙ is.stands;
      tells_a = ap (λ (net : Network). net.tells p) sent.network;
      tells_b = ap (λ (net : Network). net.tells q) sent.network;
      half_a = sent.half
          ∙ (λ i. record { place = l.a.place; output = output i; input = l.a.input });
      half_b = sent.other_halves q back;
      wire_a = wire_says s p q chars (tell_sends l.a).sent is read.says;
      wire_b = ap wire_state (sent.other_wires q back);
    } in
    sends_call s p q chars m peers is sound shows

-- ---- time-outs

fired_call : (s : Seen) (p q : PortRef) → ArePeers s.network.links p q → IsLink s p q
    → is_silent (link_at s p q) ≡ true
    → IsCall s (fired_from s (Some q) p) p q [] (timed_out_at A (link_at s p q)) s.undetected
fired_call s p q peers is silent =
    let l = link_at s p q in
    let t = fired_from s (Some q) p in
    let back = apart_back p q peers.apart in
    let one = with_wire s.wires p (wire_silenced (s.wires p)) in
    let wire_p : t.wires p ≡ wire_silenced (s.wires p) =
    wire_other one q (wire_silenced (s.wires q)) p peers.apart
    ∙ wire_own s.wires p (wire_silenced (s.wires p)) in
    let wire_q : t.wires q ≡ wire_silenced (s.wires q) = wire_own one q (wire_silenced (s.wires q))
    in
    let fires : timed_out_at A l ≡ first_fires l =
    ap (λ b. if b then at_end A first_fires l else l) silent in
    let sound = subst IsSoundLink fires (fired_keeps A l is.sound) in
    let shows : Shows t p q (first_fires l) = record {
      queues = is.stands ∙ sym (fire_moves_none A l) ∙ ap queues_of fires;
      tells_a = refl;
      tells_b = refl;
      half_a = half_own s.halves p (half_of (timed_out (port_seen s p)));
      half_b = half_other s.halves p (half_of (timed_out (port_seen s p))) q back;
      wire_a = ap wire_state wire_p;
      wire_b = ap wire_state wire_q;
    } in
    record {
      legal = refl;
      elsewhere = elsewhere_here s.network p q;
      wires = λ c x y. wire_other one q (wire_silenced (s.wires q)) c y
          ∙ wire_other s.wires p (wire_silenced (s.wires p)) c x;
      halves = λ c x y. half_other s.halves p (half_of (timed_out (port_seen s p))) c x;
      undetected = refl;
      link = λ none. is_link t p q (first_fires l) sound shows (subst IsKept (sym wire_p) (record {
        left = [];
        found = refl;
      })) (subst IsKept (sym wire_q) (record { left = []; found = refl }));
      becomes = λ none. link_is t p q (first_fires l) sound.port_a sound.port_b shows ∙ sym fires;
    }

pub fires_call : (s : Seen) (p q : PortRef) → ArePeers s.network.links p q → IsLink s p q
    → is_silent (link_at s p q) ≡ true
    → IsCall s (seen s (lines_of p q (time_out_notes A (link_at s p q)))) p q []
    (timed_out_at A (link_at s p q)) s.undetected
fires_call s p q peers is silent =
    let lines = ap (λ b. seen s (lines_of p q (if b then Notes.Fire A ∷ [] else []))) silent in
    subst (λ (t : Seen). IsCall s t p q [] (timed_out_at A (link_at s p q)) s.undetected)
    (sym (lines ∙ ap (λ o. fired_from s o p) peers.there)) (fired_call s p q peers is silent)
