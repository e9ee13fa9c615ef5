-- What is done at a link: what is sent was due, and what is kept of its ports stays what they are.
use Rattle.answered_traces.proofs.Prelude.{◌≡◌, ℕ, ◌++◌, true, false, List, [], ◌∷◌, take, Option, Some, None, refl, sym, ap, ◌∙◌, subst, if◌then◌else◌, Char, Event, tell_sends, sent_notes, pumped, pump_notes, told_from, tell_notes, after_delivery, first_takes, has_chars, delivery_from, delivered_from, delivery_notes, is_silent, first_fires, timed_out_at, time_out_notes, Delivered, Through, WentUndetected, told_of, undetected, bursts, answers, Move, PortRef, same_port, ArePeers, apart_back, Got, Fired, TraceLine, Signed, lines_of, undetected_at, seen, Seen, UndetectedAt, peer_of, port_seen, kept_of, link_at, Untouched, IsGood, good_peers, after_line, after_lines, LinesReact, ReactionsKept, AreDue, PortKept, after_got, after_sending}
use Rattle.link_machine.specs.States.{LinkState, turned_round, at_end}
use Rattle.link_watch.specs.declared.note.Note.TheVariants as Notes
use Rattle.link_watch.specs.declared.side.Side.TheVariants.{A, B}
use Rattle.fabric_model.specs.Steps.{Step}
use Rattle.fabric_trace.proofs.Links.Calling.{IsCall, turns_call, tells_call, fires_call}
use Rattle.fabric_trace.proofs.Links.Delivering.{delivers_call}
use Rattle.fabric_trace.proofs.Parts.Carrying.{got_lines, delivery_lines}
use Rattle.answered_traces.proofs.Following.{KeepsPortAs, KeepsSeen}
use Rattle.answered_traces.proofs.PortCalls.{turns_keep, tells_keep, time_out_keeps, delivery_due, delivery_keeps}
use Rattle.answered_traces.proofs.PartsKept.{lines_after, react_both, StaysKept, stays_by, keeps_on, BecomesAt, changed_own, changed_other, by_two_ports, sending_reacts, sending_becomes, moves_react}

call_untouched : {s t : Seen} {p q : PortRef} {steps : List Step} {m : LinkState}
    {found : Option UndetectedAt}
    → IsCall s t p q steps m found
    → (c : PortRef) → same_port c p ≡ false → same_port c q ≡ false → Untouched s t c
call_untouched call c x y = record {
  lists = call.elsewhere.others c x y;
  wire = call.wires c x y;
  half = call.halves c x y;
}

-- ---- the lines of a delivery

-- the reactions of its answers are due
delivery_reacts : (kept : ReactionsKept) (p q : PortRef) (front : List Char) (moves : List Move)
    (replies : List Char) → AreDue (after_got (kept.ports q) front) replies
    → LinesReact kept (got_lines p q front moves ++ lines_of p q (sent_notes B replies))
delivery_reacts kept p q front moves replies due =
    let got = after_line kept (Signed (Got q front)) in
    let still = moves_react got p q B moves in
    react_both kept (got_lines p q front moves) (lines_of p q (sent_notes B replies))
    (tt, still.0)
    (subst (λ (k : ReactionsKept). LinesReact k (lines_of p q (sent_notes B replies)))
    (sym still.1)
    (sending_reacts got p q B replies
    (subst (λ (k : PortKept). AreDue k replies)
    (sym (changed_own kept.ports q (λ port. after_got port front))) due)))

some_none : (q : PortRef) (e : Event) → undetected_at q (Some e) ≡ None → ⊥
some_none q e is = absurd cc

-- what they leave of what is kept
delivery_becomes : (kept : ReactionsKept) (p q : PortRef) (front : List Char) (moves : List Move)
    (replies : List Char)
    → BecomesAt kept
    (after_lines kept (got_lines p q front moves ++ lines_of p q (sent_notes B replies))) q
    (after_sending (after_got (kept.ports q) front) replies)
delivery_becomes kept p q front moves replies =
    let got = after_line kept (Signed (Got q front)) in
    let answer = lines_of p q (sent_notes B replies) in
    let now : after_lines kept (got_lines p q front moves ++ answer) ≡ after_lines got answer =
    lines_after kept (got_lines p q front moves) answer
    ∙ ap (λ (k : ReactionsKept). after_lines k answer) (moves_react got p q B moves).1 in
    let sent = sending_becomes got p q B replies in
    subst (λ (k : ReactionsKept).
    BecomesAt kept k q (after_sending (after_got (kept.ports q) front) replies)) (sym now)
    (record {
      own = sent.own ∙ ap (λ (port : PortKept). after_sending port replies)
          (changed_own kept.ports q (λ port. after_got port front));
      others = λ c apart. sent.others c apart
          ∙ changed_other kept.ports q (λ port. after_got port front) c apart;
    })

-- ---- turns and statuses

-- a call in which the first port sends, and the second is as it was
sends_stay : (kept : ReactionsKept) (s : Seen) (p q : PortRef) (chars : List Char)
    (m : LinkState) → ArePeers s.network.links p q → KeepsSeen kept s → m.b ≡ port_seen s q
    → IsCall s (seen s (lines_of p q (sent_notes A chars))) p q [] m s.undetected
    → AreDue (kept.ports p) chars × KeepsPortAs (after_sending (kept.ports p) chars) m.a
    → StaysKept kept s (lines_of p q (sent_notes A chars))
sends_stay kept s p q chars m peers keeps far call own =
    let lines = lines_of p q (sent_notes A chars) in
    let t = seen s lines in
    let sent = sending_becomes kept p q A chars in
    record {
      react = sending_reacts kept p q A chars own.0;
      keeps = λ none. by_two_ports kept (after_lines kept lines) s t p q
          (λ c x y. call_untouched call c x y) (λ c x y. sent.others c x)
          (keeps_on sent.own (ap (λ (l : LinkState). l.a) (call.becomes none)) own.1)
          (keeps_on (sent.others q (apart_back p q peers.apart))
          (ap (λ (l : LinkState). l.b) (call.becomes none) ∙ far) (keeps q)) keeps;
    }

pub turns_stay : (kept : ReactionsKept) (s : Seen) (p q : PortRef) (n : ℕ) → IsGood s
    → peer_of s p ≡ Some q → s.undetected ≡ None → KeepsSeen kept s
    → StaysKept kept s (lines_of p q (pump_notes A n (link_at s p q)))
turns_stay kept s p q n good peer none keeps =
    let peers = good_peers p q good peer in
    let is = good.links none p q peer in
    sends_stay kept s p q (bursts n (port_seen s p)).chars (pumped A n (link_at s p q)) peers keeps
    refl (turns_call s p q n peers is)
    (turns_keep (kept.ports p) (port_seen s p) n is.sound.port_a (keeps p))

pub tells_stay : (kept : ReactionsKept) (s : Seen) (p q : PortRef) → IsGood s
    → peer_of s p ≡ Some q → s.undetected ≡ None → KeepsSeen kept s
    → StaysKept kept s (lines_of p q (tell_notes A (link_at s p q)))
tells_stay kept s p q good peer none keeps =
    let peers = good_peers p q good peer in
    let is = good.links none p q peer in
    sends_stay kept s p q (tell_sends (port_seen s p)).chars (told_from A (link_at s p q)) peers
    keeps refl (tells_call s p q peers is)
    (tells_keep (kept.ports p) (port_seen s p) is.sound.port_a (keeps p))

-- ---- time-outs

pub fires_stay : (kept : ReactionsKept) (s : Seen) (p q : PortRef) → IsGood s
    → peer_of s p ≡ Some q → s.undetected ≡ None → is_silent (link_at s p q) ≡ true
    → KeepsSeen kept s → StaysKept kept s (lines_of p q (time_out_notes A (link_at s p q)))
fires_stay kept s p q good peer none silent keeps =
    let l = link_at s p q in
    let line : lines_of p q (time_out_notes A l) ≡ Signed (Fired p) ∷ [] =
    ap (λ x. lines_of p q (if x then Notes.Fire A ∷ [] else [])) silent in
    let fires : timed_out_at A l ≡ first_fires l =
    ap (λ x. if x then at_end A first_fires l else l) silent in
    let call =
    subst (λ (x : List TraceLine).
    IsCall s (seen s x) p q [] (timed_out_at A l) s.undetected) line
    (fires_call s p q (good_peers p q good peer) (good.links none p q peer) silent) in
    stays_by line (record {
      react = (tt, tt);
      keeps = λ still. by_two_ports kept kept s (seen s (Signed (Fired p) ∷ [])) p q
          (λ c x y. call_untouched call c x y) (λ c x y. refl)
          (keeps_on refl (ap (λ (x : LinkState). x.a) (call.becomes still ∙ fires))
          (time_out_keeps (kept.ports p) (port_seen s p) (keeps p)))
          (keeps_on refl (ap (λ (x : LinkState). x.b) (call.becomes still ∙ fires)) (keeps q))
          keeps;
    })

-- ---- deliveries

-- what is kept after a delivery, by what it came to
delivered_keeps : (kept : ReactionsKept) (s : Seen) (p q : PortRef) (n : ℕ) (d : Delivered)
    → IsGood s → peer_of s p ≡ Some q → s.undetected ≡ None
    → has_chars A n (link_at s p q) ≡ true → KeepsSeen kept s
    → delivery_from A n (link_at s p q) ≡ d
    → (now : ReactionsKept)
    → BecomesAt kept now q
    (after_sending (after_got (kept.ports q) (take (told_of d).count (take n (s.wires p).chars)))
    (answers (told_of d).replies).chars)
    → (seen s (lines_of p q (delivery_notes A n (link_at s p q)))).undetected ≡ None
    → KeepsSeen now (seen s (lines_of p q (delivery_notes A n (link_at s p q))))
delivered_keeps kept s p q n (Through flow) good peer none has keeps through now becomes still =
    let l = link_at s p q in
    let peers = good_peers p q good peer in
    let is = good.links none p q peer in
    let call = delivers_call s p q n peers is has in
    let m = turned_round (after_delivery n (Through flow) (turned_round l)) in
    let there : delivered_from A n l ≡ m =
    ap (λ x. if x then at_end B (first_takes n) l else l) has
    ∙ ap (λ (x : Delivered). turned_round (after_delivery n x (turned_round l))) through in
    by_two_ports kept now s (seen s (lines_of p q (delivery_notes A n l))) p q
    (λ c x y. call_untouched call c x y) (λ c x y. becomes.others c y)
    (keeps_on (becomes.others p peers.apart)
    (ap (λ (x : LinkState). x.a) (call.becomes still ∙ there)) (keeps p))
    (keeps_on becomes.own (ap (λ (x : LinkState). x.b) (call.becomes still ∙ there))
    (delivery_keeps (kept.ports q) (port_seen s q) (kept_of (s.wires p)) (take n (s.wires p).chars)
    flow is.sound.port_b (keeps q) through)) keeps
delivered_keeps kept s p q n (WentUndetected told e) good peer none has keeps missed now becomes
    still =
    let call = delivers_call s p q n (good_peers p q good peer) (good.links none p q peer) has in
    absurd (some_none q e
    (sym (call.undetected ∙ ap (λ (x : Delivered). undetected_at q (undetected x)) missed)
    ∙ still))

pub delivers_stay : (kept : ReactionsKept) (s : Seen) (p q : PortRef) (n : ℕ) → IsGood s
    → peer_of s p ≡ Some q → s.undetected ≡ None → has_chars A n (link_at s p q) ≡ true
    → KeepsSeen kept s → StaysKept kept s (lines_of p q (delivery_notes A n (link_at s p q)))
delivers_stay kept s p q n good peer none has keeps =
    let l = link_at s p q in
    let d = delivery_from A n l in
    let chars = take n (s.wires p).chars in
    let told = told_of d in
    let front = take told.count chars in
    let replies = (answers told.replies).chars in
    let lines = delivery_lines p q n l has in
    let due =
    delivery_due (kept.ports q) (port_seen s q) (kept_of (s.wires p)) chars
    (good.links none p q peer).sound.port_b (keeps q) in
    let becomes =
    subst (λ (x : List TraceLine). BecomesAt kept (after_lines kept x) q
    (after_sending (after_got (kept.ports q) front) replies)) (sym lines)
    (delivery_becomes kept p q front told.moves replies) in
    record {
      react = subst (LinesReact kept) (sym lines)
          (delivery_reacts kept p q front told.moves replies due);
      keeps = delivered_keeps kept s p q n d good peer none has keeps refl
          (after_lines kept (lines_of p q (delivery_notes A n l))) becomes;
    }
