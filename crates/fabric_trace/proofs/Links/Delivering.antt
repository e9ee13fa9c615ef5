-- What a delivery makes of a link and of the network.
use Rattle.fabric_trace.proofs.Prelude.{◌≡◌, ℕ, ◌++◌, Bool, true, false, nat_le, List, [], length, map, take, drop, Some, None, refl, sym, ap, ◌∙◌, subst, if◌then◌else◌, arith, length-take, leb-true, Char, Fields, Event, PortState, IsPort, AreAnswers, port_narrow, Note, A, B, Told, Flow, Delivered, Through, WentUndetected, delivered, told_of, undetected, answers, behind_all, through_count, LinkState, turned_round, at_end, sent_notes, delivery, after_delivery, first_takes, has_chars, delivery_from, delivered_from, move_note, told_notes, delivery_notes, Queues, queues_of, IsSoundLink, delivery_keeps, delivery_walks, delivery_steps, PortRef, Network, same_port, Step, after_all, LegalFrom, ArePeers, apart_back, Got, steps_of, Half, half_of, Wire, Seen, port_seen, kept_of, wire_state, link_at, says, sends, wire_sent, half_sent, taken_from, half_after, undetected_at, got_from, signed, seen, lines_of, queues_in, IsKept, IsLink}
use Rattle.link_wires.proofs.ActedLaws.{IsFound, delivered_found}
use Rattle.link_machine.specs.Queues as link
use Rattle.fabric_trace.proofs.Links.Bursts.{answers_say, answers_leave}
use Rattle.fabric_trace.proofs.Links.Cuts.{taken_again}
use Rattle.fabric_trace.proofs.Network.Walks.{AreElsewhere, AreLed, net_steps, walks_led, steps_said}
use Rattle.fabric_trace.proofs.Network.Viewing.{Shows, link_is, is_link}
use Rattle.fabric_trace.proofs.Parts.Folding.{seen-append, lines-append, wire_own, wire_other, half_own, half_other, IsSent, sent_is, sent_kept, kept_more, acted_kept, acted_left, moves_seen, network_is}
use Rattle.fabric_trace.proofs.Links.Calling.{IsCall}
use Rattle.fabric_trace.proofs.Links.Telling.{through_tells, lines_tell}
use Rattle.link_machine.proofs.Settling.Replies.{delivered_answers}

-- ---- what the lines leave

-- the wire of p after characters were taken from it
abbrev taken_wire : Wire → List Char → List Event → Wire
taken_wire wire chars acted =
    record { chars = drop (length chars) wire.chars; sent = wire.sent; acted = wire.acted ++ acted }

-- The port q took characters of the wire of p, and answered.
record IsTaken (s t : Seen) (p q : PortRef) (chars replies : List Char) (d : Delivered) : Type 0
  where
    pub wire_p : t.wires p ≡ taken_wire (s.wires p) chars (told_of d).acted
    pub wire_q : t.wires q ≡ wire_sent (s.wires q) replies
    pub half_p : t.halves p ≡ s.halves p
    pub half_q : t.halves q ≡ half_sent (half_after (s.halves q) d) replies
    pub wires : (c : PortRef) → same_port c p ≡ false → same_port c q ≡ false
        → t.wires c ≡ s.wires c
    pub halves : (c : PortRef) → same_port c p ≡ false → same_port c q ≡ false
        → t.halves c ≡ s.halves c
    pub undetected : t.undetected ≡ undetected_at q (undetected d)

after_got : (s t : Seen) (p q : PortRef) (chars replies : List Char) (d : Delivered) (net : Network)
    → ArePeers s.network.links p q → taken_from s p q chars ≡ d
    → IsSent (record (got_from s (Some p) q chars) { network = net }) t q replies
    → IsTaken s t p q chars replies d
after_got s t p q chars replies d net peers is sent =
    let got = got_from s (Some p) q chars in
    let back = apart_back p q peers.apart in
    let wire : got.wires p ≡ taken_wire (s.wires p) chars (told_of d).acted =
    wire_own s.wires p (taken_wire (s.wires p) chars (told_of (taken_from s p q chars)).acted)
    ∙ ap (λ (x : Delivered). taken_wire (s.wires p) chars (told_of x).acted) is in
    let wire_elsewhere =
    λ (c : PortRef) (apart : same_port c p ≡ false). wire_other s.wires p
    (taken_wire (s.wires p) chars (told_of (taken_from s p q chars)).acted) c apart in
    let half_elsewhere =
    λ (c : PortRef) (apart : same_port c q ≡ false). half_other s.halves q
    (half_after (s.halves q) (taken_from s p q chars)) c apart in
    record {
      wire_p = sent.other_wires p peers.apart ∙ wire;
      wire_q = sent.wire ∙ ap (λ (w : Wire). wire_sent w replies) (wire_elsewhere q back);
      half_p = sent.other_halves p peers.apart ∙ half_elsewhere p peers.apart;
      half_q = sent.half ∙ ap (λ (h : Half). half_sent h replies)
          (half_own s.halves q (half_after (s.halves q) (taken_from s p q chars))
          ∙ ap (half_after (s.halves q)) is);
      wires = λ c x y. sent.other_wires c y ∙ wire_elsewhere c x;
      halves = λ c x y. sent.other_halves c y ∙ half_elsewhere c y;
      undetected = sent.undetected ∙ ap (λ (x : Delivered). undetected_at q (undetected x)) is;
    }

-- the lines of a delivery
told_seen : (s : Seen) (p q : PortRef) (chars : List Char) (told : Told) (d : Delivered)
    → ArePeers s.network.links p q → taken_from s p q (take told.count chars) ≡ d
    → IsTaken s (seen s (lines_of p q (told_notes B chars told))) p q (take told.count chars)
    (answers told.replies).chars d
told_seen s p q chars told d peers is =
    let front = take told.count chars in
    let replies = (answers told.replies).chars in
    let got = got_from s (Some p) q front in
    let there : signed s (Got q front) ≡ got = ap (λ o. got_from s o q front) peers.back in
    let moves = map (move_note B) told.moves in
    let moved =
    record got { network = after_all got.network (net_steps p q (link.steps_at B told.moves)) } in
    let lines : seen s (lines_of p q (told_notes B chars told))
    ≡ seen moved (lines_of p q (sent_notes B replies)) =
    ap (λ (x : Seen). seen x (lines_of p q (moves ++ sent_notes B replies))) there
    ∙ ap (seen got) (lines-append p q moves (sent_notes B replies))
    ∙ seen-append got (lines_of p q moves) (lines_of p q (sent_notes B replies))
    ∙ ap (λ (x : Seen). seen x (lines_of p q (sent_notes B replies)))
    (moves_seen got p q B told.moves) in
    subst (λ (t : Seen). IsTaken s t p q front replies d) (sym lines)
    (after_got s (seen moved (lines_of p q (sent_notes B replies))) p q front replies d
    moved.network peers is (sent_is moved p q B replies))

-- ---- the link after them

-- what a port answers are answers
flow_answers : (port : PortState) (kept : List Event) (chars : List Char) (flow : Flow)
    → IsPort port → delivered port kept chars ≡ Through flow → AreAnswers flow.told.replies
flow_answers port kept chars flow is through =
    subst (λ (d : Delivered). AreAnswers (told_of d).replies) through
    (delivered_answers port kept chars (port_narrow port is))

answered_half : (half : Half) (replies : List Fields) → AreAnswers replies
    → half_sent half (answers replies).chars ≡ half
answered_half half replies are =
    let output : sends half.output (says (answers replies).chars) ≡ half.output =
    ap (sends half.output) (answers_say replies are) ∙ answers_leave replies half.output are in
    λ i. record { place = half.place; output = output i; input = half.input }

-- the link after a delivery of which every event was sent
abbrev taken_link : ℕ → Delivered → LinkState → LinkState
taken_link n d l = turned_round (after_delivery n d (turned_round l))

through_link : (s t : Seen) (p q : PortRef) (n : ℕ) (chars : List Char) (flow : Flow)
    → IsLink s p q → t.network.tells ≡ s.network.tells → length chars ≡ n
    → delivered (port_seen s q) (kept_of (s.wires p)) chars ≡ Through flow
    → IsTaken s t p q chars (answers flow.told.replies).chars (Through flow)
    → IsSoundLink (taken_link n (Through flow) (link_at s p q))
    → queues_in t.network p q ≡ queues_of (taken_link n (Through flow) (link_at s p q))
    → IsLink t p q × (link_at t p q ≡ taken_link n (Through flow) (link_at s p q))
through_link s t p q n chars flow is tells count through taken sound queues =
    let are = flow_answers (port_seen s q) (kept_of (s.wires p)) chars flow is.sound.port_b through
    in
    let replies = (answers flow.told.replies).chars in
    let found : behind_all flow.told.acted (kept_of (s.wires p)) ≡ Some flow.kept =
    subst (IsFound (kept_of (s.wires p))) through
    (delivered_found (port_seen s q) (kept_of (s.wires p)) chars) in
    let kept_p =
    acted_kept (s.wires p) (drop (length chars) (s.wires p).chars) flow.told.acted flow.kept
    is.kept_a found in
    let left : kept_of (taken_wire (s.wires p) chars flow.told.acted) ≡ flow.kept =
    acted_left (s.wires p) (drop (length chars) (s.wires p).chars) flow.told.acted flow.kept
    is.kept_a found in
    let m = taken_link n (Through flow) (link_at s p q) in
    let shows : Shows t p q m = record {
      queues = queues;
      tells_a = ap (λ (f : PortRef → Bool). f p) tells;
      tells_b = ap (λ (f : PortRef → Bool). f q) tells
          ∙ sym (through_tells (port_seen s q) (kept_of (s.wires p)) chars flow through);
      half_a = taken.half_p;
      half_b = taken.half_q ∙ answered_half (half_of flow.port) flow.told.replies are;
      wire_a = ap wire_state taken.wire_p ∙ (λ i. record {
        chars = drop (count i) (s.wires p).chars;
        kept = left i;
      });
      wire_b = ap wire_state taken.wire_q ∙ (λ i. record {
        chars = (s.wires q).chars ++ replies;
        kept = (kept_more (s.wires q) replies is.kept_b
            ∙ ap (λ (es : List Event). kept_of (s.wires q) ++ es)
            (answers_say flow.told.replies are)) i;
      });
    } in (
      is_link t p q m sound shows (subst IsKept (sym taken.wire_p) kept_p)
          (subst IsKept (sym taken.wire_q) (sent_kept (s.wires q) replies is.kept_b)),
      link_is t p q m sound.port_a sound.port_b shows,
    )

-- ---- the call

-- steps lead a link's queues, and the lines say them
led_call : (s : Seen) (p q : PortRef) (notes : List Note) (end : Queues)
    → AreLed s.network (net_steps p q (link.note_steps notes)) p q end
    → LegalFrom s.network (steps_of (lines_of p q notes)) (seen s (lines_of p q notes)).network
    × (queues_in (seen s (lines_of p q notes)).network p q ≡ end)
    × AreElsewhere s.network (seen s (lines_of p q notes)).network p q
led_call s p q notes end led =
    let lines = lines_of p q notes in
    let steps = steps_said p q notes in
    let net : (seen s lines).network ≡ after_all s.network (net_steps p q (link.note_steps notes)) =
    network_is s lines ∙ ap (after_all s.network) steps in (
      subst (λ (x : List Step). LegalFrom s.network x (seen s lines).network) (sym steps)
          (subst (LegalFrom s.network (net_steps p q (link.note_steps notes))) (sym net) led.legal),
      ap (λ (x : Network). queues_in x p q) net ∙ led.queues,
      subst (λ (x : Network). AreElsewhere s.network x p q) (sym net) led.elsewhere,
    )

front_count : (chars : List Char) (n : ℕ) → nat_le n (length chars) ≡ true
    → length (take n chars) ≡ n
front_count chars n has = let most = leb-true n (length chars) has in let is =
    length-take n chars in omega (arith, most, is)

by_delivery : (s : Seen) (p q : PortRef) (n : ℕ) (d : Delivered) → ArePeers s.network.links p q
    → IsLink s p q → has_chars A n (link_at s p q) ≡ true
    → delivery n (turned_round (link_at s p q)) ≡ d
    → IsTaken s (seen s (lines_of p q (delivery_notes A n (link_at s p q)))) p q
    (take (told_of d).count (take n (s.wires p).chars)) (answers (told_of d).replies).chars d
    → IsCall s (seen s (lines_of p q (delivery_notes A n (link_at s p q)))) p q
    (steps_of (lines_of p q (delivery_notes A n (link_at s p q))))
    (delivered_from A n (link_at s p q)) (undetected_at q (undetected d))
by_delivery s p q n (Through flow) peers is has through taken =
    let l = link_at s p q in
    let chars = take n (s.wires p).chars in
    let front = take flow.told.count chars in
    let count = front_count (s.wires p).chars n has in
    let all = through_count (port_seen s q) (kept_of (s.wires p)) chars flow through in
    let length_is : length front ≡ n =
    (let is = length-take flow.told.count chars in omega (arith, count, all, is)) in
    let link : delivered_from A n l ≡ taken_link n (Through flow) l =
    ap (λ b. if b then at_end B (first_takes n) l else l) has
    ∙ ap (λ (d : Delivered). taken_link n d l) through in
    let walks = delivery_walks A n l (ap undetected through) is.sound in
    let led =
    led_call s p q (delivery_notes A n l) (queues_of (delivered_from A n l))
    (walks_led walks s.network p q (sym is.stands) peers) in
    let again : delivered (port_seen s q) (kept_of (s.wires p)) front ≡ Through flow =
    taken_again (port_seen s q) (kept_of (s.wires p)) chars (Through flow) through in
    let lines = lines_of p q (delivery_notes A n l) in
    let done =
    through_link s (seen s lines) p q n front flow is (lines_tell s lines) length_is again taken
    (subst IsSoundLink link (delivery_keeps A n l is.sound)) (led.1 ∙ ap queues_of link) in
    record {
      legal = led.0;
      elsewhere = led.2;
      wires = taken.wires;
      halves = taken.halves;
      undetected = taken.undetected;
      link = λ none. done.0;
      becomes = λ none. done.1 ∙ sym link;
    }
by_delivery s p q n (WentUndetected told e) peers is has missed taken =
    let l = link_at s p q in
    let some = delivery_steps A n l is.sound in
    let led =
    led_call s p q (delivery_notes A n l) some.0
    (walks_led some.1 s.network p q (sym is.stands) peers) in
    record {
      legal = led.0;
      elsewhere = led.2;
      wires = taken.wires;
      halves = taken.halves;
      undetected = taken.undetected;
      link = λ none. absurd (some_none q e (sym taken.undetected ∙ none));
      becomes = λ none. absurd (some_none q e (sym taken.undetected ∙ none));
    }
  where
    some_none : (q : PortRef) (e : Event) → undetected_at q (Some e) ≡ None → ⊥
    some_none q e is = absurd cc

pub delivers_call : (s : Seen) (p q : PortRef) (n : ℕ) → ArePeers s.network.links p q → IsLink s p q
    → has_chars A n (link_at s p q) ≡ true
    → IsCall s (seen s (lines_of p q (delivery_notes A n (link_at s p q)))) p q
    (steps_of (lines_of p q (delivery_notes A n (link_at s p q))))
    (delivered_from A n (link_at s p q))
    (undetected_at q (undetected (delivery_from A n (link_at s p q))))
delivers_call s p q n peers is has =
    let l = link_at s p q in
    let chars = take n (s.wires p).chars in
    let d = delivery n (turned_round l) in
    let notes : delivery_notes A n l ≡ told_notes B chars (told_of d) =
    ap (λ b. if b then told_notes B chars (told_of d) else []) has in
    let taken =
    told_seen s p q chars (told_of d) d peers
    (taken_again (port_seen s q) (kept_of (s.wires p)) chars d refl) in
    by_delivery s p q n d peers is has refl
    (subst (λ (x : List Note). IsTaken s (seen s (lines_of p q x)) p q
    (take (told_of d).count chars) (answers (told_of d).replies).chars d) (sym notes) taken)
