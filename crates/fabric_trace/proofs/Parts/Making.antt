-- Every trace of a script is made of parts.
use Rattle.fabric_trace.proofs.Prelude.{◌≡◌, ℕ, ◌++◌, Bool, true, false, List, [], ◌∷◌, map, Option, Some, None, take, refl, sym, ap, ◌∙◌, subst, append_assoc, if◌then◌else◌, append-nil, Char, Event, Side, A, B, Told, Delivered, Through, WentUndetected, told_of, undetected, answers, Move, Held, Freed, LinkState, turned_round, sent_notes, pumped, pump_notes, has_chars, delivery_from, delivered_from, move_note, told_notes, delivery_notes, is_silent, first_fires, timed_out_at, time_out_notes, tell_notes, told_from, DeliverAct, Reached, At, FoundAt, reached_by, after_act, PortRef, same_port, ArePeers, TraceLine, Step, Seen, UndetectedAt, link_at, undetected_at, seen, port_at_side, line_of, lines_of, Part, PartTurns, PartTells, PartDelivers, PartFires, Made, Done, Then}
use Rattle.link_watch.specs.declared.note.Note.TheVariants as Notes
use Rattle.fabric_trace.proofs.Links.Calling.{IsCall, turns_call, tells_call, fires_call}
use Rattle.fabric_trace.proofs.Links.Delivering.{delivers_call}
use Rattle.fabric_trace.proofs.Parts.Folding.{seen-append, lines-append}
use Rattle.fabric_trace.proofs.Parts.Keeping.{IsGood}
use Rattle.fabric_trace.proofs.Links.Serving.{Untouched}
use Rattle.fabric_trace.proofs.Network.Walks.{same_on, elsewhere_here}

-- ---- parts, joined

pub one_part : {s : Seen} {lines : List TraceLine} → Part s lines → Made s lines
one_part {s} {lines} own = Then lines [] (sym (append-nil lines)) own (Done refl)

pub made-append : {s : Seen} {xs ys : List TraceLine} → Made s xs → Made (seen s xs) ys
    → Made s (xs ++ ys)
made-append {s} {xs} {ys} (Done is) more =
    subst (λ (l : List TraceLine). Made s (l ++ ys)) (sym is)
    (subst (λ (l : List TraceLine). Made (seen s l) ys) is more)
made-append {s} {xs} {ys} (Then first rest is own made) more =
    let there : seen s xs ≡ seen (seen s first) rest = ap (seen s) is ∙ seen-append s first rest in
    Then first (rest ++ ys) (ap (λ (l : List TraceLine). l ++ ys) is ∙ append_assoc first rest ys)
    own
    (made-append made (subst (λ (x : Seen). Made x ys) there more))

pub made_by : {s : Seen} {lines other : List TraceLine} → lines ≡ other → Made s other
    → Made s lines
made_by {s} is made = subst (Made s) (sym is) made

-- ---- an act at the second end is one at the first, the link turned round

pub sent_round : (a b : PortRef) (chars : List Char)
    → lines_of a b (sent_notes B chars) ≡ lines_of b a (sent_notes A chars)
sent_round a b [] = refl
sent_round a b (c ∷ chars) = refl

moves_round : (a b : PortRef) (moves : List Move)
    → lines_of a b (map (move_note A) moves) ≡ lines_of b a (map (move_note B) moves)
moves_round a b [] = refl
moves_round a b (Held packet ∷ moves) =
    ap (λ (l : List TraceLine). line_of a b (move_note A (Held packet)) ∷ l) (moves_round a b moves)
moves_round a b (Freed packet ∷ moves) =
    ap (λ (l : List TraceLine). line_of a b (move_note A (Freed packet)) ∷ l)
    (moves_round a b moves)

told_round : (a b : PortRef) (chars : List Char) (told : Told)
    → lines_of a b (told_notes A chars told) ≡ lines_of b a (told_notes B chars told)
told_round a b chars told =
    let sent = (answers told.replies).chars in
    ap (λ (l : List TraceLine). line_of a b (Notes.Got A (take told.count chars)) ∷ l)
    (lines-append a b (map (move_note A) told.moves) (sent_notes A sent)
    ∙ (λ i. moves_round a b told.moves i ++ sym (sent_round b a sent) i)
    ∙ sym (lines-append b a (map (move_note B) told.moves) (sent_notes B sent)))

pub delivery_round : (a b : PortRef) (n : ℕ) (l : LinkState)
    → lines_of a b (delivery_notes B n l) ≡ lines_of b a (delivery_notes A n (turned_round l))
delivery_round a b n l =
    elim (has_chars B n l) as (λ x. lines_of a b
    (if x then told_notes A (take n l.wire_b.chars) (told_of (delivery_from B n l)) else [])
    ≡ lines_of b a (if x then told_notes B (take n l.wire_b.chars)
    (told_of (delivery_from B n l)) else [])) [
      | true ↦ told_round a b (take n l.wire_b.chars) (told_of (delivery_from B n l))
      | false ↦ refl
    ]

-- ---- other ports

-- What is known of all ports but these two stays, and so do the links.
pub record AreOthers (s t : Seen) (a b : PortRef) : Type 0 where
  pub links : t.network.links ≡ s.network.links
  pub untouched : (c : PortRef) → same_port c a ≡ false → same_port c b ≡ false → Untouched s t c

pub others_here : (s : Seen) (a b : PortRef) → AreOthers s s a b
others_here s a b = record {
  links = refl;
  untouched =
      λ c x y. record {
        lists = (elsewhere_here s.network a b).others c x y;
        wire = refl;
        half = refl;
      };
}

pub others_on : {s t u : Seen} {a b : PortRef} → AreOthers s t a b → AreOthers t u a b
    → AreOthers s u a b
others_on first next = record {
  links = next.links ∙ first.links;
  untouched = λ c x y.
      let one = first.untouched c x y in
      let two = next.untouched c x y in
      record {
        lists = same_on one.lists two.lists;
        wire = two.wire ∙ one.wire;
        half = two.half ∙ one.half;
      };
}

pub others_round : {s t : Seen} {a b : PortRef} → AreOthers s t a b → AreOthers s t b a
others_round others = record { links = others.links; untouched = λ c x y. others.untouched c y x }

call_others : {s t : Seen} {p q : PortRef} {steps : List Step} {m : LinkState}
    {found : Option UndetectedAt} → IsCall s t p q steps m found → AreOthers s t p q
call_others call = record {
  links = call.elsewhere.links;
  untouched =
      λ c x y. record {
        lists = call.elsewhere.others c x y;
        wire = call.wires c x y;
        half = call.halves c x y;
      };
}

-- ---- what is done on a link

-- Lines that are made, touch no other port, and lead to a link, or to an event that was not sent.
pub record Reaches (s : Seen) (a b : PortRef) (lines : List TraceLine) (to : Reached) : Type 0 where
  pub made : Made s lines
  pub others : AreOthers s (seen s lines) a b
  pub there : (m : LinkState) → to ≡ At m
      → ((seen s lines).undetected ≡ None) × (link_at (seen s lines) a b ≡ m)
  pub found : (side : Side) (e : Event) → to ≡ FoundAt side e
      → (seen s lines).undetected ≡ Some (record { port = port_at_side a b side; event = e })

pub at_is : (l m : LinkState) → At l ≡ At m → l ≡ m
at_is l m is = ap link_of is
  where
    link_of : Reached → LinkState
    link_of (At x) = x
    link_of (FoundAt side e) = l

pub pump_reaches : (s : Seen) (p q : PortRef) (n : ℕ) → IsGood s → s.undetected ≡ None
    → ArePeers s.network.links p q
    → Reaches s p q (lines_of p q (pump_notes A n (link_at s p q)))
    (At (pumped A n (link_at s p q)))
pump_reaches s p q n good none peers =
    let call = turns_call s p q n peers (good.links none p q peers.there) in
    let still = call.undetected ∙ none in
    record {
      made = one_part (PartTurns p q n peers.there none refl);
      others = call_others call;
      there = λ m is. (still, call.becomes still ∙ at_is (pumped A n (link_at s p q)) m is);
      found = λ side e is. absurd cc;
    }

pub tell_reaches : (s : Seen) (p q : PortRef) → IsGood s → s.undetected ≡ None
    → ArePeers s.network.links p q
    → Reaches s p q (lines_of p q (tell_notes A (link_at s p q)))
    (At (told_from A (link_at s p q)))
tell_reaches s p q good none peers =
    let call = tells_call s p q peers (good.links none p q peers.there) in
    let still = call.undetected ∙ none in
    record {
      made = one_part (PartTells p q peers.there none refl);
      others = call_others call;
      there = λ m is. (still, call.becomes still ∙ at_is (told_from A (link_at s p q)) m is);
      found = λ side e is. absurd cc;
    }

pub fire_reaches : (s : Seen) (p q : PortRef) → IsGood s → s.undetected ≡ None
    → ArePeers s.network.links p q
    → Reaches s p q (lines_of p q (time_out_notes A (link_at s p q)))
    (At (timed_out_at A (link_at s p q)))
fire_reaches s p q good none peers = by_silence (is_silent (link_at s p q)) refl
  where
    by_silence : (x : Bool) → is_silent (link_at s p q) ≡ x
        → Reaches s p q (lines_of p q (time_out_notes A (link_at s p q)))
        (At (timed_out_at A (link_at s p q)))
    by_silence true is =
        let call = fires_call s p q peers (good.links none p q peers.there) is in
        let still = call.undetected ∙ none in
        record {
          made = one_part (PartFires p q peers.there none is refl);
          others = call_others call;
          there = λ m to. (still, call.becomes still ∙ at_is (timed_out_at A (link_at s p q)) m to);
          found = λ side e to. absurd cc;
        }
    by_silence false is =
        let lines : lines_of p q (time_out_notes A (link_at s p q)) ≡ [] =
        ap (λ x. lines_of p q (if x then Notes.Fire A ∷ [] else [])) is in
        let stays : timed_out_at A (link_at s p q) ≡ link_at s p q =
        ap (λ x. if x then first_fires (link_at s p q) else link_at s p q) is in
        record {
          made = Done lines;
          others = subst (λ (l : List TraceLine). AreOthers s (seen s l) p q) (sym lines)
              (others_here s p q);
          there = λ m to. (
            ap (λ (l : List TraceLine). (seen s l).undetected) lines ∙ none,
            ap (λ (l : List TraceLine). link_at (seen s l) p q) lines ∙ sym stays
                ∙ at_is (timed_out_at A (link_at s p q)) m to,
          );
          found = λ side e to. absurd cc;
        }

-- where a delivery leads to
abbrev delivery_to : LinkState → ℕ → Reached
delivery_to l n =
    if has_chars A n l then reached_by B (delivered_from A n l) (delivery_from A n l) else At l

pub deliver_reaches : (s : Seen) (p q : PortRef) (n : ℕ) → IsGood s → s.undetected ≡ None
    → ArePeers s.network.links p q
    → Reaches s p q (lines_of p q (delivery_notes A n (link_at s p q)))
    (after_act (DeliverAct A n) (link_at s p q))
deliver_reaches s p q n good none peers = by_chars (has_chars A n (link_at s p q)) refl
  where
    by_end : (d : Delivered) → delivery_from A n (link_at s p q) ≡ d
        → (still : (seen s (lines_of p q (delivery_notes A n (link_at s p q)))).undetected
        ≡ undetected_at q (undetected d))
        → ((seen s (lines_of p q (delivery_notes A n (link_at s p q)))).undetected ≡ None
        → link_at (seen s (lines_of p q (delivery_notes A n (link_at s p q)))) p q
        ≡ delivered_from A n (link_at s p q))
        → (m : LinkState) → reached_by B (delivered_from A n (link_at s p q)) d ≡ At m
        → ((seen s (lines_of p q (delivery_notes A n (link_at s p q)))).undetected ≡ None)
        × (link_at (seen s (lines_of p q (delivery_notes A n (link_at s p q)))) p q ≡ m)
    by_end (Through flow) is still becomes m to =
        (still, becomes still ∙ at_is (delivered_from A n (link_at s p q)) m to)
    by_end (WentUndetected told e) is still becomes m to = absurd cc

    by_found : (d : Delivered)
        → (still : (seen s (lines_of p q (delivery_notes A n (link_at s p q)))).undetected
        ≡ undetected_at q (undetected d))
        → (side : Side) (e : Event)
        → reached_by B (delivered_from A n (link_at s p q)) d ≡ FoundAt side e
        → (seen s (lines_of p q (delivery_notes A n (link_at s p q)))).undetected ≡ Some (record {
          port = port_at_side p q side;
          event = e;
        })
    by_found (Through flow) still side e to = absurd cc
    by_found (WentUndetected told x) still A e to = absurd cc
    by_found (WentUndetected told x) still B e to =
        still ∙ (let same : x ≡ e =
        cc in ap (λ (y : Event). Some (record { port = q; event = y })) same)

    by_chars : (x : Bool) → has_chars A n (link_at s p q) ≡ x
        → Reaches s p q (lines_of p q (delivery_notes A n (link_at s p q)))
        (after_act (DeliverAct A n) (link_at s p q))
    by_chars true is =
        let call = delivers_call s p q n peers (good.links none p q peers.there) is in
        let to : after_act (DeliverAct A n) (link_at s p q)
        ≡ reached_by B (delivered_from A n (link_at s p q)) (delivery_from A n (link_at s p q)) =
        ap (λ x. if x then reached_by B (delivered_from A n (link_at s p q))
        (delivery_from A n (link_at s p q)) else At (link_at s p q)) is in
        record {
          made = one_part (PartDelivers p q n peers.there none is refl);
          others = call_others call;
          there = λ m there. by_end (delivery_from A n (link_at s p q)) refl call.undetected
              call.becomes m (sym to ∙ there);
          found = λ side e there. by_found (delivery_from A n (link_at s p q)) call.undetected side
              e (sym to ∙ there);
        }
    by_chars false is =
        let lines : lines_of p q (delivery_notes A n (link_at s p q)) ≡ [] =
        ap (λ x. lines_of p q (if x then told_notes B (take n (s.wires p).chars)
        (told_of (delivery_from A n (link_at s p q))) else [])) is in
        let to : after_act (DeliverAct A n) (link_at s p q) ≡ At (link_at s p q) =
        ap (λ x. if x then reached_by B (delivered_from A n (link_at s p q))
        (delivery_from A n (link_at s p q)) else At (link_at s p q)) is in
        record {
          made = Done lines;
          others = subst (λ (l : List TraceLine). AreOthers s (seen s l) p q) (sym lines)
              (others_here s p q);
          there = λ m there. (
            ap (λ (l : List TraceLine). (seen s l).undetected) lines ∙ none,
            ap (λ (l : List TraceLine). link_at (seen s l) p q) lines
                ∙ at_is (link_at s p q) m (sym to ∙ there),
          );
          found = λ side e there. absurd (cc (to, there));
        }
