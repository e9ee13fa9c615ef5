-- What is done at either end of a link is made of parts, and leads where a link's machine says.
use Rattle.fabric_trace.proofs.Prelude.{◌≡◌, ℕ, ◌&&◌, ◌++◌, Bool, true, false, List, [], ◌∷◌, Some, None, refl, sym, ap, ◌∙◌, subst, if◌then◌else◌, Event, append-nil, Note, Side, A, B, Delivered, Through, WentUndetected, bursts, LinkState, turned_round, first_takes, has_chars, delivery_from, has_none, is_silent, first_fires, time_out_notes, Act, PumpAct, TellAct, DeliverAct, Fire, Reached, At, FoundAt, reached_by, after_act, goes, act_notes, acts_notes, PortRef, ArePeers, TraceLine, Seen, link_at, seen, port_at_side, lines_of, Done, tell_sends}
use Rattle.link_watch.specs.declared.note.Note.TheVariants as Notes
use Rattle.link_machine.proofs.Settling.Drains.{goes_found, goes_none}
use Rattle.link_watch.specs.Sides.{other_side}
use Rattle.fabric_trace.proofs.Parts.Folding.{seen-append, lines-append}
use Rattle.fabric_trace.proofs.Parts.Keeping.{IsGood, legal_links, made_keeps}
use Rattle.fabric_trace.proofs.Parts.Making.{AreOthers, others_here, others_on, others_round, Reaches, at_is, made-append, made_by, sent_round, delivery_round, pump_reaches, fire_reaches, deliver_reaches, tell_reaches}
use Rattle.fabric_trace.proofs.Network.Walks.{peers_round}

-- ---- what is done at either end

-- how far a link has come, its other end first
abbrev round : Reached → Reached
round (At m) = At (turned_round m)
round (FoundAt side e) = FoundAt (other_side side) e

round_back : (to : Reached) (m : LinkState) → round to ≡ At m → to ≡ At (turned_round m)
round_back (At x) m is = ap round is
round_back (FoundAt side e) m is = absurd cc

round_found : (to : Reached) (side : Side) (e : Event) → round to ≡ FoundAt side e
    → to ≡ FoundAt (other_side side) e
round_found (At x) side e is = absurd cc
round_found (FoundAt A x) side e is = ap round is
round_found (FoundAt B x) side e is = ap round is

side_round : (a b : PortRef) (side : Side)
    → port_at_side b a (other_side side) ≡ port_at_side a b side
side_round a b A = refl
side_round a b B = refl

reaches_by : (s : Seen) (a b : PortRef) (lines other : List TraceLine) (to next : Reached)
    → other ≡ lines → next ≡ to → Reaches s a b lines to → Reaches s a b other next
reaches_by s a b lines other to next same is r =
    subst (λ (x : Reached). Reaches s a b other x) (sym is)
    (subst (λ (x : List TraceLine). Reaches s a b x to) (sym same) r)

reaches_round : (s : Seen) (a b : PortRef) (lines other : List TraceLine) (to turned : Reached)
    → other ≡ lines → turned ≡ round to → Reaches s b a lines to → Reaches s a b other turned
reaches_round s a b lines other to turned same is r = record {
  made = made_by same r.made;
  others = subst (λ (l : List TraceLine). AreOthers s (seen s l) a b) (sym same)
      (others_round r.others);
  there = λ m at.
      let t = r.there (turned_round m) (round_back to m (sym is ∙ at)) in (
        ap (λ (l : List TraceLine). (seen s l).undetected) same ∙ t.0,
        ap (λ (l : List TraceLine). link_at (seen s l) a b) same ∙ ap turned_round t.1,
      );
  found = λ side e at.
      ap (λ (l : List TraceLine). (seen s l).undetected) same
      ∙ r.found (other_side side) e (round_found to side e (sym is ∙ at))
      ∙ ap (λ (p : PortRef). Some (record { port = p; event = e })) (side_round a b side);
}

delivered_round : (l : LinkState) (d : Delivered)
    → reached_by A l d ≡ round (reached_by B (turned_round l) d)
delivered_round l (Through flow) = refl
delivered_round l (WentUndetected told e) = refl

deliver_round : (n : ℕ) (l : LinkState)
    → after_act (DeliverAct B n) l ≡ round (after_act (DeliverAct A n) (turned_round l))
deliver_round n l =
    elim (has_chars B n l) as (λ x. (if x then reached_by A (if x then first_takes n l else l)
    (delivery_from B n l) else At l)
    ≡ round (if x then reached_by B (if x then turned_round (first_takes n l) else turned_round l)
    (delivery_from B n l) else At (turned_round l))) [
      | true ↦ delivered_round (first_takes n l) (delivery_from B n l)
      | false ↦ refl
    ]

fire_round : (l : LinkState) → after_act (Fire B) l ≡ round (after_act (Fire A) (turned_round l))
fire_round l =
    elim (has_none l.wire_a.chars) as (λ x. At
    (if x && has_none l.wire_b.chars then turned_round (first_fires (turned_round l)) else l)
    ≡ At (turned_round (if has_none l.wire_b.chars && x then first_fires
    (turned_round l) else turned_round l))) [
      | true ↦ elim (has_none l.wire_b.chars) as (λ y. At
          (if true && y then turned_round (first_fires (turned_round l)) else l)
          ≡ At (turned_round (if y && true then first_fires (turned_round l) else turned_round
          l))) [ true ↦ refl | false ↦ refl ]
      | false ↦
          elim (has_none l.wire_b.chars) as (λ y. At
          (if false && y then turned_round (first_fires (turned_round l)) else l)
          ≡ At (turned_round (if y && false then first_fires (turned_round l) else turned_round
          l))) [ true ↦ refl | false ↦ refl ]
    ]

pub silent_round : (l : LinkState) → is_silent l ≡ is_silent (turned_round l)
silent_round l =
    elim (has_none l.wire_a.chars) as (λ x. (x && has_none l.wire_b.chars)
    ≡ (has_none l.wire_b.chars && x)) [
      | true ↦ elim (has_none l.wire_b.chars) as (λ y. (true && y) ≡ (y && true)) [
        | true ↦
            refl
        | false ↦ refl
      ]
      | false ↦
          elim (has_none l.wire_b.chars) as (λ y. (false && y) ≡ (y && false)) [
            | true ↦
                refl
            | false ↦ refl
          ]
    ]

fired_lines : (a b : PortRef) (x : Bool)
    → lines_of a b (if x then Notes.Fire B ∷ [] else [])
    ≡ lines_of b a (if x then Notes.Fire A ∷ [] else [])
fired_lines a b true = refl
fired_lines a b false = refl

pub fired_round : (a b : PortRef) (l : LinkState)
    → lines_of a b (time_out_notes B l) ≡ lines_of b a (time_out_notes A (turned_round l))
fired_round a b l =
    fired_lines a b (is_silent l)
    ∙ ap (λ x. lines_of b a (if x then Notes.Fire A ∷ [] else [])) (silent_round l)

pub act_reaches : (s : Seen) (a b : PortRef) (act : Act) → IsGood s → s.undetected ≡ None
    → ArePeers s.network.links a b
    → Reaches s a b (lines_of a b (act_notes act (link_at s a b))) (after_act act (link_at s a b))
act_reaches s a b (PumpAct A n) good none peers = pump_reaches s a b n good none peers
act_reaches s a b (PumpAct B n) good none peers =
    reaches_round s a b _ _ _ _ (sent_round a b (bursts n (link_at s b a).a).chars) refl
    (pump_reaches s b a n good none (peers_round peers))
act_reaches s a b (TellAct A) good none peers = tell_reaches s a b good none peers
act_reaches s a b (TellAct B) good none peers =
    reaches_round s a b _ _ _ _ (sent_round a b (tell_sends (link_at s b a).a).chars) refl
    (tell_reaches s b a good none (peers_round peers))
act_reaches s a b (DeliverAct A n) good none peers = deliver_reaches s a b n good none peers
act_reaches s a b (DeliverAct B n) good none peers =
    reaches_round s a b _ _ _ _ (delivery_round a b n (link_at s a b))
    (deliver_round n (link_at s a b)) (deliver_reaches s b a n good none (peers_round peers))
act_reaches s a b (Fire A) good none peers = fire_reaches s a b good none peers
act_reaches s a b (Fire B) good none peers =
    reaches_round s a b _ _ _ _ (fired_round a b (link_at s a b)) (fire_round (link_at s a b))
    (fire_reaches s b a good none (peers_round peers))

found_notes : (side : Side) (e : Event) (acts : List Act) → acts_notes (FoundAt side e) acts ≡ []
unfolding acts_notes
found_notes side e [] = refl
found_notes side e (act ∷ acts) = refl

none_notes : (reached : Reached) → acts_notes reached [] ≡ []
unfolding acts_notes
none_notes reached = refl

more_notes : (l : LinkState) (act : Act) (acts : List Act)
    → acts_notes (At l) (act ∷ acts) ≡ act_notes act l ++ acts_notes (after_act act l) acts
unfolding acts_notes
more_notes l act acts = refl

more_goes : (l : LinkState) (act : Act) (acts : List Act)
    → goes (At l) (act ∷ acts) ≡ goes (after_act act l) acts
unfolding goes
more_goes l act acts = refl

-- what leads to a link, and then what is done from there
reaches_more : (s : Seen) (a b : PortRef) (first : List TraceLine) (to : Reached) (acts : List Act)
    → Reaches s a b first to
    → ((m : LinkState) → (seen s first).undetected ≡ None → link_at (seen s first) a b ≡ m
    → Reaches (seen s first) a b (lines_of a b (acts_notes (At m) acts)) (goes (At m) acts))
    → Reaches s a b (first ++ lines_of a b (acts_notes to acts)) (goes to acts)
reaches_more s a b first (At m) acts one more =
    let t = one.there m refl in
    let rest = more m t.0 t.1 in
    let all = lines_of a b (acts_notes (At m) acts) in
    let joined = seen-append s first all in
    record {
      made = made-append one.made rest.made;
      others = subst (λ (x : Seen). AreOthers s x a b) (sym joined)
          (others_on one.others rest.others);
      there = λ n is. (
        ap (λ (x : Seen). x.undetected) joined ∙ (rest.there n is).0,
        ap (λ (x : Seen). link_at x a b) joined ∙ (rest.there n is).1,
      );
      found = λ side e is. ap (λ (x : Seen). x.undetected) joined ∙ rest.found side e is;
    }
reaches_more s a b first (FoundAt side e) acts one more =
    let none : first ++ lines_of a b (acts_notes (FoundAt side e) acts) ≡ first =
    ap (λ (l : List Note). first ++ lines_of a b l) (found_notes side e acts) ∙ append-nil first in
    reaches_by s a b first _ (FoundAt side e) _ none (goes_found side e acts) one

-- whatever is done on a link is made of parts
pub acts_reach : (acts : List Act) (s : Seen) (a b : PortRef) → IsGood s → s.undetected ≡ None
    → ArePeers s.network.links a b
    → Reaches s a b (lines_of a b (acts_notes (At (link_at s a b)) acts))
    (goes (At (link_at s a b)) acts)
acts_reach [] s a b good none peers =
    let lines : lines_of a b (acts_notes (At (link_at s a b)) []) ≡ [] =
    ap (lines_of a b) (none_notes (At (link_at s a b))) in
    let to = goes_none (At (link_at s a b)) in
    record {
      made = Done lines;
      others = subst (λ (l : List TraceLine). AreOthers s (seen s l) a b) (sym lines)
          (others_here s a b);
      there = λ m is. (
        ap (λ (l : List TraceLine). (seen s l).undetected) lines ∙ none,
        ap (λ (l : List TraceLine). link_at (seen s l) a b) lines
            ∙ at_is (link_at s a b) m (sym to ∙ is),
      );
      found = λ side e is. absurd (cc (to, is));
    }
acts_reach (act ∷ acts) s a b good none peers =
    let l = link_at s a b in
    let one = act_reaches s a b act good none peers in
    let kept = made_keeps good one.made in
    let links = legal_links s.network _ _ kept.legal in
    let t = seen s (lines_of a b (act_notes act l)) in
    let there = subst (λ (x : List (PortRef × PortRef)). ArePeers x a b) (sym links) peers in
    reaches_by s a b _ _ _ _
    (ap (lines_of a b) (more_notes l act acts)
    ∙ lines-append a b (act_notes act l) (acts_notes (after_act act l) acts)) (more_goes l act acts)
    (reaches_more s a b (lines_of a b (act_notes act l)) (after_act act l) acts one
    (λ m still is. subst (λ (x : LinkState). Reaches t a b (lines_of a b (acts_notes (At x) acts))
    (goes (At x) acts)) is (acts_reach acts t a b kept.good still there)))
