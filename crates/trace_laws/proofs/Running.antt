-- What a trace does at a link is a run of that link.
use Rattle.trace_laws.proofs.Prelude.{◌≡◌, ℕ, true, false, List, Option, Some, None, refl, sym, ap, ◌∙◌, subst, Event, A, undetected, has_chars, pump_notes, tell_notes, delivery_notes, delivery_from, is_silent, time_out_notes, RunRests, RunPumps, RunTells, RunDelivers, RunTimesOut, PortRef, same_port, peer_in, TraceLine, lines_of, Seen, peer_of, link_at, edit_of, undetected_at, seen, Part, PartBegins, PartLacks, PartEnds, PartNames, PartSteps, PartServes, PartTurns, PartTells, PartDelivers, PartFires, Made, Done, Then, begins, turns_call, tells_call, fires_call, seen-append, edited_found, IsGood, good_peers, part_keeps, made_keeps, good_start, seen_links, RunsBetween, LinksOfTracesRun}
use Rattle.fabric_trace.proofs.Links.Delivering.{delivers_call}
use Rattle.trace_laws.proofs.Called.{call_runs, edits_run}
use Rattle.trace_laws.proofs.Served.{run_join, run_to, node_runs, device_runs}

-- ---- what was found stays found

pub none_before : {s : Seen} {lines : List TraceLine} → Part s lines
    → (seen s lines).undetected ≡ None → s.undetected ≡ None
none_before {s} (PartBegins line is) none =
    sym (edited_found s (edit_of line))
    ∙ subst (λ l. (seen s l).undetected ≡ None) is none
none_before {s} (PartLacks lack is) none = subst (λ l. (seen s l).undetected ≡ None) is none
none_before {s} (PartEnds is) none = subst (λ l. (seen s l).undetected ≡ None) is none
none_before {s} (PartNames number q e found is) none =
    subst (λ l. (seen s l).undetected ≡ None) is none
none_before {s} (PartSteps step needs few is) none =
    subst (λ l. (seen s l).undetected ≡ None) is none
none_before {s} (PartServes step needs is) none = subst (λ l. (seen s l).undetected ≡ None) is none
none_before (PartTurns p q n peer none is) after = none
none_before (PartTells p q peer none is) after = none
none_before (PartDelivers p q n peer none has is) after = none
none_before (PartFires p q peer none silent is) after = none

pub none_first : {s : Seen} {lines : List TraceLine} → Made s lines
    → (seen s lines).undetected ≡ None → s.undetected ≡ None
none_first {s} (Done is) none = subst (λ l. (seen s l).undetected ≡ None) is none
none_first {s} (Then first rest is own more) none =
    none_before own (none_first more (ap (λ (t : Seen). t.undetected)
    (sym (seen-append s first rest))
    ∙ subst (λ l. (seen s l).undetected ≡ None) is none))

-- ---- one part

-- nothing was found in a delivery by which nothing is known to have been found
pub all_sent : (q : PortRef) (found : Option Event) → undetected_at q found ≡ None → found ≡ None
all_sent q None is = refl
all_sent q (Some e) is = absurd cc

module _ (s : Seen) (good : IsGood s) (a b : PortRef) (peer : peer_of s a ≡ Some b) where
  abbrev Goes : List TraceLine → Type 0
  Goes lines = (seen s lines).undetected ≡ None → RunsBetween s (seen s lines) a b

  turns_run : (p q : PortRef) (n : ℕ) → peer_of s p ≡ Some q → s.undetected ≡ None
      → Goes (lines_of p q (pump_notes A n (link_at s p q)))
  turns_run p q n own none after =
      let peers = good_peers p q good own in
      call_runs s _ good p q peers _ _ _ (turns_call s p q n peers (good.links none p q own)) after
      (_, RunPumps A n RunRests) a b peer

  tells_run : (p q : PortRef) → peer_of s p ≡ Some q → s.undetected ≡ None
      → Goes (lines_of p q (tell_notes A (link_at s p q)))
  tells_run p q own none after =
      let peers = good_peers p q good own in
      call_runs s _ good p q peers _ _ _ (tells_call s p q peers (good.links none p q own)) after
      (_, RunTells A RunRests) a b peer

  fires_run : (p q : PortRef) → peer_of s p ≡ Some q → s.undetected ≡ None
      → is_silent (link_at s p q) ≡ true → Goes (lines_of p q (time_out_notes A (link_at s p q)))
  fires_run p q own none silent after =
      let peers = good_peers p q good own in
      call_runs s _ good p q peers _ _ _
      (fires_call s p q peers (good.links none p q own) silent) after
      (_, RunTimesOut A RunRests) a b peer

  delivers_run : (p q : PortRef) (n : ℕ) → peer_of s p ≡ Some q → s.undetected ≡ None
      → has_chars A n (link_at s p q) ≡ true
      → Goes (lines_of p q (delivery_notes A n (link_at s p q)))
  delivers_run p q n own none has after =
      let peers = good_peers p q good own in
      let call = delivers_call s p q n peers (good.links none p q own) has in
      let sent = all_sent q (undetected (delivery_from A n (link_at s p q)))
      (sym call.undetected ∙ after) in
      call_runs s _ good p q peers _ _ _ call after (_, RunDelivers A n sent RunRests) a b peer

  apart : same_port a b ≡ false
  apart = (good_peers a b good peer).apart

  pub part_runs : {lines : List TraceLine} → Part s lines → Goes lines
  part_runs (PartBegins line is) =
      subst Goes (sym is) (λ after. edits_run s (edit_of line) a b apart)
  part_runs (PartLacks lack is) = subst Goes (sym is) (λ after. run_to refl RunRests)
  part_runs (PartEnds is) = subst Goes (sym is) (λ after. run_to refl RunRests)
  part_runs (PartNames number q e found is) = subst Goes (sym is) (λ after. run_to refl RunRests)
  part_runs (PartSteps step needs few is) =
      subst Goes (sym is) (λ after. node_runs s good after a b peer apart step needs few)
  part_runs (PartServes step needs is) =
      subst Goes (sym is) (λ after. device_runs s good after a b peer apart step needs)
  part_runs (PartTurns p q n own none is) = subst Goes (sym is) (turns_run p q n own none)
  part_runs (PartTells p q own none is) = subst Goes (sym is) (tells_run p q own none)
  part_runs (PartDelivers p q n own none has is) =
      subst Goes (sym is) (delivers_run p q n own none has)
  part_runs (PartFires p q own none silent is) = subst Goes (sym is) (fires_run p q own none silent)

-- ---- all parts

pub made_runs : {s : Seen} {lines : List TraceLine} (a b : PortRef) → IsGood s → Made s lines
    → peer_of s a ≡ Some b → (seen s lines).undetected ≡ None
    → RunsBetween s (seen s lines) a b
made_runs {s} a b good (Done is) peer none =
    subst (λ l. RunsBetween s (seen s l) a b) (sym is) (run_to refl RunRests)
made_runs {s} a b good (Then first rest is own more) peer none =
    let join = seen-append s first rest in
    let last : (seen (seen s first) rest).undetected ≡ None =
    ap (λ (t : Seen). t.undetected) (sym join)
    ∙ subst (λ l. (seen s l).undetected ≡ None) is none in
    let one = part_runs s good a b peer own (none_first more last) in
    let links = ap (λ l. peer_in l a) (seen_links s first) in
    let two = made_runs a b (part_keeps good own).good more (links ∙ peer) last in
    subst (λ l. RunsBetween s (seen s l) a b) (sym is)
    (subst (λ t. RunsBetween s t a b) (sym join) (run_join one.1 two))

pub links_run : LinksOfTracesRun
links_run net front rest a b is made more peer none =
    let s = begins net in
    let join = seen-append s front rest in
    let links = ap (λ l. peer_in l a) (seen_links s front) in
    subst (λ t. RunsBetween (seen s front) t a b) (sym join)
    (made_runs a b (made_keeps (good_start net is) made).good more (links ∙ peer)
    (ap (λ (t : Seen). t.undetected) (sym join) ∙ none))
