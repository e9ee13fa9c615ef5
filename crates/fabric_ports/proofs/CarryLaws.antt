-- What is done at a link in a round of an ask: turns, edits, and all of it.
use Rattle.std.proofs.Common.{◌≡◌, List, [], ◌++◌, map, Option, Some, None, refl, sym, ap, ◌∙◌, subst, append_assoc}
use Rattle.rio_chars.specs.declared.edit.Edit.{Edit}
use Rattle.fabric_script.specs.declared.ports.PortRef.{PortRef}
use Rattle.fabric_model.specs.Network.{link_in}
use Rattle.fabric_model.proofs.Peers.{ArePeers, link_peers}
use Rattle.fabric_trace.proofs.Shown.Wiring.{seen_links}
use Rattle.fabric_trace.specs.Fold.{seen}
use Rattle.fabric_trace.specs.Known.{UndetectedAt, Seen}
use Rattle.trace_lines.specs.Lines.{TraceLine}
use Rattle.fabric_trace.specs.Parts.{Made}
use Rattle.fabric_trace.specs.Ready.{IsReady}
use Rattle.fabric_trace.specs.Rounds.{Follows, NamesNothing}
use Rattle.fabric_trace.proofs.Traces.Existing.{settle_exists}
use Rattle.fabric_trace.proofs.Parts.Folding.{seen-append}
use Rattle.fabric_trace.proofs.Parts.Keeping.{IsGood, made_keeps}
use Rattle.fabric_trace.proofs.Parts.Making.{made-append, made_by}
use Rattle.fabric_trace.proofs.Network.Walks.{peers_round}
use Rattle.fabric_ask.specs.Noise.{stirred}
use Rattle.fabric_ask.proofs.Carrying.{KeepsOn, turn_goes, stirred_goes}
use Rattle.fabric_ports.specs.Carrying.{WithLeft, Turns, BothTurn, Stirs, BothStir, LinkCarries}
use Rattle.fabric_ports.specs.Ran.{Kind}
use Rattle.fabric_ports.specs.Showing.{ends_of}
use Rattle.fabric_ports.specs.Standing.{Stands}
use Rattle.fabric_ports.specs.declared.fabric.Fabric.{Fabric}
use Rattle.fabric_ports.proofs.EndLaws.{links_stand}
use Rattle.fabric_ports.proofs.RanLaws.{Both, GoesOn, IsMade}
use Rattle.fabric_ports.proofs.SettlingLaws.{Settles, good_behind}

-- ---- a link at which something may be done

-- every event that was acted on was sent, and these are the two ends of a link
pub record IsOpen (s : Seen) (p q : PortRef) : Type 0 where
  pub good : IsGood s
  pub still : s.undetected ≡ None
  pub peers : ArePeers s.network.links p q

-- these are the ends of a link behind lines for which a fabric stands
pub open_behind : {from : Seen} {lines : List TraceLine} (ends : PortRef × PortRef) → IsReady from
    → link_in from.network.links ends.0 ≡ Some ends → Made from lines
    → (seen from lines).undetected ≡ None → IsOpen (seen from lines) ends.0 ends.1
open_behind {from} {lines} ends ready found made sent =
    let good = good_behind ready made in
    record {
      good = good;
      still = sent;
      peers = link_peers (seen from lines).network.links ends.0 ends good.proper
          (ap (λ l. link_in l ends.0) (seen_links from lines) ∙ found);
    }

pub found_from : {from : Seen} {lines : List TraceLine} {fabric : Fabric} (ends : PortRef × PortRef)
    → Stands from lines fabric → link_in (map ends_of fabric.cables.items) ends.0 ≡ Some ends
    → link_in from.network.links ends.0 ≡ Some ends
found_from ends stands found = ap (λ l. link_in l ends.0) (sym (links_stand stands)) ∙ found

pub open_round : {s : Seen} {p q : PortRef} → IsOpen s p q → IsOpen s q p
open_round is_open = record {
  good = is_open.good;
  still = is_open.still;
  peers = peers_round is_open.peers;
}

-- lines of a link are made of parts, and every event that was acted on was sent
pub record IsFair (s : Seen) (lines : List TraceLine) : Type 0 where
  pub made : Made s lines
  pub sent : (seen s lines).undetected ≡ None

open_on : {s : Seen} {p q : PortRef} {lines : List TraceLine} → IsOpen s p q → IsFair s lines
    → IsOpen (seen s lines) p q
open_on {s} {p} {q} {lines} is_open fair = record {
  good = (made_keeps is_open.good fair.made).good;
  still = fair.sent;
  peers = subst (λ l. ArePeers l p q) (sym (seen_links s lines)) is_open.peers;
}

fair_by : {s : Seen} {p q : PortRef} {lines : List TraceLine} → KeepsOn s p q lines
    → IsFair s lines
fair_by keeps = record { made = keeps.local.made; sent = keeps.still }

pub turns_fair : {s : Seen} {p q : PortRef} {lines : List TraceLine} → IsOpen s p q
    → Turns p q s lines → IsFair s lines
turns_fair {s} {p} {q} {lines} is_open is =
    subst (IsFair s) (sym is) (fair_by (turn_goes s p q is_open.good is_open.still is_open.peers))

stirs_fair : {s : Seen} {p q : PortRef} {lines : List TraceLine} (noise left : List Edit)
    → IsOpen s p q → Stirs p noise left s lines → IsFair s lines
stirs_fair {s} {p} {q} {lines} noise left is_open is =
    subst (λ (x : List TraceLine × List Edit). IsFair s x.0) (sym is)
    (fair_by (stirred_goes s p q noise (s.wires p).chars is_open.good is_open.still is_open.peers))

-- ---- lines of which the first leave every event sent

record IsSplit (P Q : Kind) (s : Seen) (lines : List TraceLine) : Type 0 where
  first : List TraceLine
  rest : List TraceLine
  whole : lines ≡ first ++ rest
  own : P s first
  more : Q (seen s first) rest

follows_more : (found : Option UndetectedAt) (More : List TraceLine → Type 0)
    (rest : List TraceLine)
    → found ≡ None → Follows found More NamesNothing rest → More rest
follows_more found More rest still follows =
    subst (λ f. Follows f More NamesNothing rest) still follows

split : (P Q : Kind) (s : Seen) (lines : List TraceLine)
    → ((first : List TraceLine) → P s first → IsFair s first) → Both P Q s lines
    → IsSplit P Q s lines
split P Q s lines fair both = record {
  first = both.0;
  rest = both.1;
  whole = both.2;
  own = both.3;
  more = follows_more (seen s both.0).undetected (Q (seen s both.0)) both.1
      (fair both.0 both.3).sent both.4;
}

fair_both : (P Q : Kind) (s : Seen) (lines : List TraceLine)
    → ((first : List TraceLine) → P s first → IsFair s first)
    → ((first rest : List TraceLine) → IsFair s first → Q (seen s first) rest
    → IsFair (seen s first) rest)
    → Both P Q s lines → IsFair s lines
fair_both P Q s lines fair later both =
    let parts = split P Q s lines fair both in
    let own = fair parts.first parts.own in
    let more = later parts.first parts.rest own parts.more in
    record {
      made = made_by parts.whole (made-append own.made more.made);
      sent = ap (λ l. (seen s l).undetected) parts.whole
          ∙ ap (λ (t : Seen). t.undetected) (seen-append s parts.first parts.rest) ∙ more.sent;
    }

both_turn_fair : {s : Seen} {lines : List TraceLine} (ends : PortRef × PortRef)
    → IsOpen s ends.0 ends.1 → BothTurn ends s lines → IsFair s lines
both_turn_fair {s} {lines} ends is_open both =
    fair_both (Turns ends.0 ends.1) (Turns ends.1 ends.0) s lines
    (λ first own. turns_fair is_open own)
    (λ first rest fair own. turns_fair (open_round (open_on is_open fair)) own) both

both_stir_fair : {s : Seen} {lines : List TraceLine} (ends : PortRef × PortRef)
    (noise left : List Edit) → IsOpen s ends.0 ends.1 → BothStir ends noise left s lines
    → IsFair s lines
both_stir_fair {s} {lines} ends noise left is_open both =
    fair_both (Stirs ends.0 noise both.0) (Stirs ends.1 both.0 left) s lines
    (λ first own. stirs_fair noise both.0 is_open own)
    (λ first rest fair own. stirs_fair both.0 left (open_round (open_on is_open fair)) own) both.1

-- all that a link does in a round, one behind the other
pub carry_is : (ends : PortRef × PortRef) (noise left : List Edit) {s : Seen}
    (lines : List TraceLine) → IsOpen s ends.0 ends.1
    → Both (BothTurn ends) (Both (BothStir ends noise left) (Settles ends)) s lines
    → LinkCarries ends noise left s lines
carry_is ends noise left {s = s} lines is_open both =
    let a = ends.0 in
    let b = ends.1 in
    let one = split (BothTurn ends) (Both (BothStir ends noise left) (Settles ends)) s lines
    (λ first own. both_turn_fair ends is_open own) both in
    let turns = split (Turns a b) (Turns b a) s one.first (λ first own. turns_fair is_open own)
    one.own in
    let t = seen s one.first in
    let later_open : IsOpen t a b = open_on is_open (both_turn_fair ends is_open one.own) in
    let two = split (BothStir ends noise left) (Settles ends) t one.rest
    (λ first own. both_stir_fair ends noise left later_open own) one.more in
    let mid = two.own.0 in
    let stirs = split (Stirs a noise mid) (Stirs b mid left) t two.first
    (λ first own. stirs_fair noise mid later_open own) two.own.1 in
    let behind : t ≡ seen (seen s turns.first) turns.rest =
    ap (seen s) turns.whole ∙ seen-append s turns.first turns.rest in
    let later : seen t two.first ≡ seen (seen t stirs.first) stirs.rest =
    ap (seen t) stirs.whole ∙ seen-append t stirs.first stirs.rest in
    record {
      one = turns.first;
      two = turns.rest;
      first = (stirs.first, mid);
      second = (stirs.rest, left);
      block = two.rest;
      one_is = turns.own;
      two_is = turns.more;
      first_is = subst (λ (u : Seen). (stirs.first, mid) ≡ stirred noise a (u.wires a).chars)
          behind stirs.own;
      second_is = subst (λ (u : Seen). (stirs.rest, left)
          ≡ stirred mid b ((seen u stirs.first).wires b).chars) behind stirs.more;
      settles = subst (λ (u : Seen). Settles ends (seen (seen u stirs.first) stirs.rest) two.rest)
          behind (subst (λ (u : Seen). Settles ends u two.rest) later two.more);
      whole = one.whole ∙ ap (λ l. l ++ one.rest) turns.whole
          ∙ ap (λ l. (turns.first ++ turns.rest) ++ l)
          (two.whole ∙ ap (λ l. l ++ two.rest) stirs.whole)
          ∙ grouped turns.first turns.rest stirs.first stirs.rest two.rest;
      left_is = refl;
    }
  where
    grouped : (u v w x y : List TraceLine)
        → (u ++ v) ++ ((w ++ x) ++ y) ≡ u ++ v ++ w ++ x ++ y
    grouped u v w x y =
        sym (append_assoc (u ++ v) (w ++ x) y)
        ∙ ap (λ (l : List TraceLine). l ++ y) (sym (append_assoc (u ++ v) w x))

-- ---- what is left may be said before

follows_left : (found : Option UndetectedAt) (More : List Edit → List TraceLine → Type 0)
    (rest : List TraceLine)
    → Follows found (λ lines. (left : List Edit) × More left lines) NamesNothing rest
    → (left : List Edit) × Follows found (More left) NamesNothing rest
follows_left None More rest own = own
follows_left (Some found) More rest none = ([], none)

pub left_first : (P : Kind) (Q : List Edit → Kind) (s : Seen) (lines : List TraceLine)
    → Both P (WithLeft Q) s lines → (left : List Edit) × Both P (Q left) s lines
left_first P Q s lines both =
    let t = seen s both.0 in
    let own = follows_left t.undetected (λ left. Q left t) both.1 both.4 in
    (own.0, (both.0, both.1, both.2, both.3, own.1))

-- ---- lines that may stand behind

module _ {from : Seen} (ends : PortRef × PortRef) (ready : IsReady from)
    (found : link_in from.network.links ends.0 ≡ Some ends) where
  pub turns_made : IsMade from (Turns ends.0 ends.1)
  turns_made lines block made sent own =
      made-append made (turns_fair (open_behind ends ready found made sent) own).made

  pub both_turn_made : IsMade from (BothTurn ends)
  both_turn_made lines block made sent own =
      made-append made (both_turn_fair ends (open_behind ends ready found made sent) own).made

  pub stirs_made : (noise left : List Edit) → IsMade from (Stirs ends.0 noise left)
  stirs_made noise left lines block made sent own =
      made-append made
      (stirs_fair noise left (open_behind ends ready found made sent) own).made

  pub both_stir_made : (noise left : List Edit) → IsMade from (BothStir ends noise left)
  both_stir_made noise left lines block made sent own =
      made-append made
      (both_stir_fair ends noise left (open_behind ends ready found made sent)
      own).made

  pub settles_go_on : GoesOn from (Settles ends)
  settles_go_on lines made sent =
      let is_open = open_behind ends ready found made sent in
      let own = settle_exists (seen from lines) ends.0 ends.1 is_open.good is_open.still
      is_open.peers in
      (own.lines, own.is)

  -- both wires are stirred, and the link settles
  pub stirs_go_on : (noise : List Edit)
      → GoesOn from (WithLeft (λ left. Both (BothStir ends noise left) (Settles ends)))
  stirs_go_on noise lines made sent =
      let s = seen from lines in
      let is_open = open_behind ends ready found made sent in
      let first = stirred noise ends.0 (s.wires ends.0).chars in
      let t = seen s first.0 in
      let fair : IsFair s first.0 = stirs_fair noise first.1 is_open refl in
      let second = stirred first.1 ends.1 (t.wires ends.1).chars in
      let own : BothStir ends noise second.1 s (first.0 ++ second.0) = (
        first.1,
        (
          first.0,
          second.0,
          refl,
          refl,
          subst (λ f. Follows f (Stirs ends.1 first.1 second.1 t) NamesNothing second.0)
              (sym fair.sent) refl,
        ),
      ) in
      let both = first.0 ++ second.0 in
      let all : IsFair s both =
      both_stir_fair ends noise second.1 is_open own in
      let last = open_on is_open all in
      let rest = settle_exists (seen s both) ends.0 ends.1 last.good last.still last.peers in (
        both ++ rest.lines,
        (
          second.1,
          (
            both,
            rest.lines,
            refl,
            own,
            subst (λ f. Follows f (Settles ends (seen s both)) NamesNothing rest.lines)
                (sym all.sent) rest.is,
          ),
        ),
      )
