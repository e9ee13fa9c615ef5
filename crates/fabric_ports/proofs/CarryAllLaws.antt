-- Links that carry what they can, one after another.
use Rattle.std.proofs.Common.{◌≡◌, ◌+◌, ℕ, true, List, [], ◌∷◌, ◌++◌, take, drop, Option, Some, None, refl, sym, ap, ◌∙◌, subst, Ok, Err}
use Rattle.trace_lines.specs.declared.writer.TraceWriter.{TraceWriter}
use Rattle.rio_chars.specs.declared.edit.Edit.{Edit}
use Rattle.link_law.specs.Resting.{has_no_work}
use Rattle.fabric_script.specs.declared.ports.PortRef.{PortRef}
use Rattle.fabric_model.specs.Network.{link_in}
use Rattle.fabric_model.proofs.Peers.{link_peers}
use Rattle.fabric_trace.proofs.Shown.Wiring.{seen_links}
use Rattle.fabric_trace.specs.Fold.{seen}
use Rattle.fabric_trace.specs.Known.{UndetectedAt, Seen, link_at}
use Rattle.trace_lines.specs.Lines.{TraceLine}
use Rattle.fabric_trace.specs.Parts.{Made, Done}
use Rattle.fabric_trace.specs.Ready.{IsReady}
use Rattle.fabric_trace.specs.Rounds.{Follows, NamesNothing}
use Rattle.fabric_trace.proofs.Parts.Keeping.{IsGood, made_keeps}
use Rattle.fabric_trace.proofs.Parts.Making.{made-append, made_by}
use Rattle.fabric_trace.proofs.Rounds.Blocks.{AreFound, all_found}
use Rattle.fabric_ask.specs.Asks.{CarryAll}
use Rattle.fabric_ask.proofs.Beginning.{carry_all_exist}
use Rattle.fabric_ask.proofs.Carrying.{has_carried}
use Rattle.fabric_ports.specs.Carrying.{AreLinked, WithLeft, LinkCarries, LinksCarry}
use Rattle.fabric_ports.specs.Ran.{Ran}
use Rattle.fabric_ports.specs.Standing.{Stands}
use Rattle.fabric_ports.specs.declared.answers.FabricEnd.{FabricEnd}
use Rattle.fabric_ports.specs.declared.fabric.Fabric.{Fabric}
use Rattle.fabric_ports.proofs.EndLaws.{links_stand}
use Rattle.fabric_ports.proofs.IdleLinks.{idle_carries}
use Rattle.fabric_ports.proofs.RanLaws.{Both, Nothing, both_as, both_nothing, nothing_both, both_assoc, GoesOn, IsMade, ran_nothing, ran_both, ran_as, ends_first}
use Rattle.fabric_ports.proofs.SettlingLaws.{good_behind, found_drop, IsNext}
use Rattle.fabric_ports.proofs.CarryLaws.{open_behind, left_first}
use Rattle.fabric_ports.proofs.CarriedLaws.{ran_left}

carry_append : (xs ys : List (PortRef × PortRef)) (noise middle left : List Edit) (s : Seen)
    (lines : List TraceLine) → s.undetected ≡ None
    → Both (CarryAll xs noise middle) (CarryAll ys middle left) s lines
    → CarryAll (xs ++ ys) noise left s lines
carry_append [] ys noise middle left s lines still both =
    let none = both.3 in
    let own : Both Nothing (CarryAll ys middle left) s lines =
    (both.0, both.1, both.2, none.0, both.4) in
    subst (λ (n : List Edit). CarryAll ys n left s lines) none.1
    (nothing_both (CarryAll ys middle left) s lines still own)
carry_append (x ∷ xs) ys noise middle left s lines still both =
    let first = both.3 in
    let next = first.0 in
    let own : Both (Both (LinkCarries x noise next) (CarryAll xs next middle))
    (CarryAll ys middle left)
    s lines = (both.0, both.1, both.2, first.1, both.4) in (
      next,
      both_as (LinkCarries x noise next) (Both (CarryAll xs next middle) (CarryAll ys middle left))
          (CarryAll (xs ++ ys) next left) s lines
          (λ t rest sent more. carry_append xs ys next middle left t rest sent more)
          (both_assoc (LinkCarries x noise next) (CarryAll xs next middle)
          (CarryAll ys middle left) s
          lines own),
    )

carry_one : (link : PortRef × PortRef) (noise left : List Edit) (s : Seen)
    (lines : List TraceLine) → LinkCarries link noise left s lines
    → CarryAll (link ∷ []) noise left s lines
carry_one link noise left s lines own = (
  left,
  both_as (LinkCarries link noise left) Nothing (CarryAll [] left left) s lines
      (λ t rest sent none. (none, refl)) (both_nothing (LinkCarries link noise left) s lines own),
)

-- ---- made of parts

carries_made : {from : Seen} (link : PortRef × PortRef) (noise left : List Edit) → IsReady from
    → link_in from.network.links link.0 ≡ Some link → IsMade from (LinkCarries link noise left)
carries_made {from} link noise left ready found lines block made sent own =
    let s = seen from lines in
    let is_open = open_behind link ready found made sent in
    made-append made
    (has_carried noise left s link.0 link.1 block is_open.good is_open.still is_open.peers
    own).local.made

all_made : (links all : List (PortRef × PortRef)) (noise left : List Edit) {s : Seen}
    (lines : List TraceLine) → IsGood s → s.undetected ≡ None → s.network.links ≡ all
    → AreFound all links → CarryAll links noise left s lines → Made s lines
all_made [] all noise left lines good still same found own = Done own.0
all_made (link ∷ links) all noise left {s = s} lines good still same found own =
    let both = own.1 in
    let peers = link_peers s.network.links link.0 link good.proper
    (ap (λ l. link_in l link.0) same ∙ found.0) in
    let first = (has_carried noise own.0 s link.0 link.1 both.0 good still peers both.3).local.made
    in
    let t = seen s both.0 in
    made_by both.2 (made-append first (by_found both.1 own.0 t.undetected refl both.4 first
    (λ rest g still2 same2 more. all_made links all own.0 left rest g still2 same2 found.1 more)))
  where
    by_found : {first : List TraceLine} (rest : List TraceLine) (next : List Edit)
        (o : Option UndetectedAt)
        → (seen s first).undetected ≡ o
        → Follows o (CarryAll links next left (seen s first)) NamesNothing rest → Made s first
        → ((lines : List TraceLine) → IsGood (seen s first) → (seen s first).undetected ≡ None
        → (seen s first).network.links ≡ all → CarryAll links next left (seen s first) lines
        → Made (seen s first) lines) → Made (seen s first) rest
    by_found {first = first} rest next None is more made again =
        again rest (made_keeps good made).good is (seen_links s first ∙ same) more
    by_found rest next (Some f) is none made again = Done none

pub links_carry_made : {from : Seen} (noise left : List Edit) → IsReady from
    → IsMade from (LinksCarry noise left)
links_carry_made {from} noise left ready lines block made sent own =
    let s = seen from lines in
    let good = good_behind ready made in
    made-append made (all_made s.network.links s.network.links noise left block good sent refl
    (all_found s.network.links good.proper) own)

-- ---- what was written

pub next_linked : {from : Seen} {lines : List TraceLine} {fabric : Fabric} {k : ℕ}
    {link : PortRef × PortRef} → Stands from lines fabric → IsNext from k link
    → AreLinked fabric link
next_linked {from} {lines} {fabric} {k} {link} stands next = record {
  from = from;
  lines = lines;
  stands = stands;
  found = ap (λ l. link_in l link.0) (links_stand stands) ∙ next.found;
}

module _ {K : Type 0} where
  pub carry_begins : (a : TraceWriter K) {from : Seen} {lines : List TraceLine} {fabric : Fabric}
      (noise : List Edit) → Stands from lines fabric
      → Ran (CarryAll [] noise noise) a a from lines (Ok fabric)
  carry_begins a noise stands =
      ran_as (λ block none. (none, refl)) (ran_nothing a stands)

  -- one link more has carried what it can
  pub carried_more : {a b c : TraceWriter K} {from : Seen} {lines : List TraceLine}
      {old mid new : Fabric} {k : ℕ} {link : PortRef × PortRef} (noise middle left : List Edit)
      → Stands from lines old → IsNext from k link
      → (first : Ran (CarryAll (take k from.network.links) noise middle) a b from lines (Ok mid))
      → Ran (LinkCarries link middle left) b c from (lines ++ first.block) (Ok new)
      → Ran (CarryAll (take (k + 1) from.network.links) noise left) a c from lines (Ok new)
  carried_more {from = from} {lines = lines} {k = k} {link = link} noise middle left stands next
      first own =
      let links = from.network.links in
      ran_as (λ block both. subst (λ (l : List (PortRef × PortRef)). CarryAll l noise left
      (seen from lines) block) (sym next.more)
      (carry_append (take k links) (link ∷ []) noise middle left (seen from lines) block
      stands.sent both)) (ran_both {Q = CarryAll (link ∷ []) middle left} first (ran_as
      (λ block carries. carry_one link middle left (seen from (lines ++ first.block)) block carries)
      own))

  -- one that has nothing to do carries nothing
  pub carried_idle : {a b : TraceWriter K} {from : Seen} {lines : List TraceLine}
      {old mid : Fabric} {k : ℕ} {link : PortRef × PortRef} (noise middle : List Edit)
      → Stands from lines old → IsNext from k link
      → (first : Ran (CarryAll (take k from.network.links) noise middle) a b from lines (Ok mid))
      → has_no_work (link_at (seen from (lines ++ first.block)) link.0 link.1) ≡ true
      → Ran (CarryAll (take (k + 1) from.network.links) noise middle) a b from lines (Ok mid)
  carried_idle {b = b} {from = from} {lines = lines} {link = link} noise middle stands next first
      idle =
      let s = seen from (lines ++ first.block) in
      carried_more noise middle middle stands next first (ran_as
      (λ block none. subst (LinkCarries link middle middle s) (sym none)
      (idle_carries middle s link.0 link.1 idle)) (ran_nothing b first.ends.1))

  -- a link did not come to its end
  pub carried_short : {a b c : TraceWriter K} {from : Seen} {lines : List TraceLine}
      {old mid : Fabric} {k : ℕ} {link : PortRef × PortRef} (noise middle : List Edit)
      {end : FabricEnd} → Stands from lines old → IsNext from k link
      → (first : Ran (CarryAll (take k from.network.links) noise middle) a b from lines (Ok mid))
      → Ran (WithLeft (LinkCarries link middle)) b c from (lines ++ first.block) (Err end)
      → Ran (WithLeft (LinksCarry noise)) a c from lines (Err end)
  carried_short {b = b} {c = c} {from = from} {lines = lines} {k = k} {link = link} noise middle
      {end = end} stands next first ended =
      let links = from.network.links in
      let rest = drop (k + 1) links in
      let own = ran_left ended in
      let on : GoesOn from (WithLeft (CarryAll rest own.0)) =
      λ more made sent. (let exist = carry_all_exist rest links own.0 (seen from more)
      (good_behind stands.ready made) sent (seen_links from more)
      (found_drop links links (k + 1) (all_found links stands.ready.proper)) in
      (exist.exists.lines, (exist.left, exist.exists.is))) in
      let inner = ends_first (WithLeft (CarryAll rest own.0)) end
      (carries_made link middle own.0 stands.ready next.found) on first.ends.1 own.1 in
      ran_as (λ block both. (let all = both_left own.0 (seen from lines) block both in (
        all.0,
        subst (λ (l : List (PortRef × PortRef)). CarryAll l noise all.0 (seen from lines)
            block) (next.whole ∙ sym (seen_links from lines))
            (carry_append (take k links) (link ∷ rest) noise middle all.0 (seen from lines) block
            stands.sent all.1),
      ))) (ran_both first inner)
    where
      both_left : (next : List Edit) (s : Seen) (block : List TraceLine)
          → Both (CarryAll (take k from.network.links) noise middle)
          (Both (LinkCarries link middle next)
          (WithLeft (CarryAll (drop (k + 1) from.network.links) next))) s block
          → (left : List Edit) × Both (CarryAll (take k from.network.links) noise middle)
          (CarryAll (link ∷ drop (k + 1) from.network.links) middle left) s block
      both_left next s block both =
          let rest = drop (k + 1) from.network.links in
          left_first (CarryAll (take k from.network.links) noise middle)
          (CarryAll (link ∷ rest) middle) s block
          (both_as (CarryAll (take k from.network.links) noise middle)
          (Both (LinkCarries link middle next) (WithLeft (CarryAll rest next)))
          (WithLeft (CarryAll (link ∷ rest) middle)) s block
          (λ t lines sent more. (let own = left_first (LinkCarries link middle next)
          (CarryAll rest next) t lines more in (own.0, (next, own.1)))) both)

  -- all links have carried what they can
  pub carried_all : {a b : TraceWriter K} {from : Seen} {lines : List TraceLine} {new : Fabric}
      (links : List (PortRef × PortRef)) (noise left : List Edit) → links ≡ from.network.links
      → Ran (CarryAll links noise left) a b from lines (Ok new)
      → Ran (LinksCarry noise left) a b from lines (Ok new)
  carried_all {from = from} {lines = lines} links noise left same ran =
      ran_as (λ block own. subst (λ (l : List (PortRef × PortRef)). CarryAll l noise left
      (seen from lines) block) (same ∙ sym (seen_links from lines)) own) ran
