-- What stays of a fabric, and links that settle one after another.
use Rattle.fabric_trace.proofs.Shown.Wiring.{seen_links}
use Rattle.fabric_trace.specs.Known.{Seen, link_at}
use Rattle.link_law.specs.Resting.{has_no_work}
use Rattle.std.proofs.Common.{◌≡◌, ℕ, zero, suc, ◌+◌, ◌<◌, ◌≤◌, true, List, [], ◌∷◌, ◌++◌, length, map, take, drop, get_or, slice_get, Option, Some, None, IsSome, option_map, refl, sym, ap, ◌∙◌, subst, arith, vec_len, Ok, Err, Result}
use Rattle.std.proofs.lemmas.List.{length-map, take_all, take-append-drop, take_more, drop_more}
use Rattle.std.proofs.lemmas.Option.{slice_get-map, slice_get-get_or}
use Rattle.trace_lines.specs.declared.writer.TraceWriter.{TraceWriter}
use Rattle.maint_registers.specs.Devices.{Registers, is_switch}
use Rattle.fabric_script.specs.declared.lines.Line.TheVariants.{Settle}
use Rattle.fabric_script.specs.declared.ports.PortRef.{PortRef}
use Rattle.fabric_model.specs.Network.{link_in}
use Rattle.fabric_model.proofs.Peers.{link_peers}
use Rattle.fabric_trace.specs.Blocks.{IsSettle, WithLink}
use Rattle.fabric_trace.specs.Fold.{seen}
use Rattle.trace_lines.specs.Lines.{TraceLine}
use Rattle.fabric_trace.specs.Parts.{Made}
use Rattle.fabric_trace.specs.Ready.{IsReady}
use Rattle.fabric_trace.specs.Rounds.{SettleAll}
use Rattle.fabric_trace.proofs.Network.Boards.{seen_board}
use Rattle.fabric_trace.proofs.Traces.Existing.{good_of, settles_from}
use Rattle.fabric_trace.proofs.Parts.Keeping.{IsGood, made_keeps}
use Rattle.fabric_trace.proofs.Parts.Making.{made-append}
use Rattle.fabric_trace.proofs.Rounds.Blocks.{AreFound, all_found}
use Rattle.fabric_trace.proofs.Rounds.Running.{link_made}
use Rattle.fabric_ports.specs.Ends.{PortIsLinked}
use Rattle.fabric_ports.specs.Places.{IsSwitchAt}
use Rattle.fabric_ports.specs.Ran.{Kind, Blocks, Ran, LinksSettle}
use Rattle.fabric_ports.specs.Showing.{ends_of}
use Rattle.fabric_ports.specs.Standing.{Stands}
use Rattle.fabric_ports.specs.declared.answers.FabricEnd.{FabricEnd}
use Rattle.fabric_ports.specs.declared.fabric.Cable.{Cable}
use Rattle.fabric_ports.specs.declared.fabric.Fabric.{Fabric}
use Rattle.fabric_ports.proofs.EndLaws.{links_stand}
use Rattle.fabric_ports.proofs.EventLaws.{switch_of}
use Rattle.fabric_ports.proofs.IdleLinks.{idle_block}
use Rattle.fabric_ports.proofs.RanLaws.{Both, ran_nothing, both_as, both_nothing, nothing_both, both_assoc, GoesOn, IsMade, ran_both, ran_as, ends_first}

-- ---- what stays of a fabric

pub good_behind : {from : Seen} {lines : List TraceLine} → IsReady from → Made from lines
    → IsGood (seen from lines)
good_behind {from} ready made = (made_keeps (good_of ready) made).good

pub devices_stay : {from : Seen} {lines more : List TraceLine} {old new : Fabric}
    → Stands from lines old → Stands from more new
    → length new.devices.items ≡ length old.devices.items
devices_stay {from} {lines} {more} {old} {new} before after =
    let first = ap (λ (l : List Registers). length l) before.shows.registers in
    let last = ap (λ (l : List Registers). length l) after.shows.registers in
    sym last ∙ (seen_board more from).count ∙ sym (seen_board lines from).count
    ∙ first

pub cables_stay : {from : Seen} {lines more : List TraceLine} {old new : Fabric}
    → Stands from lines old → Stands from more new
    → length new.cables.items ≡ length old.cables.items
cables_stay {from} {lines} {more} {old} {new} before after =
    sym (length-map new.cables.items ends_of)
    ∙ ap (λ (l : List (PortRef × PortRef)). length l) (links_stand after ∙ sym (links_stand before))
    ∙ length-map old.cables.items ends_of

-- what stands at a place before the end did so before, and does now
pub devices_within : {from : Seen} {lines more : List TraceLine} {old new : Fabric} (k : ℕ)
    → Stands from lines old → Stands from more new → k < vec_len old.devices
    → k < length new.devices.items
devices_within {from} {lines} {more} {old} {new} k before after less =
    omega (arith, devices_stay before after, less, old.devices.ok.0)

pub cables_within : {from : Seen} {lines more : List TraceLine} {old new : Fabric} (k : ℕ)
    → Stands from lines old → Stands from more new → k < vec_len old.cables
    → k < length new.cables.items
cables_within {from} {lines} {more} {old} {new} k before after less =
    omega (arith, cables_stay before after, less, old.cables.ok.0)

-- all links, by how many cables there are
pub all_taken : {from : Seen} {lines : List TraceLine} {fabric : Fabric} (k : ℕ)
    → Stands from lines fabric → vec_len fabric.cables ≤ k
    → take k from.network.links ≡ from.network.links
all_taken {from} {lines} {fabric} k stands most =
    let many : length from.network.links ≡ length fabric.cables.items =
    sym (ap (λ (l : List (PortRef × PortRef)). length l) (links_stand stands))
    ∙ length-map fabric.cables.items ends_of in
    take_all k from.network.links (omega (arith, most, many, fabric.cables.ok.0))

-- the same nodes are switches
pub kinds_stay : {from : Seen} {lines more : List TraceLine} {old new : Fabric}
    → Stands from lines old → Stands from more new → (n : ℕ)
    → option_map is_switch (slice_get new.devices.items n)
    ≡ option_map is_switch (slice_get old.devices.items n)
kinds_stay {from} {lines} {more} {old} {new} before after n =
    ap (λ (l : List Registers). option_map is_switch (slice_get l n)) (sym after.shows.registers)
    ∙ (seen_board more from).kinds n ∙ sym ((seen_board lines from).kinds n)
    ∙ ap (λ (l : List Registers). option_map is_switch (slice_get l n)) before.shows.registers

pub switch_stays : {from : Seen} {lines more : List TraceLine} {old new : Fabric}
    → Stands from lines old → Stands from more new → (n : ℕ) → IsSwitchAt old.devices.items n
    → IsSwitchAt new.devices.items n
switch_stays {from} {lines} {more} {old} {new} before after n is =
    switch_of n after.shows
    (ap (λ (l : List Registers). option_map is_switch (slice_get l n)) after.shows.registers
    ∙ kinds_stay before after n ∙ ap (option_map is_switch) is.stands ∙ ap Some is.kind)

-- ---- links, one after another

pub settle_append : (xs ys : List (PortRef × PortRef)) (s : Seen) (lines : List TraceLine)
    → s.undetected ≡ None → Both (SettleAll IsSettle xs) (SettleAll IsSettle ys) s lines
    → SettleAll IsSettle (xs ++ ys) s lines
settle_append [] ys s lines still both = nothing_both (SettleAll IsSettle ys) s lines still both
settle_append (x ∷ xs) ys s lines still both =
    both_as (λ t block. IsSettle t x.0 x.1 block)
    (Both (SettleAll IsSettle xs) (SettleAll IsSettle ys)) (SettleAll IsSettle (xs ++ ys)) s lines
    (λ t rest sent own. settle_append xs ys t rest sent own)
    (both_assoc (λ t block. IsSettle t x.0 x.1 block) (SettleAll IsSettle xs)
    (SettleAll IsSettle ys) s lines both)

-- one link settles
abbrev pub Settles : PortRef × PortRef → Kind
Settles link s block = IsSettle s link.0 link.1 block

pub settle_one : (link : PortRef × PortRef) (s : Seen) (lines : List TraceLine)
    → Settles link s lines → SettleAll IsSettle (link ∷ []) s lines
settle_one link s lines own = both_nothing (Settles link) s lines own

found_at : (all links : List (PortRef × PortRef)) (k : ℕ) (link : PortRef × PortRef)
    → AreFound all links → link ≡ get_or links k link → k < length links
    → link_in all link.0 ≡ Some link
found_at all [] k link found at within = absurd (omega (arith, within))
found_at all (x ∷ links) zero link found at within =
    subst (λ (l : PortRef × PortRef). link_in all l.0 ≡ Some l) (sym at) found.0
found_at all (x ∷ links) (suc k) link found at within =
    found_at all links k link found.1 at (omega (arith, within))

pub found_drop : (all links : List (PortRef × PortRef)) (k : ℕ) → AreFound all links
    → AreFound all (drop k links)
found_drop all links zero found = found
found_drop all [] (suc k) found = tt
found_drop all (x ∷ links) (suc k) found = found_drop all links k found.1

cable_link : (cables : List Cable) (k : ℕ) (cable : Cable) → cable ≡ get_or cables k cable
    → k < length cables → ends_of cable ≡ get_or (map ends_of cables) k (ends_of cable)
cable_link [] k cable at within = absurd (omega (arith, within))
cable_link (c ∷ cables) zero cable at within = ap ends_of at
cable_link (c ∷ cables) (suc k) cable at within =
    cable_link cables k cable at (omega (arith, within))

-- the link that stands at this place
pub record IsNext (from : Seen) (k : ℕ) (link : PortRef × PortRef) : Type 0 where
  pub found : link_in from.network.links link.0 ≡ Some link
  pub more : take (k + 1) from.network.links ≡ take k from.network.links ++ link ∷ []
  pub whole : take k from.network.links ++ link ∷ drop (k + 1) from.network.links
      ≡ from.network.links

-- the ends of the link at a place
pub ends_at : (cables : List Cable) (k : ℕ) (cable : Cable) → k < length cables
    → cable ≡ get_or cables k cable → slice_get (map ends_of cables) k ≡ Some (ends_of cable)
ends_at cables k cable within at =
    slice_get-map ends_of cables k
    ∙ ap (option_map ends_of) (slice_get-get_or cables k cable within ∙ ap Some (sym at))

pub next_link : {from : Seen} {lines : List TraceLine} {fabric : Fabric} (k : ℕ) (cable : Cable)
    → Stands from lines fabric → cable ≡ get_or fabric.cables.items k cable
    → k < length fabric.cables.items → IsNext from k (ends_of cable)
next_link {from} {lines} {fabric} k cable stands at within =
    let same = links_stand stands in
    let link = ends_of cable in
    let here : link ≡ get_or from.network.links k link =
    cable_link fabric.cables.items k cable at within
    ∙ ap (λ (l : List (PortRef × PortRef)). get_or l k link) same in
    let many : length from.network.links ≡ length fabric.cables.items =
    sym (ap (λ (l : List (PortRef × PortRef)). length l) same)
    ∙ length-map fabric.cables.items ends_of in
    let inside : k < length from.network.links = omega (arith, many, within) in
    record {
      found = found_at from.network.links from.network.links k link
          (all_found from.network.links stands.ready.proper) here
          inside;
      more = take_more from.network.links k link inside
          ∙ ap (λ (l : PortRef × PortRef). take k from.network.links ++ l ∷ []) (sym here);
      whole = ap
          (λ (l : PortRef × PortRef). take k from.network.links ++ l
          ∷ drop (k + 1) from.network.links) here
          ∙ ap (λ (l : List (PortRef × PortRef)). take k from.network.links ++ l)
          (sym (drop_more from.network.links k link inside))
          ∙ take-append-drop k from.network.links;
    }

pub is_linked : {from : Seen} {lines : List TraceLine} {fabric : Fabric} {k : ℕ}
    {link : PortRef × PortRef} → Stands from lines fabric → IsNext from k link
    → PortIsLinked fabric link.0
is_linked {from} {lines} {fabric} {link = link} stands next =
    let peers = link_peers from.network.links link.0 link stands.ready.proper next.found in
    record {
      from = from;
      lines = lines;
      stands = stands;
      linked = subst (λ (o : Option PortRef). IsSome o) (sym peers.there) refl;
    }

-- a cable stands at a place of its list
pub cable_there : (cables : List Cable) (k : ℕ) → k < length cables
    → (cable : Cable) × (cable ≡ get_or cables k cable)
cable_there [] k within = absurd (omega (arith, within))
cable_there (c ∷ cables) zero within = (c, refl)
cable_there (c ∷ cables) (suc k) within = cable_there cables k (omega (arith, within))

-- ---- the lines of a link that settles

settle_is : (from : Seen) (lines block : List TraceLine) (link : PortRef × PortRef)
    → link_in from.network.links link.0 ≡ Some link
    → WithLink (link_in (seen from lines).network.links link.0)
    (IsSettle (seen from lines)) block
    → Settles link (seen from lines) block
settle_is from lines block link found own =
    subst (λ (o : Option (PortRef × PortRef)). WithLink o (IsSettle (seen from lines)) block)
    (ap (λ (l : List (PortRef × PortRef)). link_in l link.0) (seen_links from lines)
    ∙ found) own

pub settles_made : {from : Seen} (link : PortRef × PortRef) → IsReady from
    → link_in from.network.links link.0 ≡ Some link → IsMade from (Settles link)
settles_made {from = from} link ready found lines block made sent own =
    let s = seen from lines in
    let good = good_behind ready made in
    let peers = link_peers s.network.links link.0 link good.proper
    (ap (λ (l : List (PortRef × PortRef)). link_in l link.0) (seen_links from lines)
    ∙ found) in
    made-append made (link_made s link.0 link.1 block good sent peers own)

module _ {K : Type 0} where
  pub settle_ran : {a b : TraceWriter K} {from : Seen} {lines : List TraceLine}
      (link : PortRef × PortRef) {end : Result Fabric FabricEnd}
      → link_in from.network.links link.0 ≡ Some link
      → Ran (Blocks (Settle link.0)) a b from lines end → Ran (Settles link) a b from lines end
  settle_ran {from = from} {lines = lines} link found ran =
      ran_as (λ block own. settle_is from lines block link found own) ran

  -- one link more has settled
  settled_next : {a b c : TraceWriter K} {from : Seen} {lines : List TraceLine}
      {old mid new : Fabric} {k : ℕ} {link : PortRef × PortRef} → Stands from lines old
      → IsNext from k link
      → (first : Ran (SettleAll IsSettle (take k from.network.links)) a b from lines (Ok mid))
      → Ran (Settles link) b c from (lines ++ first.block) (Ok new)
      → Ran (SettleAll IsSettle (take (k + 1) from.network.links)) a c from lines (Ok new)
  settled_next {from = from} {lines = lines} {k = k} {link = link} stands next first ran =
      let one = ran_as {Q = SettleAll IsSettle (link ∷ [])}
      (λ block own. settle_one link (seen from (lines ++ first.block)) block own) ran in
      ran_as (λ block both. subst (λ (l : List (PortRef × PortRef)). SettleAll IsSettle l
      (seen from lines) block) (sym next.more)
      (settle_append (take k from.network.links) (link ∷ []) (seen from lines) block stands.sent
      both)) (ran_both first one)

  pub settled_more : {a b c : TraceWriter K} {from : Seen} {lines : List TraceLine}
      {old mid new : Fabric} {k : ℕ} {link : PortRef × PortRef} → Stands from lines old
      → IsNext from k link
      → (first : Ran (SettleAll IsSettle (take k from.network.links)) a b from lines (Ok mid))
      → Ran (Blocks (Settle link.0)) b c from (lines ++ first.block) (Ok new)
      → Ran (SettleAll IsSettle (take (k + 1) from.network.links)) a c from lines (Ok new)
  settled_more {link = link} stands next first blocks =
      settled_next stands next first (settle_ran link next.found blocks)

  -- one that has nothing to do settles by nothing
  pub settled_idle : {a b : TraceWriter K} {from : Seen} {lines : List TraceLine} {old mid : Fabric}
      {k : ℕ} {link : PortRef × PortRef} → Stands from lines old → IsNext from k link
      → (first : Ran (SettleAll IsSettle (take k from.network.links)) a b from lines (Ok mid))
      → has_no_work (link_at (seen from (lines ++ first.block)) link.0 link.1) ≡ true
      → Ran (SettleAll IsSettle (take (k + 1) from.network.links)) a b from lines (Ok mid)
  settled_idle {b = b} {from = from} {lines = lines} {link = link} stands next first idle =
      let s = seen from (lines ++ first.block) in
      settled_next stands next first (ran_as
      (λ block none. subst (Settles link s) (sym none) (idle_block s link.0 link.1 idle))
      (ran_nothing b first.ends.1))

  -- a link did not come to its end
  pub settled_short : {a b c : TraceWriter K} {from : Seen} {lines : List TraceLine}
      {old mid : Fabric} {k : ℕ} {link : PortRef × PortRef} {end : FabricEnd}
      → Stands from lines old → IsNext from k link
      → (first : Ran (SettleAll IsSettle (take k from.network.links)) a b from lines (Ok mid))
      → Ran (Blocks (Settle link.0)) b c from (lines ++ first.block) (Err end)
      → Ran LinksSettle a c from lines (Err end)
  settled_short {from = from} {lines = lines} {k = k} {link = link} {end = end} stands next first
      ends =
      let rest = drop (k + 1) from.network.links in
      let on : GoesOn from (SettleAll IsSettle rest) =
      λ more made sent. (let own = settles_from rest from.network.links (seen from more)
      (good_behind stands.ready made) sent (seen_links from more)
      (found_drop from.network.links from.network.links (k + 1)
      (all_found from.network.links stands.ready.proper)) in
      (own.lines, own.is)) in
      let own = ends_first (SettleAll IsSettle rest)
      end (settles_made link stands.ready next.found) on first.ends.1
      (settle_ran link next.found ends) in
      ran_as (λ block both. subst (λ (l : List (PortRef × PortRef)). SettleAll IsSettle l
      (seen from lines) block) (next.whole ∙ sym (seen_links from lines))
      (settle_append (take k from.network.links) (link ∷ rest) (seen from lines) block stands.sent
      both)) (ran_both first own)

  -- all links have settled
  pub settled_all : {a b : TraceWriter K} {from : Seen} {lines : List TraceLine} {new : Fabric}
      (links : List (PortRef × PortRef)) → links ≡ from.network.links
      → Ran (SettleAll IsSettle links) a b from lines (Ok new)
      → Ran LinksSettle a b from lines (Ok new)
  settled_all {from = from} {lines = lines} links same ran =
      ran_as (λ block own. subst (λ (l : List (PortRef × PortRef)). SettleAll IsSettle l
      (seen from lines) block) (same ∙ sym (seen_links from lines)) own) ran
