-- What was written of a link that carried what it can, and of all links.
use Rattle.std.proofs.Common.{◌≡◌, List, ◌++◌, Option, Some, IsSome, Result, Ok, Err, refl, sym, subst}
use Rattle.trace_lines.specs.declared.writer.TraceWriter.{TraceWriter}
use Rattle.rio_chars.specs.declared.edit.Edit.{Edit}
use Rattle.fabric_script.specs.declared.lines.Line.TheVariants.{Pump, Settle}
use Rattle.fabric_script.specs.declared.ports.PortRef.{PortRef}
use Rattle.fabric_model.specs.Network.{link_in}
use Rattle.fabric_model.proofs.Peers.{link_peers}
use Rattle.fabric_trace.specs.Blocks.{pumps, WithPeer}
use Rattle.fabric_trace.specs.Fold.{seen}
use Rattle.fabric_trace.specs.Known.{Seen, peer_of}
use Rattle.trace_lines.specs.Lines.{TraceLine}
use Rattle.fabric_ask.specs.Noise.{stirred}
use Rattle.fabric_ports.specs.Carrying.{AreLinked, WithLeft, LeftBy, Turns, BothTurn, Stirs, BothStir, LinkCarries}
use Rattle.fabric_ports.specs.Ends.{PortIsLinked}
use Rattle.fabric_ports.specs.Ran.{Kind, Blocks, Ran}
use Rattle.fabric_ports.specs.Standing.{Stands}
use Rattle.fabric_ports.specs.declared.answers.FabricEnd.{FabricEnd}
use Rattle.fabric_ports.specs.declared.fabric.Fabric.{Fabric}
use Rattle.fabric_ports.proofs.RanLaws.{Both, GoesOn, ran_both, ran_as, ends_first}
use Rattle.fabric_ports.proofs.SettlingLaws.{Settles, settle_ran}
use Rattle.fabric_ports.proofs.CarryLaws.{IsOpen, open_behind, open_round, found_from, turns_made, both_turn_made, stirs_made, both_stir_made, settles_go_on, stirs_go_on, carry_is, left_first}

-- ---- the ends of a link

linked : (from : Seen) (lines : List TraceLine) (fabric : Fabric) (p q : PortRef)
    → Stands from lines fabric → peer_of from p ≡ Some q → PortIsLinked fabric p
linked from lines fabric p q stands there = record {
  from = from;
  lines = lines;
  stands = stands;
  linked = subst (λ (o : Option PortRef). IsSome o) (sym there) refl;
}

pub first_linked : {fabric : Fabric} {ends : PortRef × PortRef} → AreLinked fabric ends
    → PortIsLinked fabric ends.0
first_linked {fabric} {ends} is =
    let found = found_from ends is.stands is.found in
    let peers = link_peers is.from.network.links ends.0 ends is.stands.ready.proper found in
    linked is.from is.lines fabric ends.0 ends.1 is.stands peers.there

pub second_linked : {fabric : Fabric} {ends : PortRef × PortRef} → AreLinked fabric ends
    → PortIsLinked fabric ends.1
second_linked {fabric} {ends} is =
    let found = found_from ends is.stands is.found in
    let peers = link_peers is.from.network.links ends.0 ends is.stands.ready.proper found in
    linked is.from is.lines fabric ends.1 ends.0 is.stands peers.back

-- ---- a turn

turn_is : {s : Seen} {p q : PortRef} (block : List TraceLine) → IsOpen s p q
    → WithPeer (peer_of s p) (pumps s p 1) block → Turns p q s block
turn_is {s = s} {p = p} block is_open own =
    subst (λ o. WithPeer o (pumps s p 1) block) is_open.peers.there own

module _ {K : Type 0} where
  turn_ran : {a b : TraceWriter K} {from : Seen} {lines : List TraceLine}
      {end : Result Fabric FabricEnd} {p q : PortRef} → IsOpen (seen from lines) p q
      → Ran (Blocks (Pump p 1)) a b from lines end
      → Ran (Turns p q) a b from lines end
  turn_ran is_open ran =
      ran_as (λ block own. turn_is block is_open own) ran

  -- whichever edits are left, there are some
  pub ran_left : {P : List Edit → Kind} {a b : TraceWriter K} {from : Seen} {lines : List TraceLine}
      {end : Result Fabric FabricEnd} → Ran (WithLeft P) a b from lines end
      → (left : List Edit) × Ran (P left) a b from lines end
  ran_left ran =
      (ran.is.0, record { block = ran.block; is = ran.is.1; ends = ran.ends })

  pub with_left : (P : List Edit → Kind) (left : List Edit) {a b : TraceWriter K} {from : Seen}
      {lines : List TraceLine} {end : Result Fabric FabricEnd}
      → Ran (P left) a b from lines end
      → Ran (WithLeft P) a b from lines end
  with_left P left ran =
      ran_as (λ block own. (left, own)) ran

  -- a call of other lines with the same edits left, however many those are
  pub left_by : {T : Type 0} (r : Result T FabricEnd) (P Q : List Edit → Kind) (left : List Edit)
      {a b c d : TraceWriter K} {from : Seen} {more lines : List TraceLine}
      {end other : Result Fabric FabricEnd}
      → ((left : List Edit) → Ran (P left) a b from more end → Ran (Q left) c d from lines other)
      → Ran (LeftBy r P left) a b from more end → Ran (LeftBy r Q left) c d from lines other
  left_by (Ok answer) P Q left turns ran = turns left ran
  left_by (Err end) P Q left turns ran =
      let own = ran_left ran in
      with_left Q own.0 (turns own.0 own.1)

  -- these are left
  pub left_so : {T : Type 0} (r : Result T FabricEnd) (P : List Edit → Kind) (left : List Edit)
      {a b : TraceWriter K} {from : Seen} {lines : List TraceLine}
      {end : Result Fabric FabricEnd}
      → Ran (P left) a b from lines end → Ran (LeftBy r P left) a b from lines end
  left_so (Ok answer) P left ran = ran
  left_so (Err end) P left ran = with_left P left ran

-- ---- at the two ends of a link

module _ {ends : PortRef × PortRef} {from : Seen} {lines : List TraceLine} {old : Fabric}
    (is : AreLinked old ends) (stands : Stands from lines old) where
  found : link_in from.network.links ends.0 ≡ Some ends
  found = found_from ends stands is.found

  is_open : IsOpen (seen from lines) ends.0 ends.1
  is_open = open_behind ends stands.ready found stands.made stands.sent

  second_open : {more : List TraceLine} {mid : Fabric} → Stands from more mid
      → IsOpen (seen from more) ends.1 ends.0
  second_open behind = open_round (open_behind ends stands.ready found behind.made behind.sent)

  -- its ports have turned and its wires were stirred; then it settles
  abbrev Last : List Edit → List Edit → Kind
  Last noise left = Both (BothStir ends noise left) (Settles ends)

  module _ {K : Type 0} where
    -- ---- both ports of a link take a turn

    -- the first has taken it
    pub both_turned : {a b c : TraceWriter K} {mid : Fabric} {end : Result Fabric FabricEnd}
        → (first : Ran (Blocks (Pump ends.0 1)) a b from lines (Ok mid))
        → Ran (Blocks (Pump ends.1 1)) b c from (lines ++ first.block) end
        → Ran (BothTurn ends) a c from lines end
    both_turned {a = a} {b = b} {mid = mid} first second =
        let turned : Ran (Turns ends.0 ends.1) a b from lines (Ok mid) =
        record {
          block = first.block;
          is = turn_is first.block is_open first.is;
          ends = first.ends;
        } in
        ran_both turned (turn_ran (second_open first.ends.1) second)

    -- it did not come to its end
    pub first_unturned : {a b : TraceWriter K} {end : FabricEnd}
        → Ran (Blocks (Pump ends.0 1)) a b from lines (Err end)
        → Ran (BothTurn ends) a b from lines (Err end)
    first_unturned {end = end} first =
        ends_first (Turns ends.1 ends.0) end (turns_made ends stands.ready found)
        (λ more made sent. (pumps (seen from more) ends.1 1 ends.0, refl)) stands
        (turn_ran is_open first)

    -- ---- both wires of a link are stirred

    pub both_stirred : {a b c : TraceWriter K} {mid : Fabric} {end : Result Fabric FabricEnd}
        (noise middle left : List Edit)
        → (first : Ran (Stirs ends.0 noise middle) a b from lines (Ok mid))
        → Ran (Stirs ends.1 middle left) b c from (lines ++ first.block) end
        → Ran (BothStir ends noise left) a c from lines end
    both_stirred noise middle left first second =
        ran_as (λ block own. (middle, own)) (ran_both first second)

    pub first_unstirred : {a b : TraceWriter K} {end : FabricEnd} (noise : List Edit)
        → Ran (WithLeft (Stirs ends.0 noise)) a b from lines (Err end)
        → Ran (WithLeft (BothStir ends noise)) a b from lines (Err end)
    first_unstirred {end = end} noise ended =
        let own = ran_left ended in
        let middle = own.0 in
        let more : GoesOn from (WithLeft (Stirs ends.1 middle)) =
        λ l made sent. (let next : List TraceLine × List Edit =
        stirred middle ends.1 ((seen from l).wires ends.1).chars in (next.0, (next.1, refl))) in
        ran_as
        (λ block both. (let left = left_first (Stirs ends.0 noise middle) (Stirs ends.1 middle)
        (seen from lines) block both in (left.0, (middle, left.1)))) (ends_first
        (WithLeft (Stirs ends.1 middle)) end
        (stirs_made ends stands.ready found noise middle) more stands own.1)

    -- ---- a link carries what it can

    carry_ran : {a b : TraceWriter K} {end : Result Fabric FabricEnd} (noise left : List Edit)
        → Ran (Both (BothTurn ends) (Last noise left)) a b from lines end
        → Ran (LinkCarries ends noise left) a b from lines end
    carry_ran noise left ran =
        ran_as (λ block own. carry_is ends noise left block is_open own) ran

    pub carried : {a b c d : TraceWriter K} {turned stirred_fabric : Fabric}
        {end : Result Fabric FabricEnd} (noise left : List Edit)
        → (first : Ran (BothTurn ends) a b from lines (Ok turned))
        → (second : Ran (BothStir ends noise left) b c from
        (lines ++ first.block) (Ok stirred_fabric))
        → Ran (Blocks (Settle ends.0)) c d from ((lines ++ first.block) ++ second.block) end
        → Ran (LinkCarries ends noise left) a d from lines end
    carried noise left first second settles =
        carry_ran noise left (ran_both first (ran_both second (settle_ran ends found settles)))

    pub carry_unturned : {a b : TraceWriter K} {end : FabricEnd} (noise : List Edit)
        → Ran (BothTurn ends) a b from lines (Err end)
        → Ran (WithLeft (LinkCarries ends noise)) a b from lines (Err end)
    carry_unturned {end = end} noise ended =
        ran_as
        (λ block both. (let left = left_first (BothTurn ends) (Last noise) (seen from lines) block
        both in
        (left.0, carry_is ends noise left.0 block is_open left.1)))
        (ends_first (WithLeft (Last noise)) end (both_turn_made ends stands.ready found)
        (stirs_go_on ends stands.ready found noise) stands ended)

    pub carry_unstirred : {a b c : TraceWriter K} {turned : Fabric} {end : FabricEnd}
        (noise : List Edit)
        → (first : Ran (BothTurn ends) a b from lines (Ok turned))
        → Ran (WithLeft (BothStir ends noise)) b c from (lines ++ first.block) (Err end)
        → Ran (WithLeft (LinkCarries ends noise)) a c from lines (Err end)
    carry_unstirred {end = end} noise first ended =
        let own = ran_left ended in
        with_left (LinkCarries ends noise) own.0 (carry_ran noise own.0 (ran_both first
        (ends_first (Settles ends) end (both_stir_made ends stands.ready found noise own.0)
        (settles_go_on ends stands.ready found) first.ends.1 own.1)))
