-- Endpoints that collect one after another, and a round of an ask.
use Rattle.std.proofs.Common.{◌≡◌, ◌+◌, ◌==◌, ◌||◌, ℕ, suc, true, false, List, [], ◌∷◌, ◌++◌, length, None, MatchBool, sym, subst, arith, Ok, Err}
use Rattle.trace_lines.specs.declared.writer.TraceWriter.{TraceWriter}
use Rattle.rio_chars.specs.declared.edit.Edit.{Edit}
use Rattle.maint_registers.specs.Devices.{Registers, is_switch}
use Rattle.fabric_trace.specs.Fold.{seen}
use Rattle.fabric_trace.specs.Known.{Seen}
use Rattle.trace_lines.specs.Lines.{TraceLine}
use Rattle.fabric_trace.proofs.Traces.Existing.{ready_on}
use Rattle.fabric_ask.specs.Asks.{CollectNodes, Handles, AskRound}
use Rattle.fabric_ask.proofs.Beginning.{handles_exist}
use Rattle.fabric_ports.specs.Carrying.{WithLeft, LinksCarry}
use Rattle.fabric_ports.specs.Gathering.{Collects, OthersCollect}
use Rattle.fabric_ports.specs.Ran.{Ran, SwitchesServe}
use Rattle.fabric_ports.specs.Standing.{Stands}
use Rattle.fabric_ports.specs.declared.answers.FabricEnd.{FabricEnd}
use Rattle.fabric_ports.specs.declared.fabric.Fabric.{Fabric}
use Rattle.fabric_ports.proofs.RanLaws.{Both, Nothing, both_as, both_nothing, nothing_both, both_assoc, GoesOn, ran_both, ends_first}
use Rattle.fabric_ports.proofs.RoundLaws.{nodes_more}
use Rattle.fabric_ports.proofs.CarryAllLaws.{links_carry_made}
use Rattle.fabric_ports.proofs.CarriedLaws.{ran_left, with_left}

pub others_append : (host : ℕ) (xs ys : List Registers) (node last : ℕ) (s : Seen)
    (lines : List TraceLine) → node + length xs ≡ last → s.undetected ≡ None
    → Both (CollectNodes host node xs) (CollectNodes host last ys) s lines
    → CollectNodes host node (xs ++ ys) s lines
others_append host [] ys node last s lines at still both =
    let same : last ≡ node = omega (arith, at) in
    subst (λ n. CollectNodes host n ys s lines) same
    (nothing_both (CollectNodes host last ys) s lines still both)
others_append host (x ∷ xs) ys node last s lines at still both =
    let next : suc node + length xs ≡ last = omega (arith, at) in
    nodes_more (is_switch x || (node == host)) (CollectNodes host (suc node) xs)
    (Both (Collects node) (CollectNodes host (suc node) xs)) (CollectNodes host last ys)
    (CollectNodes host (suc node) (xs ++ ys))
    (Both (Collects node) (CollectNodes host (suc node) (xs ++ ys))) s lines
    (λ own. others_append host xs ys (suc node) last s lines next still own)
    (λ own. both_as (Collects node)
    (Both (CollectNodes host (suc node) xs) (CollectNodes host last ys))
    (CollectNodes host (suc node) (xs ++ ys)) s lines
    (λ t rest sent more. others_append host xs ys (suc node) last t rest next sent more)
    (both_assoc (Collects node) (CollectNodes host (suc node) xs) (CollectNodes host last ys) s
    lines own)) both

-- what one node does, by whether it is an endpoint other than the host
pub node_collects : (host : ℕ) (device : Registers) (node : ℕ) (s : Seen) (lines : List TraceLine)
    → (is_switch device || (node == host)) ≡ false → Collects node s lines
    → CollectNodes host node (device ∷ []) s lines
node_collects host device node s lines is own =
    subst (λ b. MatchBool b (Nothing s lines) (Both (Collects node) Nothing s lines)) (sym is)
    (both_nothing (Collects node) s lines own)

pub node_rests : (host : ℕ) (device : Registers) (node : ℕ) (s : Seen) (lines : List TraceLine)
    → (is_switch device || (node == host)) ≡ true → Nothing s lines
    → CollectNodes host node (device ∷ []) s lines
node_rests host device node s lines is none =
    subst (λ b. MatchBool b (Nothing s lines) (Both (Collects node) Nothing s lines)) (sym is) none

-- ---- a round

module _ {K : Type 0} where
  pub round_ran : {a b : TraceWriter K} (c d : TraceWriter K) {from : Seen} {lines : List TraceLine}
      {carried : Fabric} (served new : Fabric) (host : ℕ) (noise left : List Edit)
      → (first : Ran (LinksCarry noise left) a b from lines (Ok carried))
      → ((more : List TraceLine) → Stands from more carried
      → Ran SwitchesServe b c from more (Ok served))
      → ((more : List TraceLine) → Stands from more served
      → Ran (OthersCollect host) c d from more (Ok new))
      → Ran (AskRound host noise left) a d from lines (Ok new)
  round_ran c d {lines = lines} served new host noise left first serve collect =
      let serves = serve (lines ++ first.block) first.ends.1 in
      ran_both first (ran_both serves
      (collect ((lines ++ first.block) ++ serves.block) serves.ends.1))

  -- a link did not come to its end
  pub round_short : {a b : TraceWriter K} {from : Seen} {lines : List TraceLine} {old : Fabric}
      (host : ℕ) (noise : List Edit) {end : FabricEnd} → Stands from lines old
      → Ran (WithLeft (LinksCarry noise)) a b from lines (Err end)
      → Ran (WithLeft (AskRound host noise)) a b from lines (Err end)
  round_short {from = from} host noise {end = end} stands ended =
      let own = ran_left ended in
      let on : GoesOn from (Handles host) =
      λ more made sent. (let exist = handles_exist host (seen from more)
      (ready_on stands.ready made) sent in (exist.lines, exist.is)) in
      with_left (AskRound host noise) own.0 (ends_first (Handles host)
      end (links_carry_made noise own.0 stands.ready) on stands own.1)
