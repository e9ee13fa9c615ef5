-- Switches that are served one after another, and rounds.
use Rattle.fabric_trace.specs.Known.{Seen}
use Rattle.std.proofs.Common.{◌≡◌, ℕ, zero, suc, ◌+◌, ◌<◌, Bool, true, false, List, [], ◌∷◌, ◌++◌, length, take, get_or, slice_get, Option, Some, None, MatchBool, option_map, refl, sym, ap, ◌∙◌, subst, arith, Ok, Err}
use Rattle.std.proofs.lemmas.Option.{slice_get-get_or}
use Rattle.trace_lines.specs.declared.writer.TraceWriter.{TraceWriter}
use Rattle.maint_registers.specs.Devices.{Registers, is_switch}
use Rattle.fabric_script.specs.declared.ports.PortRef.{PortRef}
use Rattle.fabric_model.proofs.Peers.{ArePeers}
use Rattle.fabric_trace.specs.Blocks.{IsSettle}
use Rattle.fabric_trace.specs.Fold.{seen}
use Rattle.trace_lines.specs.Lines.{TraceLine}
use Rattle.fabric_trace.specs.Parts.{Made}
use Rattle.fabric_trace.specs.Ready.{IsReady}
use Rattle.fabric_trace.specs.Rounds.{ServeNodes, Round, Rounds}
use Rattle.fabric_trace.proofs.Traces.Existing.{serve_all_exist, rounds_exist, ready_on}
use Rattle.fabric_trace.proofs.Parts.Keeping.{IsGood}
use Rattle.fabric_trace.proofs.Parts.Making.{made-append}
use Rattle.fabric_trace.proofs.Rounds.Blocks.{all_found, settle_all_come, round_come}
use Rattle.fabric_trace.proofs.Rounds.Running.{link_made, move_made}
use Rattle.fabric_ports.specs.Ran.{Kind, Ran, LinksSettle, SwitchesServe, Serves}
use Rattle.fabric_ports.specs.Standing.{Stands}
use Rattle.fabric_ports.specs.declared.answers.FabricEnd.{FabricEnd}
use Rattle.fabric_ports.specs.declared.fabric.Fabric.{Fabric}
use Rattle.fabric_ports.proofs.RanLaws.{Both, Nothing, both_as, both_nothing, nothing_both, both_assoc, GoesOn, IsMade, joined_both, ran_nothing, ran_joined, ran_both, ran_as, ends_first}
use Rattle.fabric_ports.proofs.SettlingLaws.{good_behind, kinds_stay}

-- ---- switches, one after another

pub nodes_more : (test : Bool) (A B Q C D : Kind) (s : Seen) (lines : List TraceLine)
    → (Both A Q s lines → C s lines) → (Both B Q s lines → D s lines)
    → Both (λ t block. MatchBool test (A t block) (B t block)) Q s lines
    → MatchBool test (C s lines) (D s lines)
nodes_more true A B Q C D s lines switch other both = switch both
nodes_more false A B Q C D s lines switch other both = other both

pub nodes_append : (xs ys : List Registers) (node last : ℕ) (s : Seen) (lines : List TraceLine)
    → node + length xs ≡ last → s.undetected ≡ None
    → Both (ServeNodes node xs) (ServeNodes last ys) s lines → ServeNodes node (xs ++ ys) s lines
nodes_append [] ys node last s lines at still both =
    let same : last ≡ node = omega (arith, at) in
    subst (λ n. ServeNodes n ys s lines) same
    (nothing_both (ServeNodes last ys) s lines still both)
nodes_append (x ∷ xs) ys node last s lines at still both =
    let next : suc node + length xs ≡ last = omega (arith, at) in
    nodes_more (is_switch x) (Both (Serves node) (ServeNodes (suc node) xs))
    (ServeNodes (suc node) xs) (ServeNodes last ys)
    (Both (Serves node) (ServeNodes (suc node) (xs ++ ys))) (ServeNodes (suc node) (xs ++ ys)) s
    lines
    (λ own. both_as (Serves node) (Both (ServeNodes (suc node) xs) (ServeNodes last ys))
    (ServeNodes (suc node) (xs ++ ys)) s lines
    (λ t rest sent more. nodes_append xs ys (suc node) last t rest next sent more)
    (both_assoc (Serves node) (ServeNodes (suc node) xs) (ServeNodes last ys) s lines own))
    (λ own. nodes_append xs ys (suc node) last s lines next still own) both

-- what one node does, by whether it is a switch
pub node_serves : (device : Registers) (node : ℕ) (s : Seen) (lines : List TraceLine)
    → is_switch device ≡ true → Serves node s lines → ServeNodes node (device ∷ []) s lines
node_serves device node s lines is own =
    subst (λ b. MatchBool b (Both (Serves node) Nothing s lines) (Nothing s lines)) (sym is)
    (both_nothing (Serves node) s lines own)

pub node_rests : (device : Registers) (node : ℕ) (s : Seen) (lines : List TraceLine)
    → is_switch device ≡ false → Nothing s lines → ServeNodes node (device ∷ []) s lines
node_rests device node s lines is none =
    subst (λ b. MatchBool b (Both (Serves node) Nothing s lines) (Nothing s lines)) (sym is) none

-- the device that stands at this place of a list
pub record IsNode (devices : List Registers) (k : ℕ) (kind : Bool) : Type 0 where
  pub device : Registers
  pub is : is_switch device ≡ kind
  pub more : take (k + 1) devices ≡ take k devices ++ device ∷ []
  pub many : length (take k devices) ≡ k

some_kind : (o : Option Registers) (kind : Bool) → option_map is_switch o ≡ Some kind
    → (device : Registers) × (o ≡ Some device) × (is_switch device ≡ kind)
some_kind None kind is = absurd cc
some_kind (Some device) kind is = (device, refl, cc)

node_of : (devices : List Registers) (k : ℕ) (device : Registers)
    → slice_get devices k ≡ Some device
    → (take (k + 1) devices ≡ take k devices ++ device ∷ []) × (length (take k devices) ≡ k)
node_of [] k device is = absurd cc
node_of (d ∷ devices) zero device is = let same : d ≡ device = cc in
    (ap (λ (x : Registers). x ∷ []) same, refl)
node_of (d ∷ devices) (suc k) device is =
    let rest = node_of devices k device is in
    let next : suc k + 1 ≡ suc (k + 1) = omega arith in (
      ap (λ n. take n (d ∷ devices)) next ∙ ap (λ (l : List Registers). d ∷ l) rest.0,
      ap suc rest.1,
    )

pub next_node : {from : Seen} {lines more : List TraceLine} {old new : Fabric} (k : ℕ)
    (device : Registers) (kind : Bool) → Stands from lines old → Stands from more new
    → device ≡ get_or new.devices.items k device → k < length new.devices.items
    → is_switch device ≡ kind → IsNode old.devices.items k kind
next_node {from} {lines} {more} {old} {new} k device kind before after at within is =
    let here = slice_get-get_or new.devices.items k device within ∙ ap Some (sym at) in
    let first = some_kind (slice_get old.devices.items k) kind
    (sym (kinds_stay before after k) ∙ ap (option_map is_switch) here ∙ ap Some is) in
    let own = node_of old.devices.items k first.0 first.1 in
    record { device = first.0; is = first.2; more = own.0; many = own.1 }

-- nodes, one after another, whatever each does
module _ {K : Type 0} (Nodes : ℕ → List Registers → Kind)
    (appends : (xs ys : List Registers) (node last : ℕ) (s : Seen) (lines : List TraceLine)
    → node + length xs ≡ last → s.undetected ≡ None
    → Both (Nodes node xs) (Nodes last ys) s lines → Nodes node (xs ++ ys) s lines)
    {from : Seen} {lines : List TraceLine} {old mid : Fabric} (devices : List Registers)
    (stands : Stands from lines old) where
  pub nodes_on : {P : Kind} {a b c : TraceWriter K} {new : Fabric} {k : ℕ} {kind : Bool}
      → (node : IsNode devices k kind)
      → ((s : Seen) (block : List TraceLine) → P s block → Nodes k (node.device ∷ []) s block)
      → (first : Ran (Nodes 0 (take k devices)) a b from lines (Ok mid))
      → Ran P b c from (lines ++ first.block) (Ok new)
      → Ran (Nodes 0 (take (k + 1) devices)) a c from lines (Ok new)
  nodes_on {k = k} node does first own =
      let at : 0 + length (take k devices) ≡ k = let many = node.many in omega (arith, many) in
      ran_joined
      (λ x y before still one. subst (λ (l : List Registers). Nodes 0 l (seen from lines) (x ++ y))
      (sym node.more)
      (appends (take k devices) (node.device ∷ []) 0 k (seen from lines) (x ++ y) at stands.sent
      (joined_both (Nodes 0 (take k devices)) (Nodes k (node.device ∷ [])) (seen from lines) x y
      before still (does (seen (seen from lines) x) y one))))
      first own

  pub nodes_none : {a b : TraceWriter K} {k : ℕ} {kind : Bool} → (node : IsNode devices k kind)
      → ((s : Seen) (block : List TraceLine) → Nothing s block
      → Nodes k (node.device ∷ []) s block)
      → Ran (Nodes 0 (take k devices)) a b from lines (Ok mid)
      → Ran (Nodes 0 (take (k + 1) devices)) a b from lines (Ok mid)
  nodes_none {b = b} node rests first =
      nodes_on node rests first (ran_nothing b first.ends.1)

  -- all nodes of the fabric
  pub nodes_all : {a b : TraceWriter K} → devices ≡ old.devices.items
      → Ran (Nodes 0 devices) a b from lines (Ok mid)
      → Ran (λ s block. Nodes 0 s.network.registers s block) a b from lines (Ok mid)
  nodes_all same ran =
      ran_as (λ block own. subst (λ (l : List Registers). Nodes 0 l (seen from lines) block)
      (same ∙ sym stands.shows.registers) own) ran

-- ---- rounds, one after another

pub rounds_append : (m n : ℕ) (s : Seen) (lines : List TraceLine) → s.undetected ≡ None
    → Both (Rounds IsSettle m) (Rounds IsSettle n) s lines → Rounds IsSettle (m + n) s lines
rounds_append zero n s lines still both =
    let same : n ≡ 0 + n = omega arith in
    subst (λ k. Rounds IsSettle k s lines) same
    (nothing_both (Rounds IsSettle n) s lines still both)
rounds_append (suc m) n s lines still both =
    let same : suc (m + n) ≡ suc m + n = omega arith in
    subst (λ k. Rounds IsSettle k s lines) same
    (both_as (Round IsSettle) (Both (Rounds IsSettle m) (Rounds IsSettle n))
    (Rounds IsSettle (m + n)) s lines
    (λ t rest sent own. rounds_append m n t rest sent own)
    (both_assoc (Round IsSettle) (Rounds IsSettle m) (Rounds IsSettle n) s lines both))

-- what is known of a link that settles
settles_come : (s : Seen) (a b : PortRef) (lines : List TraceLine) → IsGood s
    → s.undetected ≡ None → ArePeers s.network.links a b → IsSettle s a b lines
    → Made s lines × IsSettle s a b lines
settles_come s a b lines good sent peers own =
    (link_made s a b lines good sent peers own, own)

links_made : {from : Seen} → IsReady from → IsMade from LinksSettle
links_made {from = from} ready lines block made sent own =
    let s = seen from lines in
    let good = good_behind ready made in
    made-append made
    (settle_all_come IsSettle IsSettle settles_come move_made s.network.links s.network.links s
    block good sent refl (all_found s.network.links good.proper) own).0

round_made : {from : Seen} → IsReady from → IsMade from (Round IsSettle)
round_made {from = from} ready lines block made sent own =
    let s = seen from lines in
    made-append made
    (round_come IsSettle IsSettle settles_come move_made s block (good_behind ready made) sent
    own).0

switches_go_on : {from : Seen} → IsReady from → GoesOn from SwitchesServe
switches_go_on {from = from} ready lines made sent =
    let own = serve_all_exist (seen from lines) (ready_on ready made) in
    (own.lines, own.is)

-- the rounds behind the first ones and the next
pub rounds_left : (k n : ℕ) → k < n → (m : ℕ) × (k + suc m ≡ n)
rounds_left k zero less = absurd (omega (arith, less))
rounds_left zero (suc n) less = (n, omega arith)
rounds_left (suc k) (suc n) less =
    let rest = rounds_left k n (omega (arith, less)) in
    let same = rest.1 in
    (rest.0, omega (arith, same))

module _ {K : Type 0} where
  -- one round more
  pub ran_more : {a b : TraceWriter K} (c d : TraceWriter K) {from : Seen} {lines : List TraceLine}
      {old mid : Fabric} (linked new : Fabric) (k : ℕ) → Stands from lines old
      → Ran (Rounds IsSettle k) a b from lines (Ok mid)
      → ((more : List TraceLine) → Stands from more mid
      → Ran LinksSettle b c from more (Ok linked))
      → ((more : List TraceLine) → Stands from more linked
      → Ran SwitchesServe c d from more (Ok new))
      → Ran (Rounds IsSettle (k + 1)) a d from lines (Ok new)
  ran_more c d {from = from} {lines = lines} linked new k stands first links switches =
      let settled = links (lines ++ first.block) first.ends.1 in
      let round = ran_both settled
      (switches ((lines ++ first.block) ++ settled.block) settled.ends.1) in
      let one = ran_as {Q = Rounds IsSettle 1}
      (λ block own. both_nothing (Round IsSettle) (seen from (lines ++ first.block)) block
      own) round in
      ran_as (λ block both. rounds_append k 1 (seen from lines) block stands.sent both)
      (ran_both first one)

  -- the links of a round did not all settle
  pub ran_short : {a b : TraceWriter K} (c : TraceWriter K) {from : Seen} {lines : List TraceLine}
      {old mid : Fabric}
      (k n : ℕ) (end : FabricEnd) → k < n → Stands from lines old
      → Ran (Rounds IsSettle k) a b from lines (Ok mid)
      → ((more : List TraceLine) → Stands from more mid
      → Ran LinksSettle b c from more (Err end))
      → Ran (Rounds IsSettle n) a c from lines (Err end)
  ran_short c {from = from} {lines = lines} k n end less stands first links =
      let left : (m : ℕ) × (k + suc m ≡ n) = rounds_left k n less in
      let own = ends_first SwitchesServe end (links_made stands.ready)
      (switches_go_on stands.ready) first.ends.1 (links (lines ++ first.block) first.ends.1) in
      let more = ends_first (Rounds IsSettle left.0) end (round_made stands.ready) (λ l made sent.
      (let own = rounds_exist left.0 (seen from l) (ready_on stands.ready made) sent in
      (own.lines, own.is))) first.ends.1 own in
      ran_as (λ block both. subst (λ m. Rounds IsSettle m (seen from lines) block) left.1
      (rounds_append k (suc left.0) (seen from lines) block stands.sent both)) (ran_both first more)

  pub ran_all : {a b : TraceWriter K} {from : Seen} {lines : List TraceLine} {new : Fabric}
      (k n : ℕ) → k ≡ n → Ran (Rounds IsSettle k) a b from lines (Ok new)
      → Ran (Rounds IsSettle n) a b from lines (Ok new)
  ran_all {a = a} {b = b} {from = from} {lines = lines} {new = new} k n same ran =
      subst (λ m. Ran (Rounds IsSettle m) a b from lines (Ok new)) same ran
