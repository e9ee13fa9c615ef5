-- An endpoint that collects one packet after another.
use Rattle.std.proofs.Common.{◌≡◌, ◌≢◌, ◌<◌, ◌≤◌, ◌+◌, ℕ, zero, suc, nat_lt, true, false, List, [], ◌∷◌, ◌++◌, length, drop, Some, None, is_some, option_map, slice_get, refl, sym, ap, ◌∙◌, subst, arith, append-nil, append_assoc, lt-ltb, Ok}
use Rattle.trace_lines.specs.declared.writer.TraceWriter.{TraceWriter}
use Rattle.link_buffers.specs.Queues.{list_at}
use Rattle.link_port.specs.Ports.{PortState}
use Rattle.maint_registers.specs.Devices.{Registers, is_switch}
use Rattle.switch_core.specs.Faces.{Face, head_of}
use Rattle.switch_core.specs.Order.{greatest_first}
use Rattle.switch_core.specs.EndpointSteps.{first_held, collected, collected_head}
use Rattle.switch_core.specs.declared.endpoint.Collected.{Collected}
use Rattle.switch_core.specs.declared.endpoint.Collected.TheVariants as Collects
use Rattle.fabric_model.specs.Network.{Item, Network, port_of, held, IsEndpoint}
use Rattle.fabric_model.specs.Steps.{Step, Leave, Answer, AtNode, ByDevice}
use Rattle.fabric_trace.specs.Fold.{seen, seen_line}
use Rattle.fabric_trace.specs.Known.{Seen, port_seen}
use Rattle.trace_lines.specs.Lines.{Full as NoRoom, Empty as NoPacket, TraceLine, Stepped, Lacked}
use Rattle.fabric_trace.specs.Served.{face_in, collect_lines, IsCollect}
use Rattle.fabric_trace.specs.Views.{lists_in}
use Rattle.fabric_trace.proofs.Traces.Existing.{ready_on}
use Rattle.fabric_trace.proofs.Parts.Folding.{seen-append}
use Rattle.fabric_trace.proofs.Parts.Keeping.{IsGood}
use Rattle.fabric_ask.specs.Asks.{CollectsAll, holds_some, CollectGoes, CollectStops, CollectRests}
use Rattle.fabric_ask.proofs.Collecting.{none_first_held, collect_lines_made}
use Rattle.fabric_ask.proofs.Gathering.{collect_exists, stays_endpoint, collected_fewer}
use Rattle.fabric_ask.proofs.Serving.{greatest-none}
use Rattle.fabric_ports.specs.Events.{Did, answer_collected}
use Rattle.fabric_ports.specs.Gathering.{has_packets, Collects as CollectsAt}
use Rattle.fabric_ports.specs.Places.{IsEndpointAt, place_of}
use Rattle.fabric_ports.specs.Ran.{Kind, Ran}
use Rattle.fabric_ports.specs.Showing.{ShowsFabric}
use Rattle.fabric_ports.specs.Standing.{Stands}
use Rattle.fabric_ports.specs.declared.answers.Happened.{Happened}
use Rattle.fabric_ports.specs.declared.answers.Happened.TheVariants.{Full, Left, Answered, Empty}
use Rattle.fabric_ports.specs.declared.fabric.Fabric.{Fabric}
use Rattle.fabric_ports.proofs.NodeLaws.{endpoint_port}
use Rattle.fabric_ports.proofs.RanLaws.{ran_nothing, ran_as, ran_joined}
use Rattle.fabric_ports.proofs.ServeLaws.{packets_in, held_in, held_lanes, did_ran}
use Rattle.fabric_ports.proofs.SettlingLaws.{good_behind, kinds_stay}

-- ---- lists that have a packet

has_some : (lists : List (List (List ℕ))) → has_packets lists ≡ nat_lt 0 (packets_in lists)
has_some [] = refl
has_some ([] ∷ lists) =
    let same : packets_in lists ≡ 0 + packets_in lists = omega arith in
    has_some lists ∙ ap (nat_lt 0) same
has_some ((packet ∷ packets) ∷ lists) =
    sym (lt-ltb 0 (packets_in ((packet ∷ packets) ∷ lists)) (omega arith))

lists_held : (s : Seen) (node : ℕ)
    → has_packets (lists_in (s.network.received (port_of node))) ≡ holds_some node s
lists_held s node =
    let lanes = s.network.received (port_of node) in
    has_some (lists_in lanes) ∙ ap (nat_lt 0) (held_lanes lanes)

-- a port that is known has a packet if the node holds one
pub holds_is : (s : Seen) (node : ℕ) {x : PortState} → port_seen s (port_of node) ≡ x
    → has_packets x.received.lists ≡ holds_some node s
holds_is s node is =
    ap (λ (z : PortState). has_packets z.received.lists) (sym is) ∙ lists_held s node

no_first : (packets : List (List ℕ)) → is_some (slice_get packets 0) ≡ false → packets ≡ []
no_first [] none = refl
no_first (packet ∷ packets) none = absurd cc

-- behind a list without a packet the others have one as before
pub without_list : (lists : List (List (List ℕ))) (k : ℕ)
    → is_some (slice_get (list_at lists k) 0) ≡ false
    → has_packets (drop (k + 1) lists) ≡ has_packets (drop k lists)
without_list [] zero none = refl
without_list [] (suc k) none =
    let next : suc k + 1 ≡ suc (k + 1) = omega arith in
    ap (λ n. has_packets (drop n [])) next
without_list (packets ∷ lists) zero none =
    let same = no_first packets none in
    ap (λ (p : List (List ℕ)). has_packets (p ∷ lists)) (sym same)
without_list (packets ∷ lists) (suc k) none =
    let next : suc k + 1 ≡ suc (k + 1) = omega arith in
    ap (λ n. has_packets (drop n (packets ∷ lists))) next ∙ without_list lists k none

pub with_list : (lists : List (List (List ℕ))) (k : ℕ)
    → is_some (slice_get (list_at lists k) 0) ≡ true → has_packets (drop k lists) ≡ true
with_list [] zero some = absurd cc
with_list [] (suc k) some = absurd cc
with_list ([] ∷ lists) zero some = absurd cc
with_list ((first ∷ packets) ∷ lists) zero some = refl
with_list (packets ∷ lists) (suc k) some = with_list lists k some

pub drop_four : (lists : List (List (List ℕ))) (k : ℕ) → length lists ≤ k
    → has_packets (drop k lists) ≡ false
drop_four [] zero few = refl
drop_four [] (suc k) few = refl
drop_four (packets ∷ lists) zero few = absurd (omega (arith, few))
drop_four (packets ∷ lists) (suc k) few = drop_four lists k (omega (arith, few))

-- ---- what an endpoint holds

four_empty : (lanes : ℕ → List Item) → has_packets (lists_in lanes) ≡ false
    → lists_in lanes ≡ [] ∷ [] ∷ [] ∷ [] ∷ []
four_empty lanes none = all_four _ _ _ _ none
  where
    all_four : (a b c d : List (List ℕ)) → has_packets (a ∷ b ∷ c ∷ d ∷ []) ≡ false
        → a ∷ b ∷ c ∷ d ∷ [] ≡ [] ∷ [] ∷ [] ∷ [] ∷ []
    all_four [] [] [] [] none = refl
    all_four (x ∷ a) b c d none = absurd cc
    all_four [] (x ∷ b) c d none = absurd cc
    all_four [] [] (x ∷ c) d none = absurd cc
    all_four [] [] [] (x ∷ d) none = absurd cc

lists_empty : (net : Network) (node : ℕ) → first_held (face_in net (port_of node)) ≡ None
    → has_packets (lists_in (net.received (port_of node))) ≡ false
lists_empty net node none =
    let face = face_in net (port_of node) in
    none_of _ _ _ _ (greatest-none (head_of face) 4 0 none (omega arith))
    (greatest-none (head_of face) 4 1 none (omega arith))
    (greatest-none (head_of face) 4 2 none (omega arith))
    (greatest-none (head_of face) 4 3 none (omega arith))
  where
    none_of : (a b c d : List (List ℕ)) → slice_get a 0 ≡ None → slice_get b 0 ≡ None
        → slice_get c 0 ≡ None → slice_get d 0 ≡ None
        → has_packets (a ∷ b ∷ c ∷ d ∷ []) ≡ false
    none_of [] [] [] [] x y z w = refl
    none_of (p ∷ a) b c d x y z w = absurd cc
    none_of [] (p ∷ b) c d x y z w = absurd cc
    none_of [] [] (p ∷ c) d x y z w = absurd cc
    none_of [] [] [] (p ∷ d) x y z w = absurd cc

none_held : (queued : List (List (List ℕ)))
    → first_held (record { received = [] ∷ [] ∷ [] ∷ [] ∷ []; queued = queued }) ≡ None
unfolding greatest_first
none_held queued = refl

-- an endpoint that holds nothing collects nothing
holds_none : (s : Seen) (node : ℕ) (device : Registers) → holds_some node s ≡ false
    → collected device (face_in s.network (port_of node)) ≡ Collects.Empty
holds_none s node device none =
    let queued = (face_in s.network (port_of node)).queued in
    let lists = four_empty (s.network.received (port_of node)) (lists_held s node ∙ none) in
    let empty : Face = record { received = [] ∷ [] ∷ [] ∷ [] ∷ []; queued = queued } in
    ap (λ (l : List (List (List ℕ))).
    collected device (record { received = l; queued = queued })) lists
    ∙ ap (collected_head device empty) (none_held queued)

-- ---- what is collected, by what the call answers

-- a packet is held: it leaves or is answered, or there is no room for a response
pub collected_step : (s : Seen) (node : ℕ) (block : List TraceLine) (told : Happened)
    → holds_some node s ≡ true → IsCollect s.network node block → told ≡ answer_collected block
    → told ≢ Full → (step : Step) × (block ≡ Stepped step ∷ [])
collected_step s node block told some is answers other =
    by_made (collected is.device (face_in s.network (port_of node))) refl is.lines
  where
    by_made : (made : Collected)
        → collected is.device (face_in s.network (port_of node)) ≡ made
        → block ≡ collect_lines node made → (step : Step) × (block ≡ Stepped step ∷ [])
    by_made (Collects.Left packet) there lines = (AtNode (Leave node packet), lines)
    by_made (Collects.Answered request response) there lines =
        (ByDevice (Answer (port_of node) request response), lines)
    by_made Collects.Empty there lines =
        let none = lists_empty s.network node
        (none_first_held is.device (face_in s.network (port_of node)) there) in
        let held = lists_held s node in absurd (cc (some, none, held))
    by_made Collects.Full there lines = absurd (other (answers ∙ ap answer_collected lines))

-- no room
pub collected_full : (s : Seen) (node : ℕ) (block : List TraceLine) (told : Happened)
    → IsCollect s.network node block → told ≡ answer_collected block → told ≡ Full
    → block ≡ Lacked NoRoom ∷ []
collected_full s node block told is answers full =
    by_made (collected is.device (face_in s.network (port_of node))) is.lines
    (sym full ∙ answers)
  where
    by_made : (made : Collected) → block ≡ collect_lines node made → Full ≡ answer_collected block
        → block ≡ Lacked NoRoom ∷ []
    by_made (Collects.Left packet) lines own =
        let told : Full ≡ Left packet = own ∙ ap answer_collected lines in absurd cc
    by_made (Collects.Answered request response) lines own =
        let told : Full ≡ Answered = own ∙ ap answer_collected lines in absurd cc
    by_made Collects.Empty lines own =
        let told : Full ≡ Empty = own ∙ ap answer_collected lines in absurd cc
    by_made Collects.Full lines own = lines

-- ---- an endpoint stays one

pub endpoint_of : {from : Seen} {lines : List TraceLine} {fabric : Fabric} (n : ℕ)
    → Stands from lines fabric
    → option_map is_switch (slice_get fabric.devices.items n) ≡ Some false
    → IsEndpointAt fabric.devices.items n
endpoint_of n stands kind =
    stands.shows.endpoints n
    (ap (λ (l : List Registers). option_map is_switch (slice_get l n)) stands.shows.registers
    ∙ kind)

pub endpoint_kind : {devices : List Registers} {n : ℕ} → IsEndpointAt devices n
    → option_map is_switch (slice_get devices n) ≡ Some false
endpoint_kind at = ap (option_map is_switch) at.stands ∙ ap Some at.kind

pub endpoint_on : {from : Seen} {lines more : List TraceLine} {old new : Fabric} {n : ℕ}
    → Stands from lines old → Stands from more new → IsEndpointAt old.devices.items n
    → IsEndpointAt new.devices.items n
endpoint_on {from} {lines} {more} {old} {new} {n = n} before after at =
    endpoint_of n after (kinds_stay before after n ∙ endpoint_kind at)

-- how many packets a fabric has at the port of an endpoint
abbrev pub held_at : Fabric → ℕ → ℕ
held_at fabric node =
    held_in (slice_get fabric.ports.items (place_of fabric.firsts.items (port_of node)))

held_is : {fabric : Fabric} {s : Seen} {node : ℕ} → ShowsFabric fabric s
    → IsEndpointAt fabric.devices.items node
    → held_at fabric node ≡ held s.network (port_of node)
held_is {fabric = fabric} {s = s} {node = node} shows at =
    ap held_in (shows.ports (port_of node) (endpoint_port fabric.devices.items node at))
    ∙ held_lanes (s.network.received (port_of node))

pub gathered_fewer : {s : Seen} {old new : Fabric} {node : ℕ} (block : List TraceLine)
    (told : Happened) → IsGood s → ShowsFabric old s → ShowsFabric new (seen s block)
    → IsEndpointAt old.devices.items node → holds_some node s ≡ true
    → IsCollect s.network node block → told ≡ answer_collected block → told ≢ Full
    → held_at new node < held_at old node
gathered_fewer {s = s} {new = new} {node = node} block told good shows later at some is answers
    other =
    let still = later.endpoints node (stays_endpoint s node block is.endpoint) in
    let one = collected_step s node block told some is answers other in
    let fewer = collected_fewer s node one.0 good (subst (IsCollect s.network node) one.1 is) in
    let next = subst (λ (b : List TraceLine). ShowsFabric new (seen s b)) one.1 later in
    let before = held_is shows at in
    let behind = held_is next still in
    omega (arith, fewer, before, behind)

-- ---- steps, of which the last need not be the last of all

-- if the rest of what an endpoint collects stands behind, it is all that it collects
abbrev pub CollectsFirst : ℕ → Kind
CollectsFirst node s block = (rest : List TraceLine) → CollectsAll (seen s block) node rest
    → CollectsAll s node (block ++ rest)

-- one packet was collected
abbrev One : ℕ → Kind
One node s block = IsCollect s.network node block
    × ((step : Step) × (block ≡ Stepped step ∷ []))

first_more : (node : ℕ) (s : Seen) (first second : List TraceLine) → CollectsFirst node s first
    → One node (seen s first) second → CollectsFirst node s (first ++ second)
first_more node s first second own one = λ rest more.
    let t = seen s first in
    let made = one.1 in
    let line = Stepped made.0 in
    let behind : CollectsAll (seen_line t line) node rest =
    subst (λ (b : List TraceLine). CollectsAll (seen t b) node rest) made.1
    (subst (λ (u : Seen). CollectsAll u node rest) (seen-append s first second) more) in
    let goes : CollectsAll t node (second ++ rest) =
    CollectGoes made.0 rest (subst (IsCollect t.network node) made.1 one.0)
    (ap (λ (l : List TraceLine). l ++ rest) made.1) behind in
    subst (CollectsAll s node) (sym (append_assoc first second rest)) (own (second ++ rest) goes)

-- the last line
abbrev Stop : ℕ → Kind
Stop node s block = IsCollect s.network node block × (block ≡ Lacked NoRoom ∷ [])

all_stopped : (node : ℕ) (s : Seen) (first second : List TraceLine) → CollectsFirst node s first
    → Stop node (seen s first) second → CollectsAt node s (first ++ second)
all_stopped node s first second own last =
    own second (CollectStops (subst (IsCollect (seen s first).network node) last.1 last.0)
    last.1)

-- ---- what was written

module _ {K : Type 0} where
  pub gather_begins : (a : TraceWriter K) {from : Seen} {lines : List TraceLine} {fabric : Fabric}
      (node : ℕ) → Stands from lines fabric
      → Ran (CollectsFirst node) a a from lines (Ok fabric)
  gather_begins a {from = from} {lines = lines} node stands =
      ran_as (λ block none. subst (λ (b : List TraceLine). CollectsFirst node (seen from lines) b)
      (sym none) (λ rest own. own)) (ran_nothing a stands)

  pub gather_more : {a b c : TraceWriter K} {from : Seen} {lines : List TraceLine}
      {mid new : Fabric} (node : ℕ) (told : Happened)
      → (first : Ran (CollectsFirst node) a b from lines (Ok mid))
      → holds_some node (seen from (lines ++ first.block)) ≡ true → told ≢ Full
      → Did (λ block. IsCollect (seen from (lines ++ first.block)).network node block
      × (told ≡ answer_collected block)) b c (seen from (lines ++ first.block)) new
      → Ran (CollectsFirst node) a c from lines (Ok new)
  gather_more {b = b} {c = c} {from = from} {lines = lines} {mid = mid} {new = new} node told first
      some other did =
      let s = seen from (lines ++ first.block) in
      let good = good_behind first.ends.1.ready first.ends.1.made in
      ran_joined (λ x y own still one. first_more node (seen from lines) x y own one) first (did_ran
      (One node) first.ends.1 (λ block is. (
        (is.0, collected_step s node block told some is.0 is.1 other),
        collect_lines_made s node block good first.ends.1.sent is.0,
      )) did)

  -- there is no room for a response
  pub gather_stops : {a b c : TraceWriter K} {from : Seen} {lines : List TraceLine}
      {mid new : Fabric} (node : ℕ) (told : Happened)
      → (first : Ran (CollectsFirst node) a b from lines (Ok mid))
      → told ≡ Full
      → Did (λ block. IsCollect (seen from (lines ++ first.block)).network node block
      × (told ≡ answer_collected block)) b c (seen from (lines ++ first.block)) new
      → Ran (CollectsAt node) a c from lines (Ok new)
  gather_stops {b = b} {c = c} {from = from} {lines = lines} {mid = mid} {new = new} node told first
      full did =
      let s = seen from (lines ++ first.block) in
      let good = good_behind first.ends.1.ready first.ends.1.made in
      ran_joined
      (λ x y own still last. all_stopped node (seen from lines) x y own last) first (did_ran
      (Stop node) first.ends.1 (λ block is. (
        (is.0, collected_full s node block told is.0 is.1 full),
        collect_lines_made s node block good first.ends.1.sent is.0,
      )) did)

  -- nothing is held any more
  pub gather_rests : {a b : TraceWriter K} {from : Seen} {lines : List TraceLine} {new : Fabric}
      {node : ℕ} (first : Ran (CollectsFirst node) a b from lines (Ok new))
      → IsEndpointAt new.devices.items node
      → holds_some node (seen from (lines ++ first.block)) ≡ false
      → Ran (CollectsAt node) a b from lines (Ok new)
  gather_rests {from = from} {lines = lines} {node = node} first at none =
      let s = seen from (lines ++ first.block) in
      let endpoint : IsEndpoint s.network node =
      ap (λ (l : List Registers). option_map is_switch (slice_get l node))
      first.ends.1.shows.registers ∙ endpoint_kind at in
      let found = collect_exists s node (ready_on first.ends.1.ready first.ends.1.made) endpoint in
      let is : IsCollect s.network node (Lacked NoPacket ∷ []) =
      subst (λ (c : Collected). IsCollect s.network node (collect_lines node c))
      (holds_none s node found.device none) found.is in
      let rests : CollectsAll s node [] = CollectRests is refl in
      record {
        block = first.block;
        is = subst (CollectsAll (seen from lines) node) (append-nil first.block)
            (first.is []
            (subst (λ (u : Seen). CollectsAll u node []) (seen-append from lines first.block)
            rests));
        ends = first.ends;
      }
