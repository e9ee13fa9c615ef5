-- A switch that makes one step after another.
use Rattle.std.proofs.Common.{◌≡◌, ◌≢◌, ℕ, zero, suc, ◌+◌, ◌<◌, ◌≤◌, Bool, true, false, List, [], ◌∷◌, ◌++◌, length, length-append, Option, Some, None, option_map, slice_get, refl, sym, ap, ◌∙◌, subst, arith, append_assoc, Ok}
use Rattle.std.proofs.lemmas.List.{length-map}
use Rattle.trace_lines.specs.declared.writer.TraceWriter.{TraceWriter}
use Rattle.link_port.specs.Ports.{PortState}
use Rattle.maint_registers.specs.Devices.{Registers}
use Rattle.switch_core.specs.SwitchSteps.{step_of}
use Rattle.switch_core.specs.declared.switch.Step as switch
use Rattle.switch_core.specs.declared.switch.Step.TheVariants.{Moved, Dropped, Answered, Nothing}
use Rattle.fabric_model.specs.Network.{Item, in_turn}
use Rattle.fabric_model.specs.Steps.{DeviceStep, Move, Drop, Answer, ByDevice, after}
use Rattle.fabric_model.proofs.Emptying.{packets_at}
use Rattle.fabric_model.proofs.Nodes.{count_ports, ports_stay}
use Rattle.fabric_trace.specs.Fold.{seen}
use Rattle.fabric_trace.specs.Known.{Seen}
use Rattle.trace_lines.specs.Lines.{NoStep, TraceLine, Stepped, Lacked}
use Rattle.fabric_trace.specs.Parts.{Made, Done}
use Rattle.fabric_trace.specs.Rounds.{ServesAll, ServeRests, ServeGoes}
use Rattle.fabric_trace.specs.Served.{faces_in, step_lines, IsMove}
use Rattle.fabric_trace.specs.Views.{lists_in}
use Rattle.fabric_trace.proofs.Parts.Folding.{seen-append}
use Rattle.fabric_trace.proofs.Parts.Keeping.{IsGood}
use Rattle.fabric_trace.proofs.Rounds.RoundsEnd.{move_empties}
use Rattle.fabric_trace.proofs.Rounds.Running.{move_made}
use Rattle.fabric_ports.specs.Events.{Did, IsSwitchStep}
use Rattle.fabric_ports.specs.Places.{place_of}
use Rattle.fabric_ports.specs.Ran.{Kind, Ran, Serves}
use Rattle.fabric_ports.specs.Showing.{ShowsFabric}
use Rattle.fabric_ports.specs.Standing.{Stands}
use Rattle.fabric_ports.specs.declared.fabric.Fabric.{Fabric}
use Rattle.fabric_ports.proofs.FaceLaws.{port}
use Rattle.fabric_ports.proofs.RanLaws.{Nothing as NoLines, ran_nothing, ran_as, ran_joined}
use Rattle.fabric_ports.proofs.SettlingLaws.{good_behind}
use Rattle.fabric_ports.proofs.StandLaws.{stands_with}

-- ---- how many packets the ports of a node hold

abbrev pub packets_in : List (List (List ℕ)) → ℕ
packets_in [] = 0
packets_in (packets ∷ lists) = length packets + packets_in lists

abbrev pub held_in : Option PortState → ℕ
held_in None = 0
held_in (Some port) = packets_in port.received.lists

abbrev pub held_from : Fabric → ℕ → ℕ → ℕ
held_from fabric node zero = 0
held_from fabric node (suc n) =
    held_in (slice_get fabric.ports.items (place_of fabric.firsts.items (port node n)))
    + held_from fabric node n

abbrev pub ports_in : Option Registers → ℕ
ports_in None = 0
ports_in (Some device) = device.ports

abbrev pub held_by : Fabric → ℕ → ℕ
held_by fabric node = held_from fabric node (ports_in (slice_get fabric.devices.items node))

pub held_lanes : (lanes : ℕ → List Item) → packets_in (lists_in lanes) ≡ length (in_turn lanes)
held_lanes lanes =
    let zeroth = length-map (lanes 0) (λ (item : Item). item.now) in
    let first = length-map (lanes 1) (λ (item : Item). item.now) in
    let second = length-map (lanes 2) (λ (item : Item). item.now) in
    let third = length-map (lanes 3) (λ (item : Item). item.now) in
    let low = length-append (lanes 1) (lanes 0) in
    let mid = length-append (lanes 2) (lanes 1 ++ lanes 0) in
    let high = length-append (lanes 3) (lanes 2 ++ (lanes 1 ++ lanes 0)) in
    omega (arith, zeroth, first, second, third, low, mid, high)

held_is : {fabric : Fabric} {s : Seen} (node n : ℕ) (device : Registers) → ShowsFabric fabric s
    → slice_get fabric.devices.items node ≡ Some device → n ≤ device.ports
    → held_from fabric node n ≡ packets_at s.network.received node n
held_is node zero device shows stands within = refl
held_is {fabric = fabric} {s = s} node (suc n) device shows stands within =
    let below : n < device.ports = omega (arith, within) in
    let here : held_in (slice_get fabric.ports.items (place_of fabric.firsts.items (port node n)))
    ≡ length (in_turn (s.network.received (port node n))) =
    ap held_in (shows.ports (port node n) (rw stands below))
    ∙ held_lanes (s.network.received (port node n)) in
    let rest = held_is node n device shows stands (omega (arith, within)) in
    λ i. here i + rest i

-- ---- how many ports a device has

counted : (o : Option Registers) (n : ℕ) → option_map count_ports o ≡ Some n
    → (device : Registers) × (o ≡ Some device) × (device.ports ≡ n)
counted None n is = absurd cc
counted (Some device) n is = (device, refl, cc)

-- ---- a step leaves fewer

-- the lines of a step that was made
one_step : (node : ℕ) (made : switch.Step) (block : List TraceLine) → block ≡ step_lines node made
    → block ≢ Lacked NoStep ∷ []
    → (step : DeviceStep) × (block ≡ Stepped (ByDevice step) ∷ [])
one_step node (Moved from to packet) block is other =
    (Move (port node from) (port node to) packet, is)
one_step node (Dropped from packet) block is other = (Drop (port node from) packet, is)
one_step node (Answered at request response) block is other =
    (Answer (port node at) request response, is)
one_step node Nothing block is other = absurd (other is)

pub held_fewer : {s : Seen} {old new : Fabric} (node : ℕ) (block : List TraceLine) → IsGood s
    → ShowsFabric old s → ShowsFabric new (seen s block) → IsMove s.network node block
    → block ≢ Lacked NoStep ∷ [] → held_by new node < held_by old node
held_fewer {s = s} {old = old} {new = new} node block good shows later move other =
    let own = one_step node (step_of move.device (faces_in s.network node move.device)) block
    move.lines other in
    let step = own.0 in
    let moved = subst (IsMove s.network node) own.1 move in
    let next = subst (λ (b : List TraceLine). ShowsFabric new (seen s b)) own.1 later in
    let device = moved.device in
    let same : device.ports ≤ device.ports = omega arith in
    let fewer = move_empties s node device.ports step good moved same in
    let here : slice_get old.devices.items node ≡ Some device =
    ap (λ (l : List Registers). slice_get l node) (sym shows.registers) ∙ moved.stands in
    let there = counted (slice_get new.devices.items node) device.ports
    (ap (λ (l : List Registers). option_map count_ports (slice_get l node)) (sym next.registers)
    ∙ ports_stay s.network (ByDevice step) node ∙ ap (option_map count_ports) moved.stands) in
    let before : held_by old node ≡ packets_at s.network.received node device.ports =
    ap (λ (o : Option Registers). held_from old node (ports_in o)) here
    ∙ held_is node device.ports device shows here same in
    let after_it : held_by new node
    ≡ packets_at (after s.network (ByDevice step)).received node device.ports =
    ap (λ (o : Option Registers). held_from new node (ports_in o)) there.1
    ∙ held_is node there.0.ports there.0 next there.1 (omega arith)
    ∙ ap (λ n. packets_at (after s.network (ByDevice step)).received node n) there.2 in
    omega (arith, fewer, before, after_it)

-- ---- steps, of which the last need not be the last of all

-- if the rest of a switch's steps stand behind, they are all its steps
abbrev pub ServesFirst : ℕ → Kind
ServesFirst node s block = (rest : List TraceLine) → ServesAll (seen s block) node rest
    → ServesAll s node (block ++ rest)

-- a step that was made
abbrev pub One : ℕ → Kind
One node s block = IsMove s.network node block × (block ≢ Lacked NoStep ∷ [])

-- no step can be made
abbrev pub Last : ℕ → Kind
Last node s block = IsMove s.network node (Lacked NoStep ∷ []) × (block ≡ [])

first_begins : (node : ℕ) (s : Seen) (block : List TraceLine) → NoLines s block
    → ServesFirst node s block
first_begins node s block none =
    subst (λ (b : List TraceLine). ServesFirst node s b) (sym none) (λ rest own. own)

first_more : (node : ℕ) (s : Seen) (first second : List TraceLine) → ServesFirst node s first
    → One node (seen s first) second → ServesFirst node s (first ++ second)
first_more node s first second own one = λ rest more.
    let t = seen s first in
    let move = one.0 in
    let made = one_step node (step_of move.device (faces_in t.network node move.device)) second
    move.lines one.1 in
    let behind : ServesAll (seen t (Stepped (ByDevice made.0) ∷ [])) node rest =
    subst (λ (b : List TraceLine). ServesAll (seen t b) node rest) made.1
    (subst (λ (u : Seen). ServesAll u node rest) (seen-append s first second) more) in
    let goes : ServesAll t node (second ++ rest) =
    ServeGoes made.0 rest (subst (IsMove t.network node) made.1 move)
    (ap (λ (l : List TraceLine). l ++ rest) made.1) behind in
    subst (ServesAll s node) (sym (append_assoc first second rest)) (own (second ++ rest) goes)

all_served : (node : ℕ) (s : Seen) (first second : List TraceLine) → ServesFirst node s first
    → Last node (seen s first) second → Serves node s (first ++ second)
all_served node s first second own last =
    own second (ServeRests last.0 last.1)

-- ---- what was written

module _ {K : Type 0} where
  pub did_ran : {Is : List TraceLine → Type 0} (Q : Kind) {b c : TraceWriter K} {from : Seen}
      {lines : List TraceLine} {mid new : Fabric} → Stands from lines mid
      → ((block : List TraceLine) → Is block → Q (seen from lines) block
      × Made (seen from lines) block)
      → Did Is b c (seen from lines) new → Ran Q b c from lines (Ok new)
  did_ran Q stands gives did =
      let own = gives did.block did.is in
      record {
        block = did.block;
        is = own.0;
        ends = (did.adds, stands_with stands own.1 did.sent did.shows);
      }

  pub serves_begin : (a : TraceWriter K) {from : Seen} {lines : List TraceLine} {fabric : Fabric}
      (node : ℕ) → Stands from lines fabric → Ran (ServesFirst node) a a from lines (Ok fabric)
  serves_begin a {from = from} {lines = lines} node stands =
      ran_as (λ block none. first_begins node (seen from lines) block none) (ran_nothing a stands)

  pub serves_more : {a b c : TraceWriter K} {from : Seen} {lines : List TraceLine}
      {mid new : Fabric} (node : ℕ) (result : Bool) → result ≡ true
      → (first : Ran (ServesFirst node) a b from lines (Ok mid))
      → Did (IsSwitchStep (seen from (lines ++ first.block)).network node result) b c
      (seen from (lines ++ first.block)) new
      → Ran (ServesFirst node) a c from lines (Ok new)
  serves_more {from = from} {lines = lines} node result told first did =
      let s = seen from (lines ++ first.block) in
      let good = good_behind first.ends.1.ready first.ends.1.made in
      ran_joined (λ x y own still one. first_more node (seen from lines) x y own one) first
      (did_ran (One node) first.ends.1
      (λ block is. (let own = subst (λ r. IsSwitchStep s.network node r block) told is in
      (own, move_made s node block good own.0))) did)

  pub serves_end : {a b c : TraceWriter K} {from : Seen} {lines : List TraceLine} {mid new : Fabric}
      (node : ℕ) (result : Bool) → result ≡ false
      → (first : Ran (ServesFirst node) a b from lines (Ok mid))
      → Did (IsSwitchStep (seen from (lines ++ first.block)).network node result) b c
      (seen from (lines ++ first.block)) new
      → Ran (Serves node) a c from lines (Ok new)
  serves_end {from = from} {lines = lines} node result told first did =
      let s = seen from (lines ++ first.block) in
      ran_joined (λ x y own still last. all_served node (seen from lines) x y own last) first
      (did_ran (Last node) first.ends.1
      (λ block is. (let own = subst (λ r. IsSwitchStep s.network node r block) told is in
      (own, Done own.1))) did)
