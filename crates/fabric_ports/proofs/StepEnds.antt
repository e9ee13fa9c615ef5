-- What a call did that makes a step of a switch, by what it wrote.
use Rattle.std.proofs.Common.{◌≡◌, inl, inr, ℕ, ◌+◌, ◌<◌, ◌≤◌, Bool, true, false, List, [], ◌∷◌, length, slice_get, slice_set, slice_index_or, Option, Some, None, is_some, refl, sym, ap, ◌∙◌, subst, arith}
use Rattle.std.proofs.lemmas.List.{length-map}
use Rattle.std.proofs.lemmas.Option.{slice_get_within}
use Rattle.trace_lines.specs.Writing.{Adds}
use Rattle.trace_lines.specs.declared.writer.TraceWriter.{TraceWriter}
use Rattle.trace_lines.specs.AddsLaws.{Adds-nil, Adds-then}
use Rattle.link_port.specs.Ports.{PortState}
use Rattle.maint_registers.specs.Devices.{Registers, is_switch}
use Rattle.switch_core.specs.Goings.{going_of, Goes}
use Rattle.switch_core.specs.declared.going.Going.{Going}
use Rattle.switch_core.specs.SwitchSteps.{step_of}
use Rattle.switch_core.specs.declared.switch.Step as switch
use Rattle.switch_core.specs.declared.switch.Step.TheVariants.{Moved, Dropped, Answered, Nothing}
use Rattle.fabric_model.specs.Laws.Priorities.{ByPriority}
use Rattle.fabric_model.specs.Network.{Network}
use Rattle.fabric_trace.specs.Fold.{seen}
use Rattle.fabric_trace.specs.Known.{Seen}
use Rattle.trace_lines.specs.Lines.{TraceLine, NoStep, Lacked}
use Rattle.fabric_trace.specs.Served.{step_lines, IsMove}
use Rattle.fabric_ports.specs.Events.{Did, IsSwitchStep}
use Rattle.fabric_ports.specs.Idling.{IsMarkedAt, Wakes, HasNumber, IsPassedAt}
use Rattle.fabric_ports.specs.Showing.{ShowsFabric}
use Rattle.fabric_ports.specs.Switching.{faces_at, own_ports, AreForms, MadeStep, Wrote, is_step, written_lines}
use Rattle.fabric_ports.specs.declared.fabric.Fabric.{Fabric}
use Rattle.fabric_ports.specs.declared.idle.Idle.{Idle}
use Rattle.fabric_ports.proofs.FaceLaws.{face_of_port}
use Rattle.fabric_ports.proofs.NodeLaws.{with_ports}
use Rattle.fabric_ports.proofs.RowLaws.{first_read, row_within, own-length}
use Rattle.fabric_ports.proofs.Rows.{as_many_firsts}
use Rattle.fabric_ports.proofs.StepLaws.{ports_are, IdleSteps, HasStepped, is_move, shows_later}
use Rattle.fabric_ports.proofs.StepNets.{seen_after}

is_step_by : (net : Network) (node : ℕ) (step : switch.Step)
    → ((block : List TraceLine) → block ≡ step_lines node step → IsMove net node block)
    → IsSwitchStep net node (is_step step) (written_lines node step)
is_step_by net node (Moved from to packet) move = (move _ refl, λ same. absurd cc)
is_step_by net node (Dropped from packet) move = (move _ refl, λ same. absurd cc)
is_step_by net node (Answered at request response) move = (move _ refl, λ same. absurd cc)
is_step_by net node Nothing move = (move _ refl, refl)

pub did_step : {K : Type 0} {b b2 : TraceWriter K} {s : Seen} {old : Fabric} (new : Fabric)
    (node first : ℕ)
    (device next : Registers) (step : switch.Step) {result : Bool}
    → ShowsFabric old s → s.undetected ≡ None → ByPriority s.network → is_switch device ≡ true
    → HasStepped old new node first device next step → AreForms step → result ≡ is_step step
    → Adds b b2 (written_lines node step)
    → Did (IsSwitchStep s.network node result) b b2 s new
did_step {s = s} {old = old} new node first device next step shows sent by switches has forms told
    adds =
    let seen_is = seen_after s node step in
    record {
      block = written_lines node step;
      adds = adds;
      is = subst (λ r. IsSwitchStep s.network node r (written_lines node step)) (sym told)
          (is_step_by s.network node step
          (is_move s old new node first device next step shows by switches has forms));
      sent = ap (λ (u : Seen). u.undetected) seen_is ∙ sent;
      shows = subst (ShowsFabric new) (sym seen_is)
          (shows_later s old new node first device next step shows by switches has forms);
    }

-- a switch that is marked was passed by
pub did_rest : {K : Type 0} (writer : TraceWriter K) {s : Seen} {fabric : Fabric} (node : ℕ)
    → ShowsFabric fabric s → s.undetected ≡ None → IsMarkedAt fabric.idle.switches.items node
    → Did (IsSwitchStep s.network node false) writer writer s fabric
did_rest writer node shows sent marked = record {
  block = [];
  adds = Adds-nil writer;
  is = (shows.idle.switches node marked, refl);
  sent = sent;
  shows = shows;
}

-- no step was made, and that is written
pub did_none : {K : Type 0} {b b2 b3 : TraceWriter K} {s : Seen} {new : Fabric} (node : ℕ)
    {result : Bool} → Did (IsSwitchStep s.network node result) b b2 s new → result ≡ false
    → Adds b2 b3 (Lacked NoStep ∷ [])
    → Did (IsMove s.network node) b b3 s new
did_none {b = b} {b2 = b2} {s = s} {new = new} node did told adds =
    let is = subst (λ r. IsSwitchStep s.network node r did.block) told did.is in
    record {
      block = Lacked NoStep ∷ [];
      adds = Adds-then (subst (λ l. Adds b b2 l) is.1 did.adds) adds;
      is = is.0;
      sent = subst (λ l. (seen s l).undetected ≡ None) is.1 did.sent;
      shows = subst (λ l. ShowsFabric new (seen s l)) is.1 did.shows;
    }

-- where the row of a switch's ports begins, by the place that was read, and that it ends within the
-- list
pub row_read : {fabric : Fabric} {s : Seen} {node place first : ℕ} {device : Registers}
    → ShowsFabric fabric s → slice_get fabric.devices.items node ≡ Some device → place ≡ node
    → first ≡ slice_index_or fabric.firsts.items place first
    → (first ≡ slice_index_or fabric.firsts.items node 0)
    × (first + device.ports ≤ length fabric.ports.items)
row_read {fabric = fabric} {node = node} {first = first} {device = device} shows stands here value =
    let at = slice_get_within fabric.devices.items node device stands in
    let many = as_many_firsts 0 fabric.devices.items fabric.firsts.items shows.firsts in
    let is : first ≡ slice_index_or fabric.firsts.items node 0 =
    first_read fabric.firsts.items (omega (arith, at, many)) here value in
    let row = row_within 0 fabric.devices.items fabric.firsts.items node shows.firsts stands in
    let count = shows.count in
    (is, omega (arith, is, row, count))

-- the links of the ports that a packet passed were woken, by numbers that were read
pub woke_passed : (fabric : Fabric) (first : ℕ) (going : Going) {numbers : List ℕ} (idle : Idle)
    → numbers ≡ fabric.cable_at.items
    → Wakes (HasNumber numbers (IsPassedAt first going)) (λ n. ⊥) fabric.idle idle
    → Wakes (HasNumber fabric.cable_at.items (IsPassedAt first going)) (λ n. ⊥) fabric.idle idle
woke_passed fabric first going idle same woke =
    subst (λ l. Wakes (HasNumber l (IsPassedAt first going)) (λ n. ⊥) fabric.idle idle) same woke

-- a port that a packet passes is one of its switch
pub passed_within : (fabric : Fabric) (first : ℕ) {device : Registers} {lent : List PortState}
    {going : Going} → first + device.ports ≤ length fabric.ports.items
    → lent ≡ fabric.ports.items → Goes device (faces_at (own_ports lent first device.ports)) going
    → (place : ℕ) → IsPassedAt first going place → place < first + device.ports
passed_within fabric first {device = device} {lent = lent} {going = going} within same goes place
    passed =
    let own = own_ports lent first device.ports in
    let long : length (faces_at own) ≡ device.ports =
    length-map own face_of_port ∙ own-length lent first device.ports
    (subst (λ (l : List PortState). first + device.ports ≤ length l) (sym same) within) in
    let here = passed.2 in
    elim passed.1 [
      | inl from ↦ let below = goes.stands.port in omega (arith, long, here, from, below)
      | inr to ↦ let below = goes.stands.to passed.0 to in omega (arith, long, here, below)
    ]

-- the ports of a switch were lent, and what was found to have nothing to do is noted
pub did_switch : {K : Type 0} {a b : TraceWriter K} {s : Seen} {old : Fabric} (node : ℕ)
    {place first : ℕ} {device next : Registers} {lent ports : List PortState}
    {result : Option Going} (told : Option Going)
    (idle : Idle) → ShowsFabric old s → s.undetected ≡ None → ByPriority s.network
    → is_switch device ≡ true → slice_get old.devices.items node ≡ Some device → place ≡ node
    → first ≡ slice_index_or old.firsts.items node 0
    → first + device.ports ≤ length old.ports.items → lent ≡ old.ports.items
    → MadeStep first device next lent ports
    (step_of device (faces_at (own_ports lent first device.ports)))
    → result ≡ going_of (step_of device (faces_at (own_ports lent first device.ports)))
    → Wrote node (step_of device (faces_at (own_ports lent first device.ports))) a b
    (is_some result)
    → result ≡ told → IdleSteps old node first idle told
    → Did (IsSwitchStep s.network node (is_some told)) a b s (with_ports old place next ports idle)
did_switch {a = a} {b = b} {s = s} {old = old} node {place = place} {first = first}
    {device = device} {next = next} {ports = ports} {result = result} told idle shows sent
    by switches stands here at within same lent_made lent_going lent_wrote answer marks =
    let step = step_of device (faces_at (own_ports old.ports.items first device.ports)) in
    let made = subst
    (λ (l : List PortState). MadeStep first device next l ports
    (step_of device (faces_at (own_ports l first device.ports)))) same lent_made in
    let going = subst (λ (l : List PortState). result ≡ going_of
    (step_of device (faces_at (own_ports l first device.ports)))) same lent_going in
    let wrote = subst (λ r. Wrote node step a b (is_some r)) answer (subst
    (λ (l : List PortState). Wrote node
    (step_of device (faces_at (own_ports l first device.ports))) a b (is_some result)) same
    lent_wrote) in
    did_step (with_ports old place next ports idle) node first device next step shows sent by
    switches (record {
      stands = stands;
      place = at;
      made = subst (λ (l : List PortState). MadeStep first device next old.ports.items l step)
          (sym (ports_are old within made)) made;
      devices = ap (λ n. slice_set old.devices.items n next) here;
      firsts = refl;
      cables = refl;
      cable_at = refl;
      idle = subst (IdleSteps old node first idle) (sym answer ∙ going) marks;
    })
    wrote.forms wrote.is wrote.adds
