-- What the lines make of a plan that say what one port gets.
use Rattle.std.proofs.Common.{◌≡◌, ℕ, Bool, true, false, ◌||◌, List, Some, get_or, set, refl, sym, ap, ◌∙◌, subst, arith, if◌then◌else◌}
use Rattle.std.specs.List.{slice_get}
use Rattle.std.proofs.lemmas.Bool.{true≢false, false_from_ne_true}
use Rattle.std.proofs.lemmas.List.{length-set}
use Rattle.std.proofs.lemmas.List.Elements.{All-set}
use Rattle.link_sound.specs.Histories.{AreBuffers}
use Rattle.maint_registers.specs.Devices.{Registers}
use Rattle.fabric_script.specs.declared.ports.PortRef.{PortRef}
use Rattle.fabric_script.specs.declared.lines.Line.TheVariants.{Buffers, Credits}
use Rattle.fabric_model.specs.Network.{Network, same_port}
use Rattle.fabric_model.proofs.Peers.{port_is, same_port-refl}
use Rattle.fabric_trace.specs.Runs.{set_up}
use Rattle.fabric_ports.specs.Places.{IsPortOf, place_of}
use Rattle.fabric_ports.specs.Plans.{HasBuffers, PlansFor, plain_port, port_plan, with_plan}
use Rattle.fabric_ports.specs.declared.fabric.Cable.{Cable}
use Rattle.fabric_ports.specs.declared.plans.Plan.{Plan}
use Rattle.fabric_ports.specs.declared.plans.PortPlan.{PortPlan}
use Rattle.fabric_ports.proofs.PlaceLaws.{same_place}
use Rattle.fabric_ports.proofs.Rows.{get-set, get-set_other, get_or-found, found_has, placed}
use Rattle.fabric_ports.proofs.PlanLaws.{Lists, lists_of, plan_of, lists_same}

-- ---- one port

-- a network with another plan of one port, and the rest as it was
record ChangesPort (net next : Network) (port : PortRef) (change : PortPlan → PortPlan) : Type 0
  where
    links : next.links ≡ net.links
    registers : next.registers ≡ net.registers
    plans : (p : PortRef) → port_plan next p
        ≡ (if same_port p port then change (port_plan net p) else port_plan net p)

port_here : (devices : List Registers) (firsts : List ℕ) (ports : List PortPlan)
    (cables : List Cable) (net : Network) (port : PortRef) (change : PortPlan → PortPlan)
    → IsPortOf devices port → Lists devices firsts ports cables net → (p : PortRef)
    → IsPortOf devices p
    → slice_get (with_plan ports (place_of firsts port) change) (place_of firsts p) ≡ Some
    (if same_port p port then change (port_plan net p) else port_plan net p)
port_here devices firsts ports cables net port change is l p is_p =
    let at = placed devices firsts port l.rows is in
    let within = at.within in
    let all = l.count in
    let place = place_of firsts port in
    let value = change (get_or ports place plain_port) in
    let old = get_or-found ports place plain_port (port_plan net port) (l.here port is) in
    elim (same_port p port) as (λ s. same_port p port ≡ s
    → slice_get (set ports place value) (place_of firsts p) ≡ Some
    (if s then change (port_plan net p) else port_plan net p)) [
      | true ↦ λ same.
          ap (λ q. slice_get (set ports place value) (place_of firsts q)) (port_is p port same)
          ∙ get-set ports place value (omega arith)
          ∙ ap (λ x. Some (change x)) (old ∙ ap (port_plan net) (sym (port_is p port same)))
      | false ↦ λ apart.
          get-set_other ports place (place_of firsts p) value
          (λ e. true≢false
          (sym (ap (λ q. same_port q port)
          (same_place devices firsts p port l.rows is_p is (sym e)) ∙ same_port-refl port)
          ∙ apart))
          ∙ l.here p is_p
    ] refl

port_lists : (devices : List Registers) (firsts : List ℕ) (ports : List PortPlan)
    (cables : List Cable) (net next : Network) (port : PortRef) (change : PortPlan → PortPlan)
    → IsPortOf devices port → ChangesPort net next port change
    → HasBuffers (change (port_plan net port))
    → Lists devices firsts ports cables net
    → Lists devices firsts (with_plan ports (place_of firsts port) change) cables next
port_lists devices firsts ports cables net next port change is changes few l =
    let place = place_of firsts port in
    let old = get_or-found ports place plain_port (port_plan net port) (l.here port is) in
    record {
      rows = l.rows;
      have_ports = l.have_ports;
      count = length-set ports place _ ∙ l.count;
      few = All-set HasBuffers ports place _
          (subst (λ x. HasBuffers (change x)) (sym old) few) l.few;
      here = λ p is_p. port_here devices firsts ports cables net port change is l p is_p
          ∙ ap Some (sym (changes.plans p));
      elsewhere = λ p not.
          let apart = false_from_ne_true (same_port p port)
          (λ same. not (subst (IsPortOf devices) (sym (port_is p port same)) is)) in
          changes.plans p
          ∙ ap (λ s. if s then change (port_plan net p) else port_plan net p) apart
          ∙ l.elsewhere p not;
      new = l.new;
      links = l.links ∙ sym changes.links;
      registers = changes.registers ∙ l.registers;
    }

plan-port : (old new : Plan) (net next : Network) (port : PortRef)
    (change : PortPlan → PortPlan) → IsPortOf old.devices.items port
    → ChangesPort net next port change → HasBuffers (change (port_plan net port))
    → new.devices.items ≡ old.devices.items → new.firsts.items ≡ old.firsts.items
    → new.ports.items ≡ with_plan old.ports.items (place_of old.firsts.items port) change
    → new.cables.items ≡ old.cables.items → PlansFor old net → PlansFor new next
plan-port old new net next port change is changes few d f b c plans =
    plan_of new next
    (lists_same old.devices.items new.devices.items old.firsts.items new.firsts.items
    (with_plan old.ports.items (place_of old.firsts.items port) change) new.ports.items
    old.cables.items new.cables.items next d f b c
    (port_lists old.devices.items old.firsts.items old.ports.items old.cables.items net next port
    change is changes few (lists_of old net plans)))

-- ---- the buffers of a port, and whether it tells

abbrev planned : ℕ → Bool → PortPlan
planned n tells = record { buffers = n; tells = tells }

buffers_plan : (same : Bool) (n m : ℕ) (tells : Bool)
    → planned (if same then n else m) tells ≡ (if same then planned n tells else planned m tells)
buffers_plan true n m tells = refl
buffers_plan false n m tells = refl

pub plan-buffers : (old new : Plan) (net : Network) (port : PortRef) (n : ℕ)
    → IsPortOf old.devices.items port → AreBuffers n → new.devices.items ≡ old.devices.items
    → new.firsts.items ≡ old.firsts.items
    → new.ports.items ≡ with_plan old.ports.items (place_of old.firsts.items port)
    (λ plan. record plan { buffers = n })
    → new.cables.items ≡ old.cables.items → PlansFor old net
    → PlansFor new (set_up net (Buffers port n))
plan-buffers old new net port n is few d f b c plans =
    plan-port old new net (set_up net (Buffers port n)) port (λ plan. record plan { buffers = n })
    is (record {
      links = refl;
      registers = refl;
      plans = λ p. buffers_plan (same_port p port) n (net.buffers p) (net.tells p);
    }) few d f b c plans

tells_plan : (same : Bool) (n : ℕ) (tells : Bool)
    → planned n (same || tells) ≡ (if same then planned n true else planned n tells)
tells_plan true n tells = refl
tells_plan false n tells = refl

pub plan-telling : (old new : Plan) (net : Network) (port : PortRef)
    → IsPortOf old.devices.items port → new.devices.items ≡ old.devices.items
    → new.firsts.items ≡ old.firsts.items
    → new.ports.items ≡ with_plan old.ports.items (place_of old.firsts.items port)
    (λ plan. record plan { tells = true })
    → new.cables.items ≡ old.cables.items → PlansFor old net
    → PlansFor new (set_up net (Credits port))
plan-telling old new net port is d f b c plans =
    let l = lists_of old net plans in
    let few = found_has HasBuffers old.ports.items (place_of old.firsts.items port)
    (port_plan net port) l.few (l.here port is) in
    plan-port old new net (set_up net (Credits port)) port (λ plan. record plan { tells = true })
    is (record {
      links = refl;
      registers = refl;
      plans = λ p. tells_plan (same_port p port) (net.buffers p) (net.tells p);
    }) few d f b c plans
