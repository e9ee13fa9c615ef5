-- What lines of set-up make of a plan.
use Rattle.std.proofs.Common.{◌≡◌, ℕ, zero, suc, ◌+◌, ◌<◌, List, [], ◌∷◌, ◌++◌, All, Some, Result, Ok, Err, IfOk, map, get_or, replicate, length, length-append, refl, sym, ap, ◌∙◌, subst, arith, inl, inr}
use Rattle.std.specs.List.{slice_get}
use Rattle.std.proofs.lemmas.List.{map-append, length-replicate}
use Rattle.std.proofs.lemmas.List.Elements.{All-nil, All-push, All-append, All-replicate, All-weaker}
use Rattle.std.proofs.Math.Seq.{get_or-append_seam}
use Rattle.link_machine.specs.States.{empty_wires}
use Rattle.maint_registers.specs.Devices.{Registers, with_link}
use Rattle.fabric_script.specs.declared.ports.PortRef.{PortRef}
use Rattle.fabric_script.specs.declared.lines.Line.TheVariants.{Link}
use Rattle.fabric_model.specs.Network.{Network, with_device}
use Rattle.fabric_trace.specs.Events.{IsNodePort}
use Rattle.fabric_trace.specs.Runs.{bare, set_up}
use Rattle.fabric_trace.specs.Settings.{with_node, with_change, with_end}
use Rattle.fabric_ports.specs.Places.{AreFirsts, port_count, HasPort, IsPortOf, place_of}
use Rattle.fabric_ports.specs.Showing.{ends_of, AreRegisters}
use Rattle.fabric_ports.specs.Plans.{counts_of, HasPorts, HasBuffers, IsNewCable, PlansFor, plain_port, port_plan, with_end_at}
use Rattle.fabric_ports.specs.declared.fabric.Cable.{Cable}
use Rattle.fabric_ports.specs.declared.plans.Plan.{Plan}
use Rattle.fabric_ports.specs.declared.plans.PortPlan.{PortPlan}
use Rattle.fabric_ports.proofs.Changes.{KeepsPorts, counts-change, firsts-change, count-change, have_ports-change, port-change, port-unchange}
use Rattle.fabric_ports.proofs.Rows.{get-append, get-behind, placed, count-append, firsts-append, as_many_firsts, place_stays, port_stays, old_or_new}

-- ---- the lists of a plan

-- what a plan is for, by its lists
pub record Lists (devices : List Registers) (firsts : List ℕ) (ports : List PortPlan)
    (cables : List Cable) (net : Network) : Type 0 where
  pub rows : AreFirsts 0 devices firsts
  pub have_ports : All HasPorts devices
  pub count : length ports ≡ port_count devices
  pub few : All HasBuffers ports
  pub here : (p : PortRef) → IsPortOf devices p
      → slice_get ports (place_of firsts p) ≡ Some (port_plan net p)
  pub elsewhere : (p : PortRef) → ¬ IsPortOf devices p → port_plan net p ≡ plain_port
  pub new : All (IsNewCable devices) cables
  pub links : map ends_of cables ≡ net.links
  pub registers : AreRegisters net devices

pub lists_of : (plan : Plan) (net : Network) → PlansFor plan net
    → Lists plan.devices.items plan.firsts.items plan.ports.items plan.cables.items net
lists_of plan net is = record {
  rows = is.whole.firsts;
  have_ports = is.whole.have_ports;
  count = is.whole.count;
  few = is.whole.few;
  here = is.ports;
  elsewhere = is.other_ports;
  new = is.cables;
  links = is.links;
  registers = is.registers;
}

pub plan_of : (plan : Plan) (net : Network)
    → Lists plan.devices.items plan.firsts.items plan.ports.items plan.cables.items net
    → PlansFor plan net
plan_of plan net l = record {
  whole = record { firsts = l.rows; have_ports = l.have_ports; count = l.count; few = l.few };
  ports = l.here;
  other_ports = l.elsewhere;
  cables = l.new;
  links = l.links;
  registers = l.registers;
}

pub lists_same : (devices devices2 : List Registers) (firsts firsts2 : List ℕ)
    (ports ports2 : List PortPlan)
    (cables cables2 : List Cable) (net : Network) → devices2 ≡ devices → firsts2 ≡ firsts
    → ports2 ≡ ports → cables2 ≡ cables → Lists devices firsts ports cables net
    → Lists devices2 firsts2 ports2 cables2 net
lists_same devices devices2 firsts firsts2 ports ports2 cables cables2 net d f b c l =
    subst (λ x. Lists x firsts2 ports2 cables2 net) (sym d)
    (subst (λ x. Lists devices x ports2 cables2 net) (sym f)
    (subst (λ x. Lists devices firsts x cables2 net) (sym b)
    (subst (λ x. Lists devices firsts ports x net) (sym c) l)))

pub plan_bare : (plan : Plan) → plan.devices.items ≡ [] → plan.firsts.items ≡ []
    → plan.ports.items ≡ [] → plan.cables.items ≡ [] → PlansFor plan bare
plan_bare plan d f b c =
    plan_of plan bare
    (lists_same [] plan.devices.items [] plan.firsts.items [] plan.ports.items []
    plan.cables.items bare d f b c (record {
      rows = tt;
      have_ports = All-nil HasPorts;
      count = refl;
      few = All-nil HasBuffers;
      here = λ p is. absurd is;
      elsewhere = λ p not. refl;
      new = All-nil (IsNewCable []);
      links = refl;
      registers = refl;
    }))

-- ---- a device

device_here : (devices : List Registers) (firsts : List ℕ) (ports : List PortPlan)
    (cables : List Cable) (net : Network) (device : Registers)
    → Lists devices firsts ports cables net → (p : PortRef) → IsPortOf (devices ++ device ∷ []) p
    → slice_get (ports ++ replicate device.ports plain_port)
    (place_of (firsts ++ length ports ∷ []) p) ≡ Some (port_plan net p)
device_here devices firsts ports cables net device l p is =
    elim (old_or_new devices device p is) [
      | inl old ↦
          let at = placed devices firsts p l.rows old in
          let within = at.within in
          let all = l.count in
          ap (slice_get (ports ++ replicate device.ports plain_port))
          (place_stays firsts (length ports ∷ []) p at.known)
          ∙ get-append ports (replicate device.ports plain_port) (place_of firsts p) (omega arith)
          ∙ l.here p old
      | inr last ↦
          let node = last.0 in
          let port = last.1 in
          let many = as_many_firsts 0 devices firsts l.rows in
          let first : get_or (firsts ++ length ports ∷ []) p.node 0 ≡ length ports =
          ap (λ n. get_or (firsts ++ length ports ∷ []) n 0) (node ∙ sym many)
          ∙ get_or-append_seam firsts (length ports) [] 0 in
          let place : place_of (firsts ++ length ports ∷ []) p ≡ length ports + p.port =
          ap (λ n. n + p.port) first in
          get-behind ports device.ports p.port plain_port (place_of (firsts ++ length ports ∷ []) p)
          port place
          ∙ ap Some (sym
          (l.elsewhere p (λ old. let at = (placed devices firsts p l.rows old).device in
          omega arith)))
    ]

device_lists : (devices : List Registers) (firsts : List ℕ) (ports : List PortPlan)
    (cables : List Cable) (net : Network) (device : Registers) → HasPorts device
    → Lists devices firsts ports cables net
    → Lists (devices ++ device ∷ []) (firsts ++ length ports ∷ [])
    (ports ++ replicate device.ports plain_port) cables (with_node net device)
device_lists devices firsts ports cables net device has l =
    let all = l.count in
    record {
      rows = subst (λ n. AreFirsts 0 (devices ++ device ∷ []) (firsts ++ n ∷ [])) (sym all)
          (firsts-append devices firsts device l.rows);
      have_ports = All-push HasPorts devices device l.have_ports has;
      count = length-append ports (replicate device.ports plain_port)
          ∙ ap (λ n. length ports + n) (length-replicate device.ports plain_port)
          ∙ ap (λ n. n + device.ports) all ∙ sym (count-append devices device);
      few = All-append HasBuffers ports (replicate device.ports plain_port) l.few
          (All-replicate HasBuffers device.ports plain_port (omega arith, omega arith));
      here = device_here devices firsts ports cables net device l;
      elsewhere = λ p not. l.elsewhere p (λ old. not (port_stays devices (device ∷ []) p old));
      new = All-weaker (IsNewCable devices) (IsNewCable (devices ++ device ∷ []))
          (λ cable is. record {
            port_a = port_stays devices (device ∷ []) cable.a is.port_a;
            port_b = port_stays devices (device ∷ []) cable.b is.port_b;
            wires = is.wires;
          })
          cables l.new;
      links = l.links;
      registers = ap (λ x. x ++ device ∷ []) l.registers;
    }

pub plan-device : (old new : Plan) (net : Network) (device : Registers) → HasPorts device
    → new.devices.items ≡ old.devices.items ++ device ∷ []
    → new.firsts.items ≡ old.firsts.items ++ length old.ports.items ∷ []
    → new.ports.items ≡ old.ports.items ++ replicate device.ports plain_port
    → new.cables.items ≡ old.cables.items
    → PlansFor old net → PlansFor new (with_node net device)
plan-device old new net device has d f b c is =
    plan_of new (with_node net device)
    (lists_same (old.devices.items ++ device ∷ []) new.devices.items
    (old.firsts.items ++ length old.ports.items ∷ []) new.firsts.items
    (old.ports.items ++ replicate device.ports plain_port) new.ports.items
    old.cables.items new.cables.items (with_node net device) d f b c
    (device_lists old.devices.items old.firsts.items old.ports.items old.cables.items net device
    has (lists_of old net is)))

pub counts-device : (devices new : List Registers) (device : Registers) (ports : ℕ)
    → new ≡ devices ++ device ∷ [] → device.ports ≡ ports
    → counts_of new ≡ counts_of devices ++ ports ∷ []
counts-device devices new device ports is same =
    ap counts_of is ∙ map-append (λ (device : Registers). device.ports) devices (device ∷ [])
    ∙ ap (λ n. counts_of devices ++ n ∷ []) same

-- ---- a device that changes

change_lists : (devices : List Registers) (firsts : List ℕ) (ports : List PortPlan)
    (cables : List Cable) (net : Network) (n : ℕ) (change : Registers → Registers)
    → KeepsPorts change
    → Lists devices firsts ports cables net
    → Lists (with_device devices n change) firsts ports cables (with_change net n change)
change_lists devices firsts ports cables net n change same l = record {
  rows = firsts-change 0 devices firsts n change same l.rows;
  have_ports = have_ports-change devices n change same l.have_ports;
  count = l.count ∙ sym (count-change devices n change same);
  few = l.few;
  here = λ p is. l.here p (port-unchange devices n change same p.node p.port is);
  elsewhere = λ p not.
      l.elsewhere p (λ old. not (port-change devices n change same p.node p.port old));
  new = All-weaker (IsNewCable devices) (IsNewCable (with_device devices n change))
      (λ cable is. record {
        port_a = port-change devices n change same cable.a.node cable.a.port is.port_a;
        port_b = port-change devices n change same cable.b.node cable.b.port is.port_b;
        wires = is.wires;
      })
      cables l.new;
  links = l.links;
  registers = ap (λ x. with_device x n change) l.registers;
}

pub plan-change : (old new : Plan) (net : Network) (n : ℕ) (change : Registers → Registers)
    → KeepsPorts change → new.devices.items ≡ with_device old.devices.items n change
    → new.firsts.items ≡ old.firsts.items → new.ports.items ≡ old.ports.items
    → new.cables.items ≡ old.cables.items
    → PlansFor old net → PlansFor new (with_change net n change)
plan-change old new net n change same d f b c is =
    plan_of new (with_change net n change)
    (lists_same (with_device old.devices.items n change) new.devices.items
    old.firsts.items new.firsts.items old.ports.items new.ports.items
    old.cables.items new.cables.items (with_change net n change) d f b c
    (change_lists old.devices.items old.firsts.items old.ports.items old.cables.items net n change
    same (lists_of old net is)))

-- ---- a link

-- a device knows that this port has a link; it has as many ports
abbrev pub linked_at : ℕ → Registers → Registers
linked_at port device = record device { linked = with_link device.linked port }

keeps_ports : (port : ℕ) → KeepsPorts (linked_at port)
keeps_ports port = λ device. refl

cable_lists : (devices : List Registers) (firsts : List ℕ) (ports : List PortPlan)
    (cables : List Cable) (net : Network) (a b : PortRef) → IsPortOf devices a → IsPortOf devices b
    → Lists devices firsts ports cables net
    → Lists devices firsts ports (cables ++ record { a = a; b = b; link = empty_wires } ∷ [])
    (record net { links = net.links ++ (a, b) ∷ [] })
cable_lists devices firsts ports cables net a b is_a is_b l = record {
  rows = l.rows;
  have_ports = l.have_ports;
  count = l.count;
  few = l.few;
  here = l.here;
  elsewhere = l.elsewhere;
  new = All-push (IsNewCable devices) cables (record { a = a; b = b; link = empty_wires }) l.new
      (record { port_a = is_a; port_b = is_b; wires = refl });
  links = map-append ends_of cables (record { a = a; b = b; link = empty_wires } ∷ [])
      ∙ ap (λ links. links ++ (a, b) ∷ []) l.links;
  registers = l.registers;
}

-- the port of a device that knows of a link is one as before
pub told_port : (devices : List Registers) (told p : PortRef) → IsPortOf devices p
    → IsPortOf (with_end_at devices told) p
told_port devices told p is =
    port-change devices told.node (linked_at told.port) (keeps_ports told.port) p.node p.port is

end_lists : (devices : List Registers) (firsts : List ℕ) (ports : List PortPlan)
    (cables : List Cable) (net : Network) (p : PortRef) → Lists devices firsts ports cables net
    → Lists (with_end_at devices p) firsts ports cables (with_end net p)
end_lists devices firsts ports cables net p l =
    change_lists devices firsts ports cables net p.node (linked_at p.port) (keeps_ports p.port) l

link_lists : (devices : List Registers) (firsts : List ℕ) (ports : List PortPlan)
    (cables : List Cable) (net : Network) (a b : PortRef) → IsPortOf devices a → IsPortOf devices b
    → Lists devices firsts ports cables net
    → Lists (with_end_at (with_end_at devices a) b) firsts ports
    (cables ++ record { a = a; b = b; link = empty_wires } ∷ []) (set_up net (Link a b))
link_lists devices firsts ports cables net a b is_a is_b l =
    cable_lists (with_end_at (with_end_at devices a) b) firsts ports cables
    (with_end (with_end net a) b) a b
    (told_port (with_end_at devices a) b a (told_port devices a a is_a))
    (told_port (with_end_at devices a) b b (told_port devices a b is_b))
    (end_lists (with_end_at devices a) firsts ports cables (with_end net a) b
    (end_lists devices firsts ports cables net a l))

pub plan-link : (old new : Plan) (net : Network) (a b : PortRef) → IsPortOf old.devices.items a
    → IsPortOf old.devices.items b
    → new.devices.items ≡ with_end_at (with_end_at old.devices.items a) b
    → new.firsts.items ≡ old.firsts.items → new.ports.items ≡ old.ports.items
    → new.cables.items ≡ old.cables.items ++ record { a = a; b = b; link = empty_wires } ∷ []
    → PlansFor old net → PlansFor new (set_up net (Link a b))
plan-link old new net a b is_a is_b d f bu c is =
    plan_of new (set_up net (Link a b))
    (lists_same (with_end_at (with_end_at old.devices.items a) b) new.devices.items
    old.firsts.items new.firsts.items old.ports.items new.ports.items
    (old.cables.items ++ record { a = a; b = b; link = empty_wires } ∷ []) new.cables.items
    (set_up net (Link a b)) d f bu c
    (link_lists old.devices.items old.firsts.items old.ports.items old.cables.items net a b is_a
    is_b (lists_of old net is)))

-- so each device has as many ports as before
pub counts-end : (devices : List Registers) (p : PortRef)
    → counts_of (with_end_at devices p) ≡ counts_of devices
counts-end devices p =
    counts-change devices p.node (linked_at p.port) (keeps_ports p.port)

-- ---- ports by their counts

pub port_by_count : (devices : List Registers) (p : PortRef) → IsNodePort (counts_of devices) p
    → IsPortOf devices p
port_by_count devices p is = at devices p.node is
  where
    at : (devices : List Registers) (n : ℕ) → p.port < get_or (counts_of devices) n 0
        → HasPort (slice_get devices n) p.port
    at [] n is = absurd (omega arith)
    at (d ∷ devices) zero is = is
    at (d ∷ devices) (suc n) is = at devices n is

-- ---- what is said of an answer

pub ok_from : {T E A D : Type 0} (r : Result T E) → IfOk r (λ x. A) → (A → D) → IfOk r (λ x. D)
ok_from (Ok x) a f = f a
ok_from (Err e) a f = tt

pub ok_from_two : {T E A B D : Type 0} (r : Result T E) → IfOk r (λ x. A) → IfOk r (λ x. B)
    → (A → B → D) → IfOk r (λ x. D)
ok_from_two (Ok x) a b f = f a b
ok_from_two (Err e) a b f = tt

pub ok_from_three : {T E A B C D : Type 0} (r : Result T E) → IfOk r (λ x. A) → IfOk r (λ x. B)
    → IfOk r (λ x. C) → (A → B → C → D) → IfOk r (λ x. D)
ok_from_three (Ok x) a b c f = f a b c
ok_from_three (Err e) a b c f = tt
