-- What a new fabric shows, and what a plan is for after more lines.
use Rattle.std.proofs.Common.{◌≡◌, ℕ, zero, suc, ◌+◌, ◌<◌, List, [], ◌∷◌, ◌++◌, All, Some, None, false, map, get_or, take, drop, length, replicate, length-append, option_map, refl, sym, ap, ◌∙◌, subst, filter, ◌==◌, arith}
use Rattle.std.proofs.lemmas.List.{take_more, length-map, length-replicate}
use Rattle.std.proofs.lemmas.List.Elements.{All-head, All-tail, All-weaker}
use Rattle.std.proofs.lemmas.Option.{same_Some, slice_get-map}
use Rattle.std.specs.List.{slice_get}
use Rattle.rio_packets.specs.Fields.{prio_of}
use Rattle.link_model.specs.Places.{place_start}
use Rattle.link_model.specs.Output as out
use Rattle.link_model.specs.Input as in_half
use Rattle.link_model.specs.Outstanding.{from_ack}
use Rattle.maint_registers.specs.Devices.{Registers, is_switch}
use Rattle.fabric_script.specs.declared.ports.PortRef.{PortRef}
use Rattle.fabric_script.specs.declared.lines.Line.{Line}
use Rattle.fabric_script.specs.declared.lines.Line.TheVariants.{Endpoint, Switch}
use Rattle.fabric_script.specs.declared.lines.Numbered.{Numbered}
use Rattle.fabric_script.specs.Known.{Known, nothing, names_after, known_after}
use Rattle.fabric_script.specs.Lines.{new_name}
use Rattle.fabric_script.specs.Scripts.{PassesFrom, ScriptPasses}
use Rattle.fabric_model.specs.Network.{Network}
use Rattle.fabric_model.specs.Laws.History.{IsEmptyNetwork}
use Rattle.fabric_model.specs.Laws.Proper.{AreProper}
use Rattle.fabric_trace.proofs.SetUps.SettingUp.{set_up_all-append, lines_at}
use Rattle.fabric_trace.specs.Events.{ArePorts, counts_after, counts_after_all, port_counts}
use Rattle.fabric_trace.specs.Known.{Seen, port_seen}
use Rattle.fabric_trace.specs.Parts.{Done}
use Rattle.fabric_trace.specs.Runs.{bare, set_up, set_up_all, begins}
use Rattle.fabric_trace.specs.SetUps.{MaySetUp, MaySetUpAll}
use Rattle.fabric_trace.specs.Views.{packets_in}
use Rattle.fabric_trace.proofs.Traces.Existing.{ready_begun}
use Rattle.fabric_trace.proofs.SetUps.Happening.{may_set_up, ports_there}
use Rattle.fabric_trace.proofs.SetUps.Starting.{set_up_bare}
use Rattle.fabric_ports.specs.Idling.{IsMarkedAt, KnowsIdle}
use Rattle.fabric_ports.specs.Places.{IsEndpointAt, place_of}
use Rattle.fabric_ports.specs.Showing.{ends_of, ShowsCable, LeadToLinks, ShowsFabric}
use Rattle.fabric_ports.specs.Standing.{Stands}
use Rattle.fabric_ports.specs.Plans.{counts_of, HasPorts, IsNewCable, PlansFor, MayAdd, port_plan, planned_port}
use Rattle.fabric_ports.proofs.IdleLaws.{none_marked}
use Rattle.fabric_ports.proofs.PlanLaws.{Lists, lists_of, lists_same}
use Rattle.fabric_ports.proofs.ShowLaws.{lead_same}
use Rattle.fabric_ports.specs.declared.fabric.Fabric.{Fabric}
use Rattle.fabric_ports.specs.declared.idle.Idle.{Idle}
use Rattle.fabric_ports.specs.declared.plans.Plan.{Plan}
use Rattle.fabric_ports.specs.declared.plans.PortPlan.{PortPlan}

-- ---- a new fabric

-- the view of a port where no packet was taken is a new port
new_view : (net : Network) (p : PortRef) → IsEmptyNetwork net
    → port_seen (begins net) p ≡ planned_port (port_plan net p)
new_view net p empty = λ i. record {
  place = place_start;
  output = out.Output.Ok (from_ack 0 None);
  input = in_half.InputOk 0;
  queued =
      packets_in (filter (λ item. prio_of item.now == 0) (empty.lent p i) ++ empty.waiting p 0 i)
      ∷ packets_in (filter (λ item. prio_of item.now == 1) (empty.lent p i) ++ empty.waiting p 1 i)
      ∷ packets_in (filter (λ item. prio_of item.now == 2) (empty.lent p i) ++ empty.waiting p 2 i)
      ∷ packets_in (filter (λ item. prio_of item.now == 3) (empty.lent p i) ++ empty.waiting p 3 i)
      ∷ [];
  received = record {
    lists = packets_in (empty.received p 0 i) ∷ packets_in (empty.received p 1 i) ∷ packets_in
        (empty.received p 2 i) ∷ packets_in (empty.received p 3 i) ∷ [];
    buffers = net.buffers p;
  };
  tells = net.tells p;
}

-- an endpoint has a port
endpoint_at : (devices : List Registers) (n : ℕ) → All HasPorts devices
    → option_map is_switch (slice_get devices n) ≡ Some false → IsEndpointAt devices n
endpoint_at [] n have is = absurd (cc)
endpoint_at (device ∷ devices) zero have is = record {
  device = device;
  stands = refl;
  kind = same_Some (is_switch device) false is;
  has_port = All-head HasPorts device devices have;
}
endpoint_at (device ∷ devices) (suc n) have is =
    let one = endpoint_at devices n (All-tail HasPorts device devices have) is in
    record { device = one.device; stands = one.stands; kind = one.kind; has_port = one.has_port }

-- a fabric with new ports as planned shows the network of the plan
new_shows : (fabric : Fabric) (plans : List PortPlan) (net : Network) → IsEmptyNetwork net
    → Lists fabric.devices.items fabric.firsts.items plans fabric.cables.items net
    → fabric.ports.items ≡ map planned_port plans
    → LeadToLinks (map ends_of fabric.cables.items) fabric.firsts.items fabric.cable_at.items
    → KnowsIdle fabric.idle (begins net) → ShowsFabric fabric (begins net)
new_shows fabric plans net empty l ports lead idle = record {
  firsts = l.rows;
  count = ap length ports ∙ length-map plans planned_port ∙ l.count;
  ports = λ p here.
      ap (λ ps. slice_get ps (place_of fabric.firsts.items p)) ports
      ∙ slice_get-map planned_port plans (place_of fabric.firsts.items p)
      ∙ ap (option_map planned_port) (l.here p here) ∙ ap Some (sym (new_view net p empty));
  cables = All-weaker (IsNewCable fabric.devices.items)
      (ShowsCable fabric.devices.items (begins net))
      (λ cable new. record { port_a = new.port_a; port_b = new.port_b; wires = new.wires })
      fabric.cables.items l.new;
  links = l.links;
  lead = subst (λ (links : List (PortRef × PortRef)). LeadToLinks links fabric.firsts.items
      fabric.cable_at.items) l.links lead;
  registers = l.registers;
  idle = idle;
  endpoints = λ n is. endpoint_at fabric.devices.items n l.have_ports
      (subst (λ (registers : List Registers). option_map is_switch (slice_get registers n) ≡ Some
      false) l.registers is);
}

-- nothing is known to have nothing to do
new_idle : (idle : Idle) (s : Seen) (links devices : ℕ) → idle.links.items ≡ replicate links false
    → idle.switches.items ≡ replicate devices false → links ≡ length s.network.links
    → devices ≡ length s.network.registers → KnowsIdle idle s
new_idle idle s links devices first second many_links many_devices = record {
  links = λ k link marked at.
      absurd (none_marked links k (subst (λ l. IsMarkedAt l k) first marked));
  switches = λ n marked.
      absurd (none_marked devices n (subst (λ l. IsMarkedAt l n) second marked));
  as_many_links = ap (λ l. length l) first ∙ length-replicate links false ∙ many_links;
  as_many_devices = ap (λ l. length l) second ∙ length-replicate devices false ∙ many_devices;
}

-- the marks are made for the links and the devices of a plan
pub record AreUnmarked (plan : Plan) (idle : Idle) : Type 0 where
  pub links : ℕ
  pub devices : ℕ
  pub links_are : idle.links.items ≡ replicate links false
  pub devices_are : idle.switches.items ≡ replicate devices false
  pub as_many_links : links ≡ length plan.cables.items
  pub as_many_devices : devices ≡ length plan.devices.items

pub new_stands : (names : List (List ℕ)) (lines : List Numbered) (plan : Plan) (fabric : Fabric)
    → ScriptPasses names lines → PlansFor plan (set_up_all bare lines)
    → fabric.devices.items ≡ plan.devices.items → fabric.firsts.items ≡ plan.firsts.items
    → fabric.cables.items ≡ plan.cables.items
    → fabric.ports.items ≡ map planned_port plan.ports.items
    → LeadToLinks (map ends_of plan.cables.items) plan.firsts.items fabric.cable_at.items
    → AreUnmarked plan fabric.idle → Stands (begins (set_up_all bare lines)) [] fabric
new_stands names lines plan fabric passes is d f c ports lead idle =
    let set_up = set_up_bare lines (may_set_up names lines passes) in
    record {
      ready = ready_begun (set_up_all bare lines) set_up;
      made = Done refl;
      sent = refl;
      shows = new_shows fabric plan.ports.items (set_up_all bare lines) set_up.empty
          (lists_same plan.devices.items fabric.devices.items plan.firsts.items fabric.firsts.items
          plan.ports.items plan.ports.items plan.cables.items fabric.cables.items
          (set_up_all bare lines) d f refl c (lists_of plan (set_up_all bare lines) is)) ports
          (lead_same (map ends_of plan.cables.items) (map ends_of fabric.cables.items)
          plan.firsts.items fabric.firsts.items fabric.cable_at.items fabric.cable_at.items
          (ap (map ends_of) c) f refl lead)
          (new_idle fabric.idle (begins (set_up_all bare lines)) idle.links idle.devices
          idle.links_are idle.devices_are
          (idle.as_many_links ∙ sym (length-map plan.cables.items ends_of)
          ∙ ap (λ (l : List (PortRef × PortRef)). length l) is.links)
          (idle.as_many_devices ∙ ap (λ (l : List Registers). length l) (sym is.registers)));
    }

-- the links of a plan for a script that passes
pub plan_proper : (names : List (List ℕ)) (lines : List Numbered) (plan : Plan)
    → ScriptPasses names lines → PlansFor plan (set_up_all bare lines)
    → AreProper (map ends_of plan.cables.items)
plan_proper names lines plan passes is =
    subst AreProper (sym is.links) (set_up_bare lines (may_set_up names lines passes)).proper

-- ---- from line to line

counts-append : (counts : List ℕ) (lines more : List Numbered)
    → counts_after_all counts (lines ++ more) ≡ counts_after_all (counts_after_all counts lines)
    more
counts-append counts [] more = refl
counts-append counts (line ∷ lines) more = counts-append (counts_after counts line.line) lines more

may_at : (net : Network) (before behind : List Numbered) (line : Numbered)
    → MaySetUpAll net (before ++ line ∷ behind) → MaySetUp (set_up_all net before) line.line
may_at net [] behind line may = may.0
may_at net (first ∷ before) behind line may =
    may_at (set_up net first.line) before behind line may.1

-- A plan is for the network of the first lines of a script.
pub record PlansFirst (plan : Plan) (lines : List Numbered) (i : ℕ) : Type 0 where
  pub plans : PlansFor plan (set_up_all bare (take i lines))
  pub counts : counts_of plan.devices.items ≡ port_counts (take i lines)

-- the ports of the next line are those of the plan
pub next_ports : (names : List (List ℕ)) (lines : List Numbered) (i : ℕ) (line : Numbered)
    (plan : Plan) → ScriptPasses names lines → i < length lines → line ≡ get_or lines i line
    → PlansFirst plan lines i → ArePorts (counts_of plan.devices.items) line.line
next_ports names lines i line plan passes within at first =
    subst (λ counts. ArePorts counts line.line) (sym first.counts)
    (ports_there names (take i lines) (drop (i + 1) lines) line
    (subst (ScriptPasses names) (lines_at lines i line within at) passes))

-- the next line may be set up
next_set_up : (names : List (List ℕ)) (lines : List Numbered) (i : ℕ) (line : Numbered)
    → ScriptPasses names lines → i < length lines → line ≡ get_or lines i line
    → MaySetUp (set_up_all bare (take i lines)) line.line
next_set_up names lines i line passes within at =
    may_at bare (take i lines) (drop (i + 1) lines) line
    (subst (MaySetUpAll bare) (lines_at lines i line within at) (may_set_up names lines passes))

-- and added to the plan
pub next_may : (names : List (List ℕ)) (lines : List Numbered) (i : ℕ) (line : Numbered)
    (plan : Plan) → ScriptPasses names lines → i < length lines → line ≡ get_or lines i line
    → PlansFirst plan lines i → MayAdd plan line.line
next_may names lines i line plan passes within at first = record {
  net = set_up_all bare (take i lines);
  plans = first.plans;
  may = next_set_up names lines i line passes within at;
}

pub next_plan : (names : List (List ℕ)) (lines : List Numbered) (i : ℕ) (line : Numbered)
    (old new : Plan) → ScriptPasses names lines → i < length lines → line ≡ get_or lines i line
    → PlansFirst old lines i
    → ((net : Network) → PlansFor old net → MaySetUp net line.line
    → PlansFor new (set_up net line.line))
    → counts_of new.devices.items ≡ counts_after (counts_of old.devices.items) line.line
    → PlansFirst new lines (i + 1)
next_plan names lines i line old new passes within at first plans counts =
    let more : take (i + 1) lines ≡ take i lines ++ line ∷ [] = take_more lines i line within
    ∙ ap (λ x. take i lines ++ x ∷ []) (sym at) in
    let may = next_set_up names lines i line passes within at in
    record {
      plans = subst (PlansFor new)
          (sym (ap (set_up_all bare) more ∙ set_up_all-append bare (take i lines) (line ∷ [])))
          (plans (set_up_all bare (take i lines)) first.plans may);
      counts = counts ∙ ap (λ x. counts_after x line.line) first.counts
          ∙ sym (ap port_counts more ∙ counts-append [] (take i lines) (line ∷ []));
    }

-- ---- names

-- as many nodes as names
names_count : (known : Known) (names : List (List ℕ)) (counts : List ℕ) (lines : List Numbered)
    → length counts ≡ length known.names → PassesFrom known names lines
    → length (counts_after_all counts lines) ≡ length names
names_count known names counts [] same passes = same ∙ ap length passes
names_count known names counts (line ∷ lines) same passes =
    let new = new_name names line.line in
    names_count (known_after known new line.line) names (counts_after counts line.line) lines
    (one_more line.line) passes.2
  where
    one_more : (line : Line)
        → length (counts_after counts line) ≡ length
        (names_after known.names (new_name names line) line)
    one_more (Endpoint name id) =
        omega (
          arith,
          length-append counts (1 ∷ []),
          length-append known.names
              (new_name names (Endpoint name id) ∷ []),
        )
    one_more (Switch name ports) =
        omega (
          arith,
          length-append counts (ports ∷ []),
          length-append known.names
              (new_name names (Switch name ports) ∷ []),
        )
    one_more _ = same

pub devices_named : (names : List (List ℕ)) (lines : List Numbered) (devices : List Registers)
    → ScriptPasses names lines → counts_of devices ≡ port_counts lines
    → length devices ≡ length names
devices_named names lines devices passes counts =
    sym (length-map devices (λ (device : Registers). device.ports)) ∙ ap length counts
    ∙ names_count nothing names [] lines refl passes
