-- What a new fabric is for a host.
use Rattle.std.proofs.Common.{◌≡◌, ℕ, ◌<◌, false, List, [], ◌∷◌, length, Option, Some, None, option_map, option_and_then, unwrap_or, slice_get, arith, refl, sym, ap, ◌∙◌, subst}
use Rattle.std.proofs.lemmas.Option.{slice_get-get_or}
use Rattle.maint_registers.specs.Devices.{Registers, is_switch, new_endpoint}
use Rattle.fabric_script.specs.declared.ports.PortRef.{PortRef}
use Rattle.fabric_script.specs.declared.lines.Line.{Line}
use Rattle.fabric_script.specs.declared.lines.Line.TheVariants.{Endpoint, Switch, Link, Buffers, Route, Default, Lock, Large}
use Rattle.fabric_script.specs.declared.lines.Numbered.{Numbered}
use Rattle.fabric_script.specs.Peers.{peer_in}
use Rattle.fabric_script.specs.Scripts.{ScriptPasses}
use Rattle.fabric_map.specs.Topology.{IsPortIn, device_ports}
use Rattle.fabric_map.specs.Plain.{ports_of_switch, topology_of, registers_of}
use Rattle.fabric_model.specs.Network.{Network}
use Rattle.fabric_trace.specs.Runs.{bare, set_up, set_up_all, begins, start}
use Rattle.fabric_trace.specs.SetUps.{IsSetUp}
use Rattle.fabric_trace.proofs.SetUps.Happening.{may_set_up}
use Rattle.fabric_trace.proofs.SetUps.Starting.{set_up_bare}
use Rattle.fabric_trace.proofs.SetUps.SettingUp.{set_up-links}
use Rattle.fabric_ask.specs.Course.{IsEndpointIn, IsLaid}
use Rattle.fabric_ask.specs.Only.{IsClear}
use Rattle.fabric_ask.specs.Quiet.{AreQuiet}
use Rattle.fabric_ports.specs.Standing.{Stands}
use Rattle.fabric_ports.specs.declared.fabric.Fabric.{Fabric}
use Rattle.host_enumerate.specs.Checking.{IsNewFabric}
use Rattle.host_enumerate.specs.Devised.{IsHost, devices_after, devices_after_all, links_after_all, devices_of, links_of}
use Rattle.host_enumerate.proofs.NewFabrics.{devised_fabric}
use Rattle.fabric_maint.specs.Going.{MaintRestsAt}

-- ---- lines of set-up make the same devices and links of a network

devices_same : (net : Network) (line : Line)
    → (set_up net line).registers ≡ devices_after net.registers line
devices_same net (Endpoint name id) = refl
devices_same net (Switch name ports) = refl
devices_same net (Link a b) = refl
devices_same net (Buffers port n) = refl
devices_same net (Route node id p) = refl
devices_same net (Default node p) = refl
devices_same net (Lock node id) = refl
devices_same net (Large node id) = refl
devices_same net _ = refl

all_devices_same : (net : Network) (lines : List Numbered)
    → (set_up_all net lines).registers ≡ devices_after_all net.registers lines
all_devices_same net [] = refl
all_devices_same net (line ∷ lines) = all_devices_same (set_up net line.line) lines
    ∙ ap (λ (devices : List Registers). devices_after_all devices lines)
    (devices_same net line.line)

all_links_same : (net : Network) (lines : List Numbered)
    → (set_up_all net lines).links ≡ links_after_all net.links lines
all_links_same net [] = refl
all_links_same net (line ∷ lines) = all_links_same (set_up net line.line) lines
    ∙ ap (λ (links : List (PortRef × PortRef)). links_after_all links lines)
    (set_up-links net line.line)

pub start_devices : (lines : List Numbered)
    → (start lines).network.registers ≡ devices_of lines
start_devices lines = all_devices_same bare lines

pub start_links : (lines : List Numbered) → (start lines).network.links ≡ links_of lines
start_links lines = all_links_same bare lines

-- ---- nothing is on the way in it

clear_begun : (net : Network) → IsSetUp net → IsClear net
clear_begun net is = record {
  received = is.empty.received;
  waiting = is.empty.waiting;
  lent = is.empty.lent;
}

quiet_begun : (net : Network) (links : List (PortRef × PortRef)) → AreQuiet links (begins net)
quiet_begun net [] = tt
quiet_begun net (link ∷ links) = (
  record {
    wire_a = refl;
    wire_b = refl;
    a_to_b = record {
      ack = 0;
      report = None;
      sender_ok = refl;
      receiver_ok = refl;
      place = refl;
    };
    b_to_a = record {
      ack = 0;
      report = None;
      sender_ok = refl;
      receiver_ok = refl;
      place = refl;
    };
  },
  quiet_begun net links,
)

-- ---- a fabric that can be numbered is laid out as asks want it

module _ (devices : List Registers) (links : List (PortRef × PortRef)) (host : ℕ)
    (new : IsNewFabric devices links host) where
  there : (q p : PortRef) → peer_in links q ≡ Some p → IsPortIn (topology_of devices links host) q
  there q p peer = new.topology.ports q p peer

  stands : (node : ℕ) → node < length devices
      → slice_get devices node ≡ Some (registers_of devices node)
  stands node inside = slice_get-get_or devices node (new_endpoint 0 false) inside

  one_port : (node : ℕ) → IsEndpointIn devices node
      → device_ports (topology_of devices links host) node ≡ 1
  one_port node is = go (slice_get devices node) is
    where
      of_kind : (device : Registers) → is_switch device ≡ false
          → unwrap_or (ports_of_switch device) 1 ≡ 1
      of_kind device kind = rw kind refl

      go : (o : Option Registers) → option_map is_switch o ≡ Some false
          → unwrap_or (option_and_then ports_of_switch o) 1 ≡ 1
      go None at = absurd cc
      go (Some device) at = let kind : is_switch device ≡ false = cc in of_kind device kind

  laid_new : IsHost devices links host → IsLaid devices links host
  laid_new is = record {
    ports = λ q p peer. record {
      device = registers_of devices q.node;
      stands = stands q.node (there q p peer).node;
      below = subst (λ n. q.port < n) (sym (new.fits.ports q.node (there q p peer).node))
          (there q p peer).port;
    };
    ends = λ q p peer endpoint.
        let below = (there q p peer).port in
        let first : q.port ≡ 0 = omega (arith, below, one_port q.node endpoint) in
        ap (λ n. record { node = q.node; port = n }) first;
    host_is = is.endpoint;
  }

-- ---- the fabric of a script

pub rests_new : (names : List (List ℕ)) (lines : List Numbered) (host : ℕ) (fabric : Fabric)
    → ScriptPasses names lines → IsHost (devices_of lines) (links_of lines) host
    → Stands (start lines) [] fabric → MaintRestsAt host (start lines) fabric
rests_new names lines host fabric passes is stands = record {
  can = record {
    stands = stands;
    clear = clear_begun (set_up_all bare lines) (set_up_bare lines (may_set_up names lines passes));
    laid = subst (λ (devices : List Registers). IsLaid devices (start lines).network.links host)
        (sym (start_devices lines))
        (subst (λ (links : List (PortRef × PortRef)). IsLaid (devices_of lines) links host)
        (sym (start_links lines))
        (laid_new (devices_of lines) (links_of lines) host
        (devised_fabric names lines host passes is) is));
  };
  quiet = quiet_begun (set_up_all bare lines) (start lines).network.links;
}
