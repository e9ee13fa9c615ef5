-- A host of a new fabric.
use Rattle.std.proofs.Common.{◌≡◌, ℕ, List, [], length, Option, arith, refl, sym, ap, ◌∙◌, subst}
use Rattle.std.proofs.KnownBytes.{Appends-nil}
use Rattle.maint_registers.specs.Devices.{Registers}
use Rattle.rio_chars.specs.declared.edit.Edit.{Edit}
use Rattle.fabric_script.specs.declared.ports.PortRef.{PortRef}
use Rattle.fabric_script.specs.declared.lines.Numbered.{Numbered}
use Rattle.fabric_script.specs.Scripts.{ScriptPasses}
use Rattle.fabric_map.specs.Fitting.{Fits}
use Rattle.fabric_map.specs.Plain.{topology_of, registers_of}
use Rattle.fabric_trace.specs.Runs.{start}
use Rattle.fabric_ports.specs.Standing.{Stands}
use Rattle.fabric_ports.specs.declared.fabric.Fabric.{Fabric}
use Rattle.host_enumerate.specs.Checking.{IsNewFabric}
use Rattle.host_enumerate.specs.Devised.{IsHost, devices_of, links_of}
use Rattle.host_enumerate.proofs.NewFabrics.{devised_fabric}
use Rattle.fabric_maint.specs.Asked.{AskedNothing}
use Rattle.fabric_maint.specs.Going.{StandsFor, Followed}
use Rattle.fabric_maint.specs.declared.maint.FabricMaint.{FabricMaint}
use Rattle.fabric_maint.proofs.Leading.{leads_none}
use Rattle.fabric_maint.proofs.Starting.{start_devices, start_links, rests_new}

-- whoever has done nothing has followed
pub follows_itself : {N K : Type 0} (edits : N → List Edit) (written : K → Option (List ℕ))
    (faults : K → ℕ) (maint : FabricMaint N K) → Followed edits written faults maint maint
follows_itself edits written faults maint = record {
  same = record { script = refl; host = refl; fabric = refl; noise = refl; sink = refl };
  never_falls = omega arith;
  went = λ s rests. record {
    lines = [];
    end = s;
    asked = AskedNothing refl refl refl refl;
    leads = leads_none maint.host s rests.can.stands.sent rests.can.laid.host_is;
    told = Appends-nil (written maint.sink.now);
    rests = rests;
  };
}

-- a new fabric of a script
module _ (names : List (List ℕ)) (lines : List Numbered) (node : ℕ) (fabric : Fabric)
    (passes : ScriptPasses names lines) (host : IsHost (devices_of lines) (links_of lines) node)
    (stands : Stands (start lines) [] fabric)
    (named : length fabric.devices.items ≡ length names) where
  pub new_here : IsNewFabric (devices_of lines) (links_of lines) node
  new_here = devised_fabric names lines node passes host

  pub devices_here : fabric.devices.items ≡ devices_of lines
  devices_here = sym stands.shows.registers ∙ start_devices lines

  count : length (devices_of lines) ≡ length names
  count = sym (ap length devices_here) ∙ named

  pub new_stands : StandsFor names lines node fabric
  new_stands = record {
    passes = passes;
    host = host;
    named = omega (arith, count);
    few = let most = new_here.topology.most in omega (arith, count, most);
    s = start lines;
    rests = rests_new names lines node fabric passes host stands;
    topology = ap
        (λ (devices : List Registers). topology_of devices (start lines).network.links node)
        (start_devices lines)
        ∙ ap (λ (links : List (PortRef × PortRef)). topology_of (devices_of lines) links node)
        (start_links lines);
    fits = subst (λ (devices : List Registers). Fits
        (topology_of (devices_of lines) (links_of lines) node) (registers_of devices))
        (sym (start_devices lines)) new_here.fits;
  }
