-- A fabric that rests for one host of a script rests for each.
use Rattle.std.proofs.Common.{◌≡◌, ℕ, ◌<◌, false, List, length, Some, option_map, arith, ap, ◌∙◌}
use Rattle.std.proofs.lemmas.Option.{slice_get-get_or}
use Rattle.maint_registers.specs.Devices.{Registers, is_switch, new_endpoint}
use Rattle.fabric_script.specs.declared.lines.Numbered.{Numbered}
use Rattle.fabric_map.specs.Topology.{Topology}
use Rattle.fabric_map.specs.Plain.{registers_of}
use Rattle.fabric_ask.specs.Course.{IsEndpointIn}
use Rattle.fabric_ports.specs.declared.fabric.Fabric.{Fabric}
use Rattle.host_enumerate.specs.Checking.{IsNewFabric}
use Rattle.host_enumerate.specs.Devised.{IsHost, devices_of, links_of}
use Rattle.host_enumerate.proofs.NewFabrics.{devised_fabric}
use Rattle.fabric_maint.specs.Going.{StandsFor}

-- the same devices and links, as another host sees them
abbrev seen_by : ℕ → Topology → Topology
seen_by host topology = record topology { host = host }

module _ (names : List (List ℕ)) (lines : List Numbered) (host other : ℕ) (fabric : Fabric)
    (stands : StandsFor names lines host fabric)
    (is : IsHost (devices_of lines) (links_of lines) other) where
  new_for : IsNewFabric (devices_of lines) (links_of lines) other
  new_for = devised_fabric names lines other stands.passes is

  abbrev registers : List Registers
  registers = stands.s.network.registers

  endpoint : is_switch (registers_of registers other) ≡ false
  endpoint =
      stands.fits.endpoints other new_for.topology.host new_for.topology.host_is_endpoint

  inside : other < length registers
  inside =
      let few = new_for.topology.host in
      let same = ap (λ (t : Topology). t.nodes) stands.topology in
      omega (arith, few, same)

  is_endpoint : IsEndpointIn registers other
  is_endpoint =
      ap (λ o. option_map is_switch o)
      (slice_get-get_or registers other (new_endpoint 0 false) inside)
      ∙ ap (λ b. Some b) endpoint

  pub other_stands : StandsFor names lines other fabric
  other_stands = record {
    passes = stands.passes;
    host = is;
    named = stands.named;
    few = stands.few;
    s = stands.s;
    rests = record {
      can = record {
        stands = stands.rests.can.stands;
        clear = stands.rests.can.clear;
        laid = record {
          ports = stands.rests.can.laid.ports;
          ends = stands.rests.can.laid.ends;
          host_is = is_endpoint;
        };
      };
      quiet = stands.rests.quiet;
    };
    topology = ap (seen_by other) stands.topology;
    fits = record {
      devices = stands.fits.devices;
      ids = stands.fits.ids;
      large_ids = stands.fits.large_ids;
      locks = stands.fits.locks;
      endpoints = stands.fits.endpoints;
      switches = stands.fits.switches;
      ports = stands.fits.ports;
      linked = stands.fits.linked;
    };
  }
