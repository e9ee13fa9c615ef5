-- Two new walkers of the fabric of a script.
use Rattle.std.proofs.Common.{◌≡◌, ◌≢◌, ℕ, ◌<◌, List, [], length, refl, ap, ◌∙◌}
use Rattle.maint_registers.specs.Devices.{Registers}
use Rattle.fabric_script.specs.declared.lines.Numbered.{Numbered}
use Rattle.fabric_script.specs.Scripts.{ScriptPasses}
use Rattle.fabric_map.specs.Topology.{Topology, IsTopology}
use Rattle.fabric_map.specs.Routes.{AllRegisters}
use Rattle.fabric_map.specs.Fitting.{Fits}
use Rattle.fabric_map.specs.Plain.{registers_of}
use Rattle.fabric_trace.specs.Runs.{start}
use Rattle.fabric_ports.specs.Standing.{Stands}
use Rattle.fabric_maint.proofs.Making.{devices_here, new_stands}
use Rattle.host_enumerate.specs.Checking.{IsNewFabric}
use Rattle.host_enumerate.specs.Devised.{IsHost, devices_of, links_of}
use Rattle.host_enumerate.specs.Underway.{AreOwnUntagged}
use Rattle.host_enumerate.proofs.NewFabrics.{devised_fabric}
use Rattle.link_watch.specs.declared.side.Side.{Side}
use Rattle.link_watch.specs.declared.side.Side.TheVariants.{A, B}
use Rattle.contest_machine.specs.Machine.{Walker}
use Rattle.contest_machine.specs.Keeping.{IsNew}
use Rattle.contest_machine.specs.Turns.{Both}
use Rattle.contest_machine.specs.Going.{AreBegun}
use Rattle.contest_machine.specs.Locks.{walker_of}
use Rattle.host_contest.specs.Machines.{new_walker}
use Rattle.host_contest.specs.Reaching.{AreLow}
use Rattle.host_contest.specs.Walkers.{machine_in, HasEntries}
use Rattle.fabric_contest.specs.Contests.{new_both, view_of, contest_lines, both_of, CanTurn}
use Rattle.fabric_contest.specs.declared.contest.Contest.{Contest}
use Rattle.fabric_contest.proofs.Distinct.{ids_differ}

new_is_new : (view : Topology) (id : ℕ) → IsNew (new_walker view id)
new_is_new view id =
    record { devices = refl; tried = refl; todo = refl; path = refl; stage = refl }

-- the hosts of a script begin
module _ (names : List (List ℕ)) (lines : List Numbered) (passes : ScriptPasses names lines)
    (f s : ℕ)
    (host_f : IsHost (devices_of lines) (links_of lines) f)
    (host_s : IsHost (devices_of lines) (links_of lines) s) (differ : f ≢ s) where
  made : (host : ℕ) → IsHost (devices_of lines) (links_of lines) host
      → IsNewFabric (devices_of lines) (links_of lines) host
  made host is = devised_fabric names lines host passes is

  abbrev both : Both
  both = new_both lines f s

  pub are_begun : AreBegun both
  are_begun = record {
    new = new;
    next = next;
    differ = ids_differ names lines passes f s host_f host_s differ;
    ids = ids;
    proper = proper;
    shown = shown;
  }
    where
      new : (side : Side) → IsNew (walker_of both side)
      new A = new_is_new (view_of lines f) (registers_of (devices_of lines) f).base_id
      new B = new_is_new (view_of lines s) (registers_of (devices_of lines) s).base_id

      next : (side : Side) → (walker_of both side).next ≡ 0
      next A = refl
      next B = refl

      ids : (side : Side) → (walker_of both side).id < 0xff
      ids A = host_f.has_id
      ids B = host_s.has_id

      proper : (side : Side) → IsTopology (walker_of both side).view
      proper A = (made f host_f).topology
      proper B = (made s host_s).topology

      shown : (side : Side) → Fits (walker_of both side).view both.registers
      shown A = (made f host_f).fits
      shown B = (made s host_s).fits

  pub none_tagged : (side : Side) → AreOwnUntagged (walker_of both side).view both.registers
      (walker_of both side).id
  none_tagged A node inside own = (made f host_f).untagged node inside
  none_tagged B node inside own = (made s host_s).untagged node inside

-- a contest that was made of a new fabric, as it is told of one
pub record IsNewContest (contest : Contest) : Type 0 where
  pub both : both_of contest
      ≡ new_both (contest_lines contest) contest.first_node contest.second_node
  pub can : CanTurn contest

module _ (contest : Contest)
    (passes : ScriptPasses contest.script.now.names.items (contest_lines contest))
    (stands : Stands (start (contest_lines contest)) [] contest.fabric)
    (named : length contest.fabric.devices.items ≡ length contest.script.now.names.items)
    (host_f : IsHost (devices_of (contest_lines contest)) (links_of (contest_lines contest))
    contest.first_node)
    (host_s : IsHost (devices_of (contest_lines contest)) (links_of (contest_lines contest))
    contest.second_node)
    (differ : contest.first_node ≢ contest.second_node) (id_f id_s : ℕ)
    (first_id : id_f ≡ (registers_of contest.fabric.devices.items contest.first_node).base_id)
    (second_id : id_s ≡ (registers_of contest.fabric.devices.items contest.second_node).base_id)
    (first_is : (view : Topology) → machine_in view contest.first ≡ new_walker view id_f)
    (second_is : (view : Topology) → machine_in view contest.second ≡ new_walker view id_s) where
  abbrev lines : List Numbered
  lines = contest_lines contest

  abbrev Ids : AllRegisters → Both
  Ids r = record {
    first = new_walker (view_of lines contest.first_node) (r contest.first_node).base_id;
    second = new_walker (view_of lines contest.second_node) (r contest.second_node).base_id;
    registers = r;
  }

  abbrev with_both : Walker → Walker → Both
  with_both one other =
      record { first = one; second = other; registers = registers_of contest.fabric.devices.items }

  new_both_is : both_of contest ≡ new_both lines contest.first_node contest.second_node
  new_both_is =
      ap (λ (w : Walker). with_both w (both_of contest).second)
      (first_is (view_of lines contest.first_node)
      ∙ ap (new_walker (view_of lines contest.first_node)) first_id)
      ∙ (ap (λ (w : Walker). with_both (Ids (both_of contest).registers).first w)
      (second_is (view_of lines contest.second_node)
      ∙ ap (new_walker (view_of lines contest.second_node)) second_id)
      ∙ ap (λ (d : List Registers). Ids (registers_of d))
      (devices_here contest.script.now.names.items lines contest.first_node contest.fabric passes
      host_f stands named))

  pub new_contest : AreLow contest.first.machine.todo → AreLow contest.second.machine.todo
      → HasEntries contest.first → HasEntries contest.second → contest.first.going ≡ 0
      → contest.second.going ≡ 0 → IsNewContest contest
  new_contest low_f low_s entries_f entries_s none_f none_s = record {
    both = new_both_is;
    can = record {
      stands = new_stands contest.script.now.names.items lines contest.first_node contest.fabric
          passes host_f stands named;
      second_host = host_s;
      begun = new_both lines contest.first_node contest.second_node;
      turns = [];
      both_is = new_both_is;
      start = are_begun contest.script.now.names.items lines passes contest.first_node
          contest.second_node host_f host_s differ;
      untagged = none_tagged contest.script.now.names.items lines passes contest.first_node
          contest.second_node host_f host_s differ;
      low_first = low_f;
      low_second = low_s;
      entries_first = entries_f;
      entries_second = entries_s;
      going_first = none_f;
      going_second = none_s;
    };
  }
