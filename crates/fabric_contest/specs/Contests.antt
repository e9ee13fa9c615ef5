-- Two hosts that contest the fabric of set-up lines.
use Rattle.std.specs.Prelude.{◌≡◌, ℕ, Bool, ◌&&◌, List}
use Rattle.fabric_script.specs.declared.lines.Numbered.{Numbered}
use Rattle.fabric_map.specs.Topology.{Topology}
use Rattle.fabric_map.specs.Plain.{topology_of, registers_of}
use Rattle.host_enumerate.specs.Devised.{IsHost, devices_of, links_of}
use Rattle.host_enumerate.specs.Underway.{AreOwnUntagged}
use Rattle.link_watch.specs.declared.side.Side.{Side}
use Rattle.link_watch.specs.declared.side.Side.TheVariants.{A, B}
use Rattle.fabric_maint.specs.Going.{StandsFor}
use Rattle.contest_machine.specs.Machine.{Walker}
use Rattle.contest_machine.specs.Turns.{Both, after_turns}
use Rattle.contest_machine.specs.Going.{AreBegun, going_over}
use Rattle.contest_machine.specs.Locks.{walker_of}
use Rattle.host_contest.specs.Machines.{new_walker, has_ended}
use Rattle.host_contest.specs.Reaching.{AreLow}
use Rattle.host_contest.specs.Walkers.{machine_in, HasEntries}
use Rattle.host_contest.specs.declared.walker.Walker as walkers
use Rattle.fabric_contest.specs.declared.contest.Contest.{Contest}
use Rattle.fabric_contest.specs.Orders.{seeded_turns}

-- ---- of set-up lines

-- a host that has asked nothing yet, with the ID of its line
abbrev pub new_host : List Numbered → ℕ → Walker
new_host lines node = new_walker (topology_of (devices_of lines) (links_of lines) node)
    (registers_of (devices_of lines) node).base_id

-- two such hosts, and the registers that the lines make
abbrev pub new_both : List Numbered → ℕ → ℕ → Both
new_both lines first second = record {
  first = new_host lines first;
  second = new_host lines second;
  registers = registers_of (devices_of lines);
}

-- what stands after the turns of a number
abbrev pub contest_of : List Numbered → ℕ → ℕ → ℕ → Both
contest_of lines first second seed = after_turns (new_both lines first second) (seeded_turns seed)

-- ---- of the code

-- the fabric as a host of the lines sees it
abbrev pub view_of : List Numbered → ℕ → Topology
view_of lines node = topology_of (devices_of lines) (links_of lines) node

abbrev pub contest_lines : Contest → List Numbered
contest_lines contest = contest.script.now.lines.items

-- two walkers of a fabric, and its registers
abbrev pub both_of : Contest → Both
both_of contest = record {
  first = machine_in (view_of (contest_lines contest) contest.first_node) contest.first;
  second = machine_in (view_of (contest_lines contest) contest.second_node) contest.second;
  registers = registers_of contest.fabric.devices.items;
}

-- a walker that has begun and makes no access any more
abbrev pub has_stopped : walkers.Walker → Bool
has_stopped walker = walker.machine.begun && has_ended walker.machine

-- The fabric rests, and both hosts are two of its script. They have made turns since they began,
-- and at first no device that bears the ID of one had a tag. Whoever is done has its entries. All
-- turns that went on are counted.
pub record CanTurn (contest : Contest) : Type 0 where
  pub stands : StandsFor contest.script.now.names.items (contest_lines contest) contest.first_node
      contest.fabric
  pub second_host : IsHost (devices_of (contest_lines contest)) (links_of (contest_lines contest))
      contest.second_node
  pub begun : Both
  pub turns : List Side
  pub both_is : both_of contest ≡ after_turns begun turns
  pub start : AreBegun begun
  pub untagged : (side : Side) → AreOwnUntagged (walker_of begun side).view begun.registers
      (walker_of begun side).id
  pub low_first : AreLow contest.first.machine.todo
  pub low_second : AreLow contest.second.machine.todo
  pub entries_first : HasEntries contest.first
  pub entries_second : HasEntries contest.second
  pub going_first : contest.first.going ≡ going_over begun A turns
  pub going_second : contest.second.going ≡ going_over begun B turns
