-- A turn of one of two walkers of a fabric.
use Rattle.std.proofs.Common.{◌≡◌, ◌+◌, [], ◌∷◌, ◌++◌, arith, refl, sym, ap, ◌∙◌}
use Rattle.fabric_map.specs.Topology.{Topology}
use Rattle.fabric_map.specs.Routes.{AllRegisters}
use Rattle.fabric_map.specs.Plain.{registers_of}
use Rattle.link_watch.specs.declared.side.Side.{Side}
use Rattle.link_watch.specs.declared.side.Side.TheVariants.{A, B}
use Rattle.fabric_ports.specs.declared.fabric.Fabric.{Fabric}
use Rattle.fabric_maint.specs.Going.{StandsFor}
use Rattle.fabric_maint.proofs.Hosts.{other_stands}
use Rattle.contest_machine.specs.Machine.{Walker, State}
use Rattle.contest_machine.specs.Turns.{walker_turned, came_of, Both, turn_of}
use Rattle.host_contest.specs.declared.walker.Walker as walkers
use Rattle.host_contest.specs.Reaching.{AreLow}
use Rattle.host_contest.specs.Steps.{state_in}
use Rattle.host_contest.specs.Walkers.{machine_in, HasEntries, going_after}
use Rattle.contest_machine.specs.Going.{going_in_turn}
use Rattle.contest_machine.proofs.Turns.Steps.{after_one_more}
use Rattle.fabric_contest.specs.Contests.{view_of, contest_lines, both_of, CanTurn}
use Rattle.fabric_contest.specs.LastTurns.{goings_of, goings_after}
use Rattle.fabric_contest.specs.declared.contest.Contest.{Contest}
use Rattle.fabric_contest.proofs.Goings.{counted, counts_one, not_counted, both_count}

-- the walkers, if this one has come to a state, and the other one
abbrev pub first_at : State → Walker → Both
first_at state other =
    record { first = state.walker; second = other; registers = state.registers }

abbrev pub second_at : State → Walker → Both
second_at state other =
    record { first = other; second = state.walker; registers = state.registers }

abbrev turned_by : Side → Both → Both
turned_by side both = turn_of both side

-- what came of the turn is told by the machine
pub last_turn : (view : Topology) (old new : AllRegisters) (w after : walkers.Walker)
    → state_in view new after.machine ≡ walker_turned (machine_in view w) old
    → after.last ≡ came_of (machine_in view w) (machine_in view after)
    → after.last ≡ came_of (machine_in view w) (walker_turned (machine_in view w) old).walker
last_turn view old new w after is last =
    last ∙ ap (λ (s : State). came_of (machine_in view w) s.walker) is

module _ (contest : Contest) (can : CanTurn contest) (fabric : Fabric) (walker : walkers.Walker)
  where
    abbrev was : AllRegisters
    was = registers_of contest.fabric.devices.items

    abbrev new : AllRegisters
    new = registers_of fabric.devices.items

    abbrev by_first : Contest
    by_first = record contest { fabric = fabric; first = walker }

    abbrev by_second : Contest
    by_second = record contest { fabric = fabric; second = walker }

    module _ (is : state_in (view_of (contest_lines contest) contest.first_node) new walker.machine
        ≡ walker_turned
        (machine_in (view_of (contest_lines contest) contest.first_node) contest.first) was)
        (last : walker.last
        ≡ came_of (machine_in (view_of (contest_lines contest) contest.first_node) contest.first)
        (machine_in (view_of (contest_lines contest) contest.first_node) walker))
        (going : walker.going ≡ going_after contest.first.going walker.last) where
      pub first_turns : both_of by_first ≡ turn_of (both_of contest) A
      first_turns = ap (λ (s : State). first_at s (both_of contest).second) is

      pub first_goes : goings_of by_first ≡ goings_after (both_of contest) (goings_of contest) A
      first_goes =
          both_count walker.going
          (contest.first.going + going_in_turn (both_of contest) A A) contest.second.going
          (contest.second.going + 0)
          (counts_one can.begun (both_of contest) can.turns A can.start can.both_is
          contest.first.going walker.going walker.last can.going_first
          (last_turn (view_of (contest_lines contest) contest.first_node) was new contest.first
          walker is last) going)
          (omega arith)

      pub first_can : AreLow walker.machine.todo → HasEntries walker
          → StandsFor contest.script.now.names.items (contest_lines contest) contest.first_node
          fabric
          → CanTurn by_first
      first_can low entries stands = record {
        stands = stands;
        second_host = can.second_host;
        begun = can.begun;
        turns = can.turns ++ A ∷ [];
        both_is = first_turns
            ∙ (ap (turned_by A) can.both_is ∙ sym (after_one_more can.begun can.turns A));
        start = can.start;
        untagged = can.untagged;
        low_first = low;
        low_second = can.low_second;
        entries_first = entries;
        entries_second = can.entries_second;
        going_first = counted can.begun (both_of contest) can.turns A can.start can.both_is
            contest.first.going walker.going walker.last can.going_first
            (last_turn (view_of (contest_lines contest) contest.first_node) was new contest.first
            walker is last) going;
        going_second = not_counted can.begun can.turns B A contest.second.going can.going_second
            refl;
      }

    module _ (is : state_in (view_of (contest_lines contest) contest.second_node) new walker.machine
        ≡ walker_turned
        (machine_in (view_of (contest_lines contest) contest.second_node) contest.second) was)
        (last : walker.last
        ≡ came_of (machine_in (view_of (contest_lines contest) contest.second_node) contest.second)
        (machine_in (view_of (contest_lines contest) contest.second_node) walker))
        (going : walker.going ≡ going_after contest.second.going walker.last) where
      pub second_turns : both_of by_second ≡ turn_of (both_of contest) B
      second_turns = ap (λ (s : State). second_at s (both_of contest).first) is

      pub second_goes : goings_of by_second ≡ goings_after (both_of contest) (goings_of contest) B
      second_goes =
          both_count contest.first.going (contest.first.going + 0) walker.going
          (contest.second.going + going_in_turn (both_of contest) B B) (omega arith)
          (counts_one can.begun (both_of contest) can.turns B can.start can.both_is
          contest.second.going walker.going walker.last can.going_second
          (last_turn (view_of (contest_lines contest) contest.second_node) was new contest.second
          walker is last) going)

      pub second_can : AreLow walker.machine.todo → HasEntries walker
          → StandsFor contest.script.now.names.items (contest_lines contest) contest.second_node
          fabric → CanTurn by_second
      second_can low entries stands = record {
        stands =
            other_stands contest.script.now.names.items (contest_lines contest) contest.second_node
            contest.first_node fabric stands can.stands.host;
        second_host = can.second_host;
        begun = can.begun;
        turns = can.turns ++ B ∷ [];
        both_is = second_turns
            ∙ (ap (turned_by B) can.both_is ∙ sym (after_one_more can.begun can.turns B));
        start = can.start;
        untagged = can.untagged;
        low_first = can.low_first;
        low_second = low;
        entries_first = can.entries_first;
        entries_second = entries;
        going_first = not_counted can.begun can.turns A B contest.first.going can.going_first refl;
        going_second = counted can.begun (both_of contest) can.turns B can.start can.both_is
            contest.second.going walker.going walker.last can.going_second
            (last_turn (view_of (contest_lines contest) contest.second_node) was new contest.second
            walker is last) going;
      }
