-- The accesses of both hosts reach a device, and its answer comes back.
use Rattle.std.proofs.Common.{◌≡◌, true, false, [], inl, inr, subst, sym, ap, ◌∙◌}
use Rattle.fabric_map.specs.Topology.{Topology}
use Rattle.fabric_map.specs.Routes.{AllRegisters}
use Rattle.fabric_map.specs.Plain.{registers_of}
use Rattle.link_watch.specs.declared.side.Side.{Side}
use Rattle.link_watch.specs.declared.side.Side.TheVariants.{A, B}
use Rattle.contest_machine.specs.declared.stages.Stage.TheVariants.{Ask}
use Rattle.contest_machine.specs.Machine.{Walker}
use Rattle.contest_machine.specs.Turns.{Both}
use Rattle.contest_machine.proofs.Numbering.Begins.{starter}
use Rattle.contest_machine.proofs.Numbering.Whole.{HasCome, IsReady}
use Rattle.contest_machine.proofs.Asking.AllOpen.{IsOpeningFor, turns_open}
use Rattle.contest_machine.proofs.Asking.Guided.{IsGuided}
use Rattle.contest_machine.proofs.Asking.Opened.{IsOpening}
use Rattle.contest_machine.proofs.Asking.Reached.{asked_reaches}
use Rattle.host_contest.specs.declared.machine.Machine.{Machine}
use Rattle.host_contest.specs.Machines.{machine_of}
use Rattle.host_contest.specs.Reaching.{IsOfLock, IsAtHost, CanReachOn, AreLow}
use Rattle.host_contest.specs.Steps.{CanStep}
use Rattle.fabric_contest.specs.Contests.{view_of, contest_lines, both_of, CanTurn}
use Rattle.fabric_contest.specs.declared.contest.Contest.{Contest}

new_at_host : (w : Walker) → w ≡ starter w.view w.id false Ask [] → IsAtHost w
new_at_host w is = record {
  path = ap (λ (v : Walker). v.path) is;
  clear = ap (λ (v : Walker). v.todo) is;
  stage = subst IsOfLock (ap (λ (v : Walker). v.stage) (sym is)) tt;
}

module _ (view : Topology) (machine : Machine) (before : AllRegisters) (o : Walker)
    (now : AllRegisters)
    (ready : IsReady before (machine_of view machine) o now) where
  abbrev w : Walker
  w = machine_of view machine

  step_can : AreLow machine.todo → CanStep view now machine
  step_can low = record {
    topology = ready.fair.first.within.proper;
    id = ready.fair.contest.first_id;
    mine = ready.fair.contest.first;
    within = ready.fair.first.within;
    low = low;
  }

  step_reaches : IsGuided w → IsOpening w now → CanReachOn w now
  step_reaches guided opening = record {
    later = λ begun ask wanted.
        let there = asked_reaches before w o now ready guided opening ask wanted in (
          there.0,
          record {
            leads = there.1;
            short = there.2;
            answered = there.3;
          },
        );
    first = λ not. come not ready.come;
  }
    where
      come : w.begun ≡ false → HasCome w now → IsAtHost w
      come not (inl begun) = absurd (let clash : true ≡ false = sym begun.0 ∙ not in cc)
      come not (inr new) = new_at_host w new.0

module _ (contest : Contest) (can : CanTurn contest) where
  opening_for : (side : Side) → IsOpeningFor can.begun.registers (both_of contest) side
  opening_for side =
      subst (λ (b : Both). IsOpeningFor can.begun.registers b side) (sym can.both_is)
      (turns_open can.begun can.turns side can.start (can.untagged side))

  abbrev now : AllRegisters
  now = registers_of contest.fabric.devices.items

  abbrev first_view : Topology
  first_view = view_of (contest_lines contest) contest.first_node

  abbrev second_view : Topology
  second_view = view_of (contest_lines contest) contest.second_node

  pub first_step : CanStep first_view now contest.first.machine
  first_step =
      step_can first_view contest.first.machine can.begun.registers (both_of contest).second now
      (opening_for A).0 can.low_first

  pub second_step : CanStep second_view now contest.second.machine
  second_step =
      step_can second_view contest.second.machine can.begun.registers (both_of contest).first now
      (opening_for B).0 can.low_second

  pub first_reaches : CanReachOn (machine_of first_view contest.first.machine) now
  first_reaches =
      step_reaches first_view contest.first.machine can.begun.registers (both_of contest).second now
      (opening_for A).0 (opening_for A).1 (opening_for A).2

  pub second_reaches : CanReachOn (machine_of second_view contest.second.machine) now
  second_reaches =
      step_reaches second_view contest.second.machine can.begun.registers (both_of contest).first
      now (opening_for B).0 (opening_for B).1 (opening_for B).2
