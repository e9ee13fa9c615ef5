-- The laws of two hosts, of those of a script.
use Rattle.std.proofs.Common.{◌≡◌, ℕ, ◌&&◌, true, false, List, [], ◌∷◌, Contains, refl, sym, ap, subst, ◌∙◌}
use Rattle.fabric_map.specs.declared.map.Device.{Device}
use Rattle.fabric_map.specs.Topology.{Topology, node_at}
use Rattle.fabric_map.specs.Routes.{AllRegisters}
use Rattle.fabric_map.proofs.Growing.{device_on}
use Rattle.host_enumerate.specs.Underway.{AreOwnUntagged}
use Rattle.link_watch.specs.declared.side.Side.{Side}
use Rattle.link_watch.specs.declared.side.Side.TheVariants.{A, B}
use Rattle.contest_machine.specs.declared.stages.PendingWrite.{PendingWrite}
use Rattle.contest_machine.specs.declared.stages.Stage.{Stage}
use Rattle.contest_machine.specs.declared.stages.Stage.TheVariants.{Ask, Claim, Check, Test, Features, Information, Status, Free, Done, Lost}
use Rattle.contest_machine.specs.Machine.{Walker}
use Rattle.contest_machine.specs.Turns.{Both, after_turns}
use Rattle.contest_machine.specs.Contest.{Keeps}
use Rattle.contest_machine.specs.Keeping.{KeepsApart}
use Rattle.contest_machine.specs.Locks.{walker_of}
use Rattle.contest_machine.specs.Going.{AreBegun, HasNumbered}
use Rattle.contest_machine.specs.Numbering.{KeepsItsMap}
use Rattle.contest_machine.specs.Waiting.{IsLostWalker}
use Rattle.contest_machine.proofs.Keeping.Apart.{turns_keep_apart}
use Rattle.contest_machine.proofs.Numbering.Whole.{done_keeps_its_map}
use Rattle.contest_machine.proofs.Numbering.Together.{turns_leave_others}
use Rattle.contest_machine.proofs.Turns.Counted.{going_bounded}
use Rattle.contest_machine.proofs.Turns.Judging.{lost_exactly, lost_hosts_met_a_greater}
use Rattle.contest_machine.proofs.Turns.Staying.{walkers_stay}
use Rattle.contest_machine.proofs.Turns.WaitingTurns.{waiting_exactly}
use Rattle.host_contest.specs.Machines.{is_clear, is_last_stage, is_numbered}
use Rattle.fabric_contest.specs.Contests.{new_both}
use Rattle.fabric_contest.specs.ContestTexts.{has_numbered, is_over}
use Rattle.fabric_contest.specs.HostLaws.{IsContested, HostsBegin, DoneIsContested, HostsWait, TurnsAreLost, HostsAreLost, HostsAreLeftAlone, EndsAreTold, HostsGoOnFewTimes, CountsAreFew}
use Rattle.fabric_contest.proofs.Begun.{are_begun, none_tagged}
use Rattle.fabric_contest.proofs.Goings.{first_goes_few, second_goes_few}

pub hosts_begin : HostsBegin
hosts_begin names lines first second hosts = (
  are_begun names lines hosts.passes first second hosts.first_host hosts.second_host
      hosts.differ,
  none_tagged names lines hosts.passes first second hosts.first_host hosts.second_host
      hosts.differ,
)

-- ---- the map

module _ (both : Both) (turns : List Side) (side : Side) (begun : AreBegun both)
    (untagged : AreOwnUntagged (walker_of both side).view both.registers (walker_of both side).id)
    (numbered : HasNumbered (walker_of (after_turns both turns) side)) where
  abbrev w : Walker
  w = walker_of (after_turns both turns) side

  abbrev now : AllRegisters
  now = (after_turns both turns).registers

  its : KeepsItsMap w now
  its = done_keeps_its_map both turns side begun untagged numbered

  apart : KeepsApart both.registers (after_turns both turns)
  apart = turns_keep_apart both turns (begun.new A) (begun.new B) begun.differ (begun.ids A)
      (begun.ids B)

  lock_of : (at : Side) (node : ℕ) → Keeps (walker_of (after_turns both turns) at) node
      → (now node).lock ≡ (walker_of (after_turns both turns) at).id
  lock_of A node keeps = apart.first node keeps
  lock_of B node keeps = apart.second node keeps

  host_on : (device : Device) × Contains w.devices device × (device.path ≡ [])
  host_on = device_on w.devices [] (its.numbered.map.walked.host_met tt)

  marked_host : (now w.view.host).lock ≡ (its.before w.view.host).base_id
  marked_host = (its.numbered.marked host_on.0 w.view.host host_on.1
      (ap (λ (path : List ℕ). node_at w.view path) host_on.2)).lock

  kept_host : (now w.view.host).lock ≡ w.id
  kept_host = lock_of side w.view.host (its.keeps w.view.host ([], refl))

  own_is : (its.before w.view.host).base_id ≡ (walker_of both side).id
  own_is = sym marked_host ∙ (kept_host ∙ (walkers_stay both turns side).1)

  here : IsContested w.view (its.before w.view.host).base_id w.devices now
  here = record {
    map = its.numbered.map;
    marked = its.numbered.marked;
    tables = its.numbered.tables;
    routed = its.numbered.routed;
  }

  pub contested : IsContested (walker_of both side).view (walker_of both side).id w.devices now
  contested =
      subst (λ (v : Topology). IsContested v (walker_of both side).id w.devices now)
      (walkers_stay both turns side).0
      (subst (λ (i : ℕ). IsContested w.view i w.devices now) own_is here)

pub done_is_contested : DoneIsContested
done_is_contested names lines first second turns side hosts numbered =
    let begins = hosts_begin names lines first second hosts in (
      contested (new_both lines first second) turns side begins.0 (begins.1 side) numbered,
      turns_leave_others (new_both lines first second) turns begins.0 begins.1,
    )

-- ---- waiting and losing

pub hosts_wait : HostsWait
hosts_wait names lines first second turns side hosts =
    let begun = (hosts_begin names lines first second hosts).0 in
    waiting_exactly (new_both lines first second) turns side (begun.new side) (begun.ids side)
    (begun.proper side) (begun.shown side)

pub turns_are_lost : TurnsAreLost
turns_are_lost names lines first second turns side hosts =
    let begun = (hosts_begin names lines first second hosts).0 in
    lost_exactly (new_both lines first second) turns side (begun.new side)

pub hosts_are_lost : HostsAreLost
hosts_are_lost names lines first second turns side hosts =
    let begun = (hosts_begin names lines first second hosts).0 in
    lost_hosts_met_a_greater (new_both lines first second) turns side (begun.new side)

pub hosts_are_left_alone : HostsAreLeftAlone
hosts_are_left_alone names lines first second earlier side hosts unlocked lost = record {
  begun = (hosts_begin names lines first second hosts).0;
  unlocked = unlocked;
  lost = lost;
}

-- ---- what is told

is_done : (stage : Stage) (todo : List PendingWrite) → (is_numbered stage && is_clear todo) ≡ true
    → (stage ≡ Done) × (todo ≡ [])
is_done Ask todo is = absurd (cc)
is_done Claim todo is = absurd (cc)
is_done Check todo is = absurd (cc)
is_done Test todo is = absurd (cc)
is_done Features todo is = absurd (cc)
is_done Information todo is = absurd (cc)
is_done Status todo is = absurd (cc)
is_done Free todo is = absurd (cc)
is_done Done [] is = (refl, refl)
is_done Done (p ∷ rest) is = absurd (cc)
is_done Lost todo is = absurd (cc)

is_lost : (stage : Stage) (todo : List PendingWrite) → (is_numbered stage && is_clear todo) ≡ false
    → (is_last_stage stage && is_clear todo) ≡ true → (stage ≡ Lost) × (todo ≡ [])
is_lost Ask todo none is = absurd (cc)
is_lost Claim todo none is = absurd (cc)
is_lost Check todo none is = absurd (cc)
is_lost Test todo none is = absurd (cc)
is_lost Features todo none is = absurd (cc)
is_lost Information todo none is = absurd (cc)
is_lost Status todo none is = absurd (cc)
is_lost Free todo none is = absurd (cc)
is_lost Done [] none is = absurd (cc)
is_lost Done (p ∷ rest) none is = absurd (cc)
is_lost Lost [] none is = (refl, refl)
is_lost Lost (p ∷ rest) none is = absurd (cc)

told_done : (w : Walker) → HasNumbered w → has_numbered w ≡ true
told_done w is =
    ap (λ (s : Stage). is_numbered s && is_clear w.todo) is.0 ∙ ap is_clear is.1

told_lost : (w : Walker) → IsLostWalker w → (has_numbered w ≡ false) × (is_over w ≡ true)
told_lost w is = (
  ap (λ (s : Stage). is_numbered s && is_clear w.todo) is.0,
  ap (λ (s : Stage). is_last_stage s && is_clear w.todo) is.0 ∙ ap is_clear is.1,
)

pub ends_are_told : EndsAreTold
ends_are_told w = (
  (λ is. is_done w.stage w.todo is, told_done w),
  (λ is. is_lost w.stage w.todo is.0 is.1, told_lost w),
)

-- ---- going on

pub hosts_go_on_few_times : HostsGoOnFewTimes
hosts_go_on_few_times names lines first second turns side hosts =
    going_bounded (new_both lines first second) turns side
    (hosts_begin names lines first second hosts).0

pub counts_are_few : CountsAreFew
counts_are_few contest can = (first_goes_few contest can, second_goes_few contest can)
