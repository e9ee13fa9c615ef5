-- The words of other crates, of `specs` and of std that several files here cite, passed on.
pub use Rattle.std.proofs.Common.{◌≡◌, ℕ, ◌+◌, ◌*◌, ◌/◌, ◌%◌, ◌==◌, zero, suc, nat_lt, Bool, true, false, eqb, List, [], ◌∷◌, ◌++◌, Option, Some, None, arith, refl, if◌then◌else◌, ◌≤◌, ◌-◌, ◌&&◌, take, ne_eqb, length, Result, Ok, Err, OnOk, sym, ap, subst, ◌∙◌, ◌<◌, length-append, option_to_list, eq-eqb, flat_map}
pub use Rattle.contest_machine.specs.Machine.{Walker, write, entry_set, route_of, route_pending, routes_to, cleared_below, home_set, last_path, but_last, freeing, port_after, gone_on, taken, judged, numbered, outward, wants, settled, walker_told, told_at, reached, reaches, stepped, switch_set_up, told_with, State, kept, fresh}
pub use Rattle.contest_machine.specs.Turns.{is_locking, locked_on, walker_turned, came_of}
pub use Rattle.contest_machine.specs.Within.{AreShort, IsBoundedAt, WalkerIsWithin}
pub use Rattle.contest_machine.specs.declared.stages.Asked.{Asked}
pub use Rattle.contest_machine.specs.declared.stages.PendingWrite.{PendingWrite}
pub use Rattle.contest_machine.specs.declared.stages.Stage.{Stage}
pub use Rattle.contest_machine.specs.declared.stages.Stage.TheVariants.{Ask, Claim, Check, Test, Features, Information, Status, Free, Done, Lost}
pub use Rattle.contest_machine.specs.declared.stages.Tried.{Tried}
pub use Rattle.fabric_map.specs.Numbered.{toward, paths_of}
pub use Rattle.fabric_map.specs.Routes.{AllRegisters}
pub use Rattle.fabric_map.specs.Topology.{entered, Topology}
pub use Rattle.fabric_map.specs.declared.map.Device.{Device}
pub use Rattle.fabric_map.specs.declared.map.Kind.TheVariants.{Endpoint, Switch}
pub use Rattle.fabric_script.specs.declared.ports.PortRef.{PortRef}
pub use Rattle.host_enumerate.specs.Accesses.{answered, after_access}
pub use Rattle.host_enumerate.specs.Underway.{id_after, met_as}
pub use Rattle.host_contest.specs.Machines.{machine_of, new_walker, device_added, with_home, with_tried, port_left, is_clear, is_numbered, machine_is_done}
pub use Rattle.host_contest.specs.Reaching.{IsOfLock, IsAtHost, AreLow}
pub use Rattle.host_contest.specs.Steps.{state_in, CanStep}
pub use Rattle.host_contest.specs.declared.machine.Machine.{Machine}
