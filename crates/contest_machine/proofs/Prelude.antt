-- The words of other crates, of `specs` and of std that several files here cite, passed on.
pub use Rattle.std.proofs.Common.{◌≡◌, ◌≢◌, ℕ, ◌≤◌, Bool, false, List, [], ◌∷◌, length, Some, None, Contains, arith, inl, inr, subst, sym, refl, ap, ◌∙◌, ◌+◌, ◌*◌, true, ◌++◌, ◌⊎◌, if◌then◌else◌, ◌-◌, length-append, ◌/◌, ◌%◌, ◌==◌, zero, suc, nat_lt, eqb, Option, AllPairs, ◌<◌, append_assoc, unwrap_or, IsSome, option_map, ne_eqb, append-nil, ◌||◌, map, eq-eqb, is_some, ◌^◌, ◌↔◌}
pub use Rattle.std.proofs.lemmas.Bool.{eqb-true, eqb-false, cases_eq, ltb-true, ltb-false, cases_order, cases_lt, lt-ltb}
pub use Rattle.std.proofs.lemmas.List.{length-map}
pub use Rattle.std.proofs.lemmas.List.Elements.{Contains-append_left, Contains-append_cases, All-contains, Contains-append_right}
pub use Rattle.std.proofs.lemmas.Option.{same_Some}
pub use Rattle.std.specs.List.{list_any, AllByRecursion}
unfoldable pub use Rattle.std.specs.List.{IsDistinct}
pub use Rattle.std.specs.Option.{option_and_then}
pub use Rattle.fabric_map.proofs.Branches.{toward-further, further_from_toward}
pub use Rattle.fabric_map.proofs.Few.{entered-inside, same_number, entered-port}
pub use Rattle.fabric_map.proofs.Fronts.{not_before_empty, passed_listed}
pub use Rattle.fabric_map.proofs.Growing.{node_at-entered, device_on, path_listed, host-first, listed-switch, paths_of-push, described-listed}
pub use Rattle.fabric_map.proofs.Leading.{along-append, onward_is_followed, each_is_reached, port_of_entry, some_from_same, followed-host, along-onward}
pub use Rattle.fabric_map.proofs.Lists.{Contains-cases, AllPairs-first, Contains-first, Contains-rest, AllPairs-rest, not_in_empty}
pub use Rattle.fabric_map.proofs.Order.{further-not_less}
pub use Rattle.fabric_map.proofs.Steps.{begins, closes}
pub use Rattle.fabric_map.proofs.Ways.{request_ends, answer_returns, behind-link, followed-switch}
pub use Rattle.fabric_map.specs.Fitting.{Fits}
pub use Rattle.fabric_map.specs.Locked.{IsNext, IsForeign}
pub use Rattle.fabric_map.specs.Numbered.{paths_of, toward, AreDescribed, HasBaseId, IsKindAt, entries_of, IsNumbered}
pub use Rattle.fabric_map.specs.Routes.{AllRegisters, walk}
pub use Rattle.fabric_map.specs.Topology.{Topology, IsTopology, entered, node_at, device_ports, behind_port, along, ports_followed, IsReached, IsPortIn}
pub use Rattle.fabric_map.specs.Walked.{Walked, Before, onward, after_all_paths, IsMet}
pub use Rattle.fabric_map.specs.Ways.{IsOpened}
pub use Rattle.fabric_map.specs.declared.map.Device.{Device}
pub use Rattle.fabric_map.specs.declared.map.Kind.{Kind}
pub use Rattle.fabric_map.specs.declared.map.Kind.TheVariants.{Endpoint, Switch}
pub use Rattle.fabric_script.specs.Ports.{port_at}
pub use Rattle.fabric_script.specs.declared.ports.PortRef.{PortRef}
pub use Rattle.host_enumerate.proofs.Askable.{not_host-next, not_host-first, opened-empty, opened-first, never_empty, never_single, split-onward, opened-onward}
pub use Rattle.host_enumerate.proofs.Counting.{counted-none, id_after-few}
pub use Rattle.host_enumerate.proofs.Frames.{with_device-other, with_device-at, with_device-itself}
pub use Rattle.host_enumerate.proofs.Keeping.{next-with_entry, underway-same, next-home, underway-255, underway-elsewhere}
pub use Rattle.host_enumerate.proofs.Meeting.{IsMember, met-tagged, unmet-untagged, member_or_unmet}
pub use Rattle.host_enumerate.proofs.Routing.{entry_sends, opened-front, opened-entry, sends_is_switch, enters_before}
pub use Rattle.host_enumerate.proofs.Stepping.{followed-ports, underway-bound, underway-entry, underway-past, underway-unlinked, followed-none, underway-closed}
pub use Rattle.host_enumerate.proofs.TakingEndpoint.{underway-endpoint, passed_switch, endpoint_at}
pub use Rattle.host_enumerate.proofs.TakingSwitch.{IsTaken, underway-host, underway-switch}
pub use Rattle.host_enumerate.specs.Accesses.{after_access, answered, IsAnswered, registers_with}
pub use Rattle.host_enumerate.specs.Holding.{IsTakable}
pub use Rattle.host_enumerate.specs.Setting.{with_entry, SwitchIsSetUp, PathPasses, AreRouted, IsCleared}
pub use Rattle.host_enumerate.specs.Underway.{AreOwnUntagged, IsUnmet, id_after, met_as, IsUnderway, given_below}
pub use Rattle.host_enumerate.specs.declared.maint.Access.{Access}
pub use Rattle.host_enumerate.specs.declared.maint.Access.TheVariants.{Read, Write}
pub use Rattle.link_watch.specs.Sides.{other_side}
pub use Rattle.link_watch.specs.declared.side.Side.{Side}
pub use Rattle.link_watch.specs.declared.side.Side.TheVariants.{A, B}
pub use Rattle.maint_registers.proofs.AccessLaws.{lock-written, tag-written, select-written, lock-read, tag-read, base_id-written, port_information-read, status-read, entry-written, default_port-written, features-read, status-none}
pub use Rattle.maint_registers.proofs.BesideLaws.{lock-stays, tag-stays, entry-stays}
pub use Rattle.maint_registers.proofs.SameLaws.{same_device, same_kind, write_same}
pub use Rattle.maint_registers.specs.Access.{locked}
pub use Rattle.maint_registers.specs.Devices.{Registers, is_switch, IsDevice, IsSameDevice, new_endpoint}
pub use Rattle.maint_registers.specs.Routes.{next_port, entry_of}
pub use Rattle.contest_machine.specs.Asking.{WantsAlong, IsCarried, OpenPathsCarry, WantsBehind, PathsAreOpened, AccessesAreCarried}
pub use Rattle.contest_machine.specs.Contest.{AreOwnWrites, IsMine, Keeps, IsContest, Knows, AreOnce, AreListed, IsLockOfNone, IsAtPath, TagComes, HasClaimed}
pub use Rattle.contest_machine.specs.Examples.{beginner, two_hosts, five_each, host_waiting, waiting_host}
pub use Rattle.contest_machine.specs.Going.{AreBegun, HasNumbered, going_one, going_in_turn, turns_of, IsLeftAlone, AloneIsNoWait, AloneIsDone, going_over, GoingIsBounded, IsUnlocked}
pub use Rattle.contest_machine.specs.Keeping.{IsNew, TurnsKeepApart, HoldsOn, GreaterHoldsOn, IsOwnChange, AccessesChangeTheirOwn, WalkersStay}
pub use Rattle.contest_machine.specs.Locks.{walker_of, state_of, side_answer, locks_in_turn, lock_at, lock_next, locks_over, reads_lock, lock_told_to, lock_next_on, locks_at_first, locks_in}
pub use Rattle.contest_machine.specs.Machine.{Walker, State, fresh, asked, wants_at, wants_with, wants, kept, last_path, status_asked, stepped, write, entry_set, route_of, route_pending, routes_to, cleared_below, but_last, freeing, port_after, gone_on, taken, judged, numbered, switch_set_up, outward, settled, walker_told, told_at, reached, reaches, home_set, own_id, told_with}
pub use Rattle.contest_machine.specs.Numbering.{TurnsLeaveOthers, KeepsItsMap, DoneKeepsItsMap, OneIsDone}
pub use Rattle.contest_machine.specs.Turns.{Both, walker_turned, turn_of, after_turns, is_locking, locked_on, waits_or_goes, ends, came_at, came_of}
pub use Rattle.contest_machine.specs.Waiting.{HasLesser, HasGreater, IsLostWalker, LostHostsMetAGreater, LostIsForAGreater, WaitingIsForALesser}
pub use Rattle.contest_machine.specs.Within.{WalkIsBounded, IsBoundedAt, WalkerIsWithin, AreShort}
pub use Rattle.contest_machine.specs.declared.stages.Asked.{Asked}
pub use Rattle.contest_machine.specs.declared.stages.PendingWrite.{PendingWrite}
pub use Rattle.contest_machine.specs.declared.stages.Stage.{Stage}
pub use Rattle.contest_machine.specs.declared.stages.Stage.TheVariants.{Ask, Claim, Check, Test, Features, Information, Status, Free, Done, Lost}
pub use Rattle.contest_machine.specs.declared.stages.Tried.{Tried}
pub use Rattle.contest_machine.specs.declared.stages.Turn.{Turn}
