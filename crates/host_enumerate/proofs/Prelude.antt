-- The words of other crates, of `specs` and of std that several files here cite, passed on.
pub use Rattle.std.proofs.Common.{ℕ, ◌≡◌, ◌/◌, ◌%◌, ◌^◌, ◌<◌, ◌≤◌, ◌⊎◌, inl, inr, Bool, true, false, eqb, List, length, get_or, slice_get, slice_set, slice_index_or, Option, Some, if◌then◌else◌, refl, sym, ap, subst, ◌∙◌, length-set, eqb-true, ◌≢◌, [], ◌∷◌, ◌++◌, None, unwrap_or, Contains, arith, append-nil, length-append, Result, Ok, Err, IfErr, ◌+◌, zero, suc, nat_lt, ne_eqb, eq-eqb, lt-ltb, le-ltb, ◌||◌, nat_le, map, is_some, ◌&&◌, rules, ◌==◌, IsSome, option_map, ◌*◌, ◌-◌, take, drop, not, bit_and, append_assoc, All}
pub use Rattle.std.proofs.lemmas.Bool.{cases_lt, eqb-false, cases_eq, or_parts, false≢true, not-false, cases_Bool}
pub use Rattle.std.proofs.lemmas.List.{get_or-set_same, get_or-set_other, length-map, map-append, length-replicate, take_all, get_or-map}
pub use Rattle.std.proofs.lemmas.List.Elements.{All-contains, Contains-push_cases, Contains-push, Contains-append_left}
pub use Rattle.std.proofs.lemmas.Option.{slice_get-get_or, slice_get_past, slice_get_read, get_or_from_slice_get, same_Some, slice_get-map, slice_get_within}
pub use Rattle.std.proofs.lemmas.Result.{IfOk-weaker}
pub use Rattle.std.specs.List.{flat_map}
pub use Rattle.std.specs.Option.{option_and_then}
pub use Rattle.fabric_map.proofs.Branches.{further_from_toward, port_toward-free, port_toward-other, port_toward-new, toward-further, port_toward-unbegun}
pub use Rattle.fabric_map.proofs.Few.{walked-few, entered-inside, entered-port, walked-fewer}
pub use Rattle.fabric_map.proofs.Fronts.{front_listed, passed_listed, not_before_empty}
pub use Rattle.fabric_map.proofs.Given.{has_id-endpoint, has_id-switch, or_false, is_given-later, is_given-not, is_given-new, is_given-contains, found-by_id}
pub use Rattle.fabric_map.proofs.Growing.{node_at-entered, path_listed, host-first, device_on, described-listed, described-switch, paths_of-push, described-push, described-endpoint, tag-some}
pub use Rattle.fabric_map.proofs.Leading.{along-onward, followed-host, along-append, port_of_entry, each_is_reached, some_from_same, onward_is_followed}
pub use Rattle.fabric_map.proofs.Lists.{Contains-cases, AllPairs-first, Contains-first, Contains-rest, not_in_empty}
pub use Rattle.fabric_map.proofs.Order.{onward-not_empty, Before-further, Before-transitive}
pub use Rattle.fabric_map.proofs.Steps.{onward_further, takes_in, empty-before, begins, goes_past, closes}
pub use Rattle.fabric_map.proofs.Ways.{behind-link, first_link, request_ends, answer_returns, followed-switch}
pub use Rattle.fabric_map.specs.Fitting.{Fits}
pub use Rattle.fabric_map.specs.Locked.{IsNext, IsForeign}
pub use Rattle.fabric_map.specs.Numbered.{paths_of, AreDescribed, HasBaseId, device_has_id, is_given, IsLeastFree, toward, port_toward, port_for, entries_of, IsMarked, ChangesOnly, IsNumbered, IsDescribed, IsKindAt, IsIdOf}
pub use Rattle.fabric_map.specs.Plain.{ports_of_switch, topology_of, registers_of}
pub use Rattle.fabric_map.specs.Routes.{AllRegisters, PacketComes, walk, passed}
pub use Rattle.fabric_map.specs.Topology.{Topology, IsTopology, device_ports, behind_port, along, ports_followed, entered, node_at, IsPortIn, IsReached}
pub use Rattle.fabric_map.specs.Walked.{Before, onward, Walked, after_all_paths, IsMet}
pub use Rattle.fabric_map.specs.Ways.{IsOpened}
pub use Rattle.fabric_map.specs.declared.map.Device.{Device}
pub use Rattle.fabric_map.specs.declared.map.Kind.{Kind}
pub use Rattle.fabric_map.specs.declared.map.Kind.TheVariants.{Endpoint, Switch}
pub use Rattle.fabric_script.proofs.PeerLaws.{port_is, same_port-refl, peer-linked, peer-before, peer-behind}
pub use Rattle.fabric_script.specs.Known.{Known, of_script, nothing, known_after, nodes_after, cost_of, node_ports, ports_of, node_is_switch, same_port, is_linked, links_after, is_known_switch}
pub use Rattle.fabric_script.specs.Lines.{new_name}
pub use Rattle.fabric_script.specs.Peers.{peer_in}
pub use Rattle.fabric_script.specs.Ports.{port_at}
pub use Rattle.fabric_script.specs.Reading.{MayBe, IsFree}
pub use Rattle.fabric_script.specs.Scripts.{PassesFrom, ScriptPasses}
pub use Rattle.fabric_script.specs.declared.known.Node.{Node}
pub use Rattle.fabric_script.specs.declared.lines.Line.{Line}
pub use Rattle.fabric_script.specs.declared.lines.Numbered.{Numbered}
pub use Rattle.fabric_script.specs.declared.ports.PortRef.{PortRef}
pub use Rattle.fabric_script.specs.declared.reasons.Reason.TheVariants.{PortTaken, WrongKind, TooMuchWork}
pub use Rattle.maint_registers.proofs.AccessLaws.{select-written, entry-written, status-read, base_id-written, lock-read, tag-read, lock-written, features-read, port_information-read, default_port-written, base_id-read, tag-written}
pub use Rattle.maint_registers.proofs.ChangeLaws.{map-with_device, device-changed, device-kept, length-with_device, changed_at}
pub use Rattle.maint_registers.proofs.RouteLaws.{entry-set_same, entry-set_other, entry-next, default-next, next-same}
pub use Rattle.maint_registers.proofs.SameLaws.{write_same, same_kind}
pub use Rattle.maint_registers.specs.Access.{written_at, value_at, locked}
pub use Rattle.maint_registers.specs.Changes.{with_device, linked_at, routed, defaulted, held_by, large_set}
pub use Rattle.maint_registers.specs.Devices.{Registers, IsDevice, IsSameDevice, new_endpoint, is_switch, new_switch, with_link}
unfoldable pub use Rattle.maint_registers.specs.Devices.{no_routes}
pub use Rattle.maint_registers.specs.Routes.{next_port, entry_of, port_named}
pub use Rattle.rio_chars.specs.Written.{Writes}
pub use mathlib.Core.Path.{fun_ext}
pub use Rattle.host_enumerate.specs.Accesses.{answered, registers_with, after_access, IsAnswered}
pub use Rattle.host_enumerate.specs.Asking.{IsApart, PassesOnce, IsAskable, Becomes, IsWritable, AreSame, IsOpenAfter}
pub use Rattle.host_enumerate.specs.Carrying.{IsNumbering, HasAnswered, StopsAtLock, HasWalkStopped, WalkWent}
pub use Rattle.host_enumerate.specs.Devised.{with_linked_end, devices_after, devices_after_all, links_after_all, IsHost, JudgesHost, MayDevise, devices_of, links_of}
pub use Rattle.host_enumerate.specs.Ends.{walk_end_of, IsEnded, EndsAtLock, IsLockFree}
pub use Rattle.host_enumerate.specs.Founds.{IsFound, HasFound, IsFoundBehind, tried_after}
pub use Rattle.host_enumerate.specs.Holding.{IsTakable, IsHolder}
pub use Rattle.host_enumerate.specs.MapTexts.{device_text, entry_text, port_behind_point}
pub use Rattle.host_enumerate.specs.PeerTables.{HasPeers}
pub use Rattle.host_enumerate.specs.Setting.{with_entry, IsSameBut, IsCleared, AreRouted, HasNewId, PathPasses, SwitchIsSetUp}
pub use Rattle.host_enumerate.specs.TakingIn.{IsTried, IsKindLeft, IsTakenIn}
pub use Rattle.host_enumerate.specs.Underway.{IsUnmet, IsUnderway, id_after, given_below, IdsAreCounted, HasTable, HasTableOf, IsHeld, AreOwnUntagged, met_as, AreUntagged}
pub use Rattle.host_enumerate.specs.declared.maint.Access.{Access}
pub use Rattle.host_enumerate.specs.declared.maint.Access.TheVariants.{Read, Write}
pub use Rattle.host_enumerate.specs.declared.maint.Maint.{Ghosts}
pub use Rattle.host_enumerate.specs.declared.taking.Numbering.{Numbering}
pub use Rattle.host_enumerate.specs.declared.walk.Found.{Found}
