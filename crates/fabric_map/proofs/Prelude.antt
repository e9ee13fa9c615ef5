-- The words of other crates, of `specs` and of std that several files here cite, passed on.
pub use Rattle.std.proofs.Common.{◌≡◌, ◌≢◌, ℕ, zero, suc, ◌<◌, ◌||◌, Bool, true, false, cond, eqb, List, [], ◌∷◌, ◌++◌, length, take, find, slice_index_or, Option, Some, None, All, arith, subst, refl, ap, ◌∙◌, if◌then◌else◌, eq-eqb, eqb-true, sym, ◌+◌, map, filter, append-nil, add-one, ◌≤◌, IsSome, option_map, unwrap_or, AllPairs, Contains, ne_eqb, ◌⊎◌, inl, inr, append_assoc, length-append, ◌==◌, nat_lt, ltb-true, flat_map}
pub use Rattle.std.proofs.lemmas.Bool.{or_right, cases_order}
pub use Rattle.std.proofs.lemmas.List.Elements.{All-contains, Contains-append_right, Contains-append_cases, Contains-get_or, All-push, All-weaker, Contains-push, Contains-push_cases, Contains-append_left}
pub use Rattle.std.proofs.lemmas.List.Folds.{find-append, list_any-append}
pub use Rattle.std.proofs.lemmas.Option.{same_Some}
pub use Rattle.std.specs.List.{list_any, AllByRecursion}
unfoldable pub use Rattle.std.specs.List.{IsDistinct}
pub use Rattle.std.specs.Option.{option_and_then, option_or}
pub use Rattle.fabric_script.specs.Ports.{port_at}
pub use Rattle.fabric_script.specs.declared.ports.PortRef.{PortRef}
pub use Rattle.maint_registers.specs.Routes.{entry_of, next_port}
pub use Rattle.fabric_map.specs.Examples.{ring, IsRing, example_endpoint, switch, entry, ring_devices, ring_entries, skipped, twice_linked, numbered_twice, from_highest, left_out}
pub use Rattle.fabric_map.specs.Locked.{IsForeign, IsNext, IsFirstLocked}
pub use Rattle.fabric_map.specs.Numbered.{device_has_id, is_given, toward, port_toward, port_for, numbers_below, entries_at, IsIdOf, IsKindAt, AreDescribed, paths_of, IsDescribed, IsLeastFree, entries_of, IsMap}
unfoldable pub use Rattle.fabric_map.specs.Numbered.{given_ids}
pub use Rattle.fabric_map.specs.Routes.{AllRegisters, Arrives, AtEndpoint, ThroughSwitch, PacketComes, passed, walk}
pub use Rattle.fabric_map.specs.Topology.{Topology, IsTopology, IsPortIn, device_ports, behind_port, along, entered, node_at, ports_followed, IsReached}
pub use Rattle.fabric_map.specs.Walked.{Before, onward, Walked, IsNotAfter, after_all_paths, IsMet}
pub use Rattle.fabric_map.specs.declared.map.Device.{Device}
pub use Rattle.fabric_map.specs.declared.map.Entry.{Entry}
pub use Rattle.fabric_map.specs.declared.map.Kind.{Kind}
pub use Rattle.fabric_map.specs.declared.map.Kind.TheVariants.{Endpoint, Switch}
