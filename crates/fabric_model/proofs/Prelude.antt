-- The words of other crates, of `specs` and of std that several files here cite, passed on.
pub use Rattle.std.proofs.Common.{true, inr, ◌≡◌, [], ◌∷◌, Some, take, drop, refl, arith, map, ℕ, ◌+◌, Bool, false, eqb, List, ◌++◌, sym, ap, ap₂, ◌∙◌, subst, cond, append-nil, eqb-true, ◌⊎◌, inl, zero, suc, ◌==◌, Option, None, option_map, ◌<◌, ◌≤◌, ◌&&◌, length, if◌then◌else◌, length-append, ◌-◌, leb, slice_get, append_assoc, le-leb, eq-eqb, filter, leb-true, ◌/◌, ◌%◌, not, nat_lt, get_or, ltb-true, ◌↔◌}
pub use Rattle.std.proofs.lemmas.Bool.{and_parts, cases_Bool, false_from_ne_true, ne_eqb, cases_eq, cases_lt, false≢true, lt-ltb}
pub use Rattle.std.proofs.lemmas.Bool.Decides.{nat_tests, eqb_tells}
pub use Rattle.std.proofs.lemmas.List.{map-append, length-map}
pub use Rattle.std.proofs.lemmas.List.Elements.{filter-append}
pub use Rattle.std.specs.Bool.{⊤}
pub use Rattle.std.specs.List.{AllByRecursion}
pub use Rattle.std.specs.Option.{option_and_then}
pub use Rattle.fabric_script.specs.declared.ports.PortRef.{PortRef}
pub use Rattle.maint_packets.proofs.AnswerLaws.{answered_same, responses_pass, answered_within}
pub use Rattle.maint_packets.specs.Answers.{request_answered}
pub use Rattle.maint_packets.specs.NextHops.{moved, moved as next_hop_moved, is_foreign, is_spent, is_at_end, to_port, next_of}
pub use Rattle.maint_packets.specs.Requests.{request_of}
pub use Rattle.maint_packets.specs.declared.next_hop.Next.{Next}
pub use Rattle.maint_packets.specs.declared.next_hop.Next.TheVariants.{Nowhere, Port, RegisterUnit}
pub use Rattle.maint_packets.specs.declared.request.Request.{Request}
pub use Rattle.maint_registers.specs.Devices.{is_switch, Registers}
pub use Rattle.maint_registers.specs.Routes.{next_port, port_named}
pub use Rattle.rio_packets.proofs.CarriesLaws.{decides_passes}
pub use Rattle.rio_packets.specs.Carries.{passes}
pub use Rattle.rio_packets.specs.Fields.{dest_of, prio_of, is_request, ftype_of, hop_of, ttype_of, hop_place, is_maintenance, has_maintenance_form, Lowered}
pub use Rattle.rio_packets.specs.Hops.{lowered}
unfoldable pub use Rattle.rio_packets.specs.Hops.{closed}
pub use Rattle.rio_packets.specs.LinkForm.{Passes}
unfoldable pub use Rattle.rio_packets.specs.Register.{fed, shifted, shifted_times}
pub use Rattle.fabric_model.specs.Laws.Examples.{packet, other, first, pair, pair_steps, held_once, kept_too, left_twice, twins, left_both, left_as_other, freed_too_early, fork, overtaking}
pub use Rattle.fabric_model.specs.Laws.Flows.{SameCourse, SameFlow, RoutesStand, EarlierFirst, InOrder}
pub use Rattle.fabric_model.specs.Laws.Forms.{ItemsPass, IsFormed, AnswersPass}
pub use Rattle.fabric_model.specs.Laws.Freeing.{is_port, held_from, freed_at, IsFront, FreedAfterHeld}
pub use Rattle.fabric_model.specs.Laws.History.{gone, End, EndLeft, EndDropped, EndAnswered, same_end, taken_by, ended_by, IsEmptyNetwork, items_taken, items_ended, gathered, WasTaken}
pub use Rattle.fabric_model.specs.Laws.Holding.{ItemPlace, ReceivedAt, WaitingAt, Over, same_place, items_at, how_often, StandsAt, HoldingExactly}
pub use Rattle.fabric_model.specs.Laws.Leaving.{packet_left, packets_left, moves, Once, Unchanged, IsAfterMoves, AsItWas, OnceMore, moved_by, MovesTo}
pub use Rattle.fabric_model.specs.Laws.Nodes.{HasPort, IsPortOf, JoinsNodes, IsSpot, StandAtNodes, ports_of_node, ports_from, all_ports}
pub use Rattle.fabric_model.specs.Laws.Proper.{AreProper}
pub use Rattle.fabric_model.specs.Laws.Tables.{ByTables, is_answer}
pub use Rattle.fabric_model.specs.Network.{Item, port_of, Network, same_port, peer_in, first_packet, IsEndpoint, switch_at, route_at, Lanes, with_lane, in_turn, with_lent, with_device, places, link_in, to_send, held, room_in, room_out}
pub use Rattle.fabric_model.specs.Serving.{response_at, next_at, device_after}
pub use Rattle.fabric_model.specs.Steps.{Take, Leave, AtNode, after, after_all, LegalFrom, Hold, Free, Move, Drop, Answer, Step, Linked, ByDevice, Needs, IsForRegisters, only_first, behind_first, moved_item, without_first, item_of, after_hold, DeviceStep, IsFirst}
