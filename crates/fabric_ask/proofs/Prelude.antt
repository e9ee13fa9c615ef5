-- The words of other crates, of `specs` and of std that several files here cite, passed on.
pub use Rattle.std.proofs.Common.{◌≡◌, ℕ, ◌==◌, ◌&&◌, Bool, true, false, List, [], ◌∷◌, ◌++◌, Option, Some, refl, sym, ap, ◌∙◌, subst, if◌then◌else◌, eq-eqb, ◌≢◌, ◌<◌, None, inl, inr, ◌⊎◌, slice_get, arith, append_assoc, MatchBool, zero, suc, ◌+◌, ◌≤◌, length, option_map, lt-ltb, ◌||◌, not, append-nil, map, filter, nat_lt, cond, ◌-◌, ◌/◌, ◌%◌, unwrap_or, eqb-true, min, All, length-append, IsSome, slice_index_or}
pub use Rattle.std.proofs.lemmas.Bool.{and_parts, and_from, or_right, cases_eq, ne_eqb, and_right}
pub use Rattle.std.proofs.lemmas.List.{same_from_push, get_or_append_left}
pub use Rattle.std.proofs.lemmas.Option.{same_Some}
pub use Rattle.std.specs.Bool.{⊤}
pub use Rattle.std.specs.List.{AllByRecursion, slice_index}
pub use Rattle.std.specs.Option.{option_and_then}
pub use Rattle.fabric_map.specs.Plain.{topology_of, registers_of, ports_of_switch}
pub use Rattle.fabric_map.specs.Routes.{walk, AllRegisters}
pub use Rattle.fabric_map.specs.Topology.{Topology}
pub use Rattle.fabric_model.proofs.Emptying.{behind_length, own_shorter, port_by}
pub use Rattle.fabric_model.proofs.Flows.{two_kinds, switches_stay}
pub use Rattle.fabric_model.proofs.Moving.{sent_by, moves_on, named_goes}
pub use Rattle.fabric_model.proofs.Nodes.{few_prio}
pub use Rattle.fabric_model.proofs.Peers.{port_is, same_port-refl, ArePeers, link_peers, peer_back, some_is, apart_back}
pub use Rattle.fabric_model.specs.Laws.Leaving.{IsAfterMoves, MovesTo}
pub use Rattle.fabric_model.specs.Laws.Leaving.IsAfterMoves.{AsItWas, OnceMore}
pub use Rattle.fabric_model.specs.Laws.Proper.{AreProper}
pub use Rattle.fabric_model.specs.Network.{Item, Network, same_port, peer_in, first_packet, port_of, room_out, IsEndpoint, with_device, held, in_turn, link_in, switch_at, IsSwitch, to_send}
pub use Rattle.fabric_model.specs.Serving.{response_at, device_after, next_at}
pub use Rattle.fabric_model.specs.Steps.{Hold, Free, Linked, AtNode, ByDevice, Step, Needs, after, after_hold, behind_first, only_first, LegalFrom, Leave, Take, item_of, Answer, IsFirst, without_first, DeviceStep, moved_item, NodeStep, Move, Drop, with_waiting}
pub use Rattle.fabric_script.specs.Ports.{port_at}
pub use Rattle.fabric_script.specs.declared.ports.PortRef.{PortRef}
pub use Rattle.fabric_trace.proofs.Network.Boards.{seen_board}
pub use Rattle.fabric_trace.proofs.Network.Faces.{CollectNeeds, collect_needs, head_held, room_is, face_is, port_there, StepNeeds, step_needs}
pub use Rattle.fabric_trace.proofs.Network.Lanes.{counted, lane_at}
pub use Rattle.fabric_trace.proofs.Network.Walks.{peers_round, elsewhere_here}
pub use Rattle.fabric_trace.proofs.Parts.Folding.{seen-append}
pub use Rattle.fabric_trace.proofs.Parts.Keeping.{IsGood, good_by_priority, made_keeps, legal_links, steps_of-append, IsKept, passes_first}
pub use Rattle.fabric_trace.proofs.Parts.Making.{one_part, made-append, made_by, AreOthers, Reaches, pump_reaches, others_here, others_on, others_round}
pub use Rattle.fabric_trace.proofs.Rounds.Blocks.{AreFound, all_found, by_test, serves_made}
pub use Rattle.fabric_trace.proofs.Rounds.Running.{acts_reach, move_made, block_made}
pub use Rattle.fabric_trace.proofs.Traces.Existing.{Exists, good_of, ready_on, settle_exists, serve_all_exist, joined_exist, AreKinds, all_kinds}
pub use Rattle.fabric_trace.specs.Blocks.{Asks, take_lines, pumps, IsSettle}
pub use Rattle.fabric_trace.specs.Fold.{seen, seen_line, changed, edit_of, edited_by, got_from, fired_from}
pub use Rattle.fabric_trace.specs.Known.{Seen, UndetectedAt, Wire, link_at, kept_of, peer_of, port_seen}
pub use Rattle.fabric_trace.specs.Links.{IsLink}
pub use Rattle.fabric_trace.specs.Parts.{Made, PartSteps, Done, PartLacks, PartBegins, Part, PartEnds, PartNames, PartServes, PartTurns, PartTells, PartDelivers, PartFires, Then}
pub use Rattle.fabric_trace.specs.Ready.{IsReady}
pub use Rattle.fabric_trace.specs.Rounds.{Follows, NamesNothing, ServeNodes, Joined, ServesAll, ServeRests, ServeGoes}
pub use Rattle.fabric_trace.specs.Served.{face_in, IsCollect, collect_lines, HasResponseForm, IsMove, faces_in, step_lines, ResponseHasForm}
pub use Rattle.fabric_trace.specs.Views.{Half, lists_in, queue, packets_in}
pub use Rattle.link_buffers.specs.Queues.{list_at, packet_count}
pub use Rattle.link_machine.proofs.Settling.Calming.{calm_round, turns_calm, acts_calm, quiet_calm}
pub use Rattle.link_machine.specs.Acts.{At, acts_notes}
pub use Rattle.link_machine.specs.Calls.{pumped, pump_notes, has_none}
pub use Rattle.link_machine.specs.Rest.{IsSettled, IsDone, IsQuiet}
pub use Rattle.link_model.specs.Places.{place_after, at_rest}
pub use Rattle.link_watch.specs.declared.side.Side.TheVariants.{A, B}
pub use Rattle.maint_packets.proofs.AnswerLaws.{responses_pass, answered_same, status_fits}
pub use Rattle.maint_packets.specs.Answers.{request_answered, RequestAnswered, is_writing, accessed_by, words_read}
pub use Rattle.maint_packets.specs.Layout.{offset_of, tid_of, low_half_of, short_length, long_length}
pub use Rattle.maint_packets.specs.NextHops.{next_of, is_foreign, is_at_end, to_port, moved, is_spent}
pub use Rattle.maint_packets.specs.Requests.{request_of, request_body, names_second, value_in, has_form, op_of, in_half}
pub use Rattle.maint_packets.specs.Responses.{response_of, response_bytes, is_with_data, is_without_data, with_words, IsResponseForm, response_body}
pub use Rattle.maint_packets.specs.declared.next_hop.Next.{Next}
pub use Rattle.maint_packets.specs.declared.next_hop.Next.TheVariants.{Nowhere, RegisterUnit, Port}
pub use Rattle.maint_packets.specs.declared.request.Op.TheVariants.{Read, Write, BadRead, BadWrite}
pub use Rattle.maint_packets.specs.declared.request.Request.{Request}
pub use Rattle.maint_packets.specs.declared.response.Response.{Response}
pub use Rattle.maint_registers.specs.Devices.{Registers, is_switch, new_endpoint}
pub use Rattle.maint_registers.specs.Routes.{next_port}
pub use Rattle.maint_registers.specs.Within.{IsWithin}
pub use Rattle.rio_chars.specs.declared.chars.Char.{Char}
pub use Rattle.rio_chars.specs.declared.edit.Edit.{Edit}
pub use Rattle.rio_packets.proofs.FormLaws.{Passes-from_form, LinkForm-made}
pub use Rattle.rio_packets.proofs.PlaceLaws.{Places, places}
pub use Rattle.rio_packets.specs.Fields.{prio_of, is_request, tt_of, ttype_of, dest_of, source_of, hop_of, ids_end, hop_place, crc_place, is_maintenance, Lowered, ftype_of, half_word_at, is_maintenance_length, is_padded_form}
pub use Rattle.rio_packets.specs.Hops.{is_large, message_ended}
unfoldable pub use Rattle.rio_packets.specs.Hops.{closed}
pub use Rattle.rio_packets.specs.LinkForm.{LinkForm, Passes, IsBody}
pub use Rattle.rio_packets.specs.Words.{word_at, is_status}
pub use Rattle.switch_core.proofs.OrderLaws.{greatest_first-is, least_first-is, least_first-found, greatest_first-found, greatest_first-passed}
pub use Rattle.switch_core.specs.EndpointSteps.{collected, first_held, collected_of, collected_head}
pub use Rattle.switch_core.specs.Faces.{Face, head_of, has_room, face_at}
unfoldable pub use Rattle.switch_core.specs.Order.{least_first, greatest_first}
pub use Rattle.switch_core.specs.declared.endpoint.Collected.{Collected}
pub use Rattle.trace_lines.specs.Lines.{TraceLine, Stepped, Lacked, Full, steps_of, Begun, Signed, Ended, Undetected, Empty, Got, Fired, NoStep}
pub use Rattle.fabric_ask.specs.Answered.{after_request, IsRoundTrip, IsReplied, hops_left, response_home}
pub use Rattle.fabric_ask.specs.Asks.{IsAsk, AskRounds, most_rounds, holds_some, CarryAll, CollectNodes, Handles, AskRound, CollectsAll, CollectRests, CollectStops, CollectGoes, Unheld}
pub use Rattle.fabric_ask.specs.Course.{IsLaid, IsDevicePort, IsEndpointIn, FinalAt, AtHost, NotHost, Final, Fell, WasHeard, HasLeft, HandledAs, GoesOut, Handled, Home, Away, Rounded, Waited, Handed}
pub use Rattle.fabric_ask.specs.Noise.{stirred, IsCarry, is_idle, edit_lines}
pub use Rattle.fabric_ask.specs.Only.{Held, Waits, waits_at, alone, IsOnly, IsLent, is_end, AreAt, Carried, Stays, Lends, Crosses, IsSame, IsClear, Spot}
pub use Rattle.fabric_ask.specs.Own.{CollectsNothing, with_own, NoAnswer, NeverAnswers, IsElsewhere}
pub use Rattle.fabric_ask.specs.Quiet.{AreQuiet}
pub use Rattle.fabric_ask.specs.Travel.{IsOn, HasCome, GoesOn}
