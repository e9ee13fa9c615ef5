-- The words of other crates, of `specs` and of std that several files here cite, passed on.
pub use Rattle.std.proofs.Common.{◌≡◌, ◌≤◌, ◌⊎◌, inl, inr, ℕ, zero, suc, List, [], ◌∷◌, ◌++◌, length, map, Option, Some, None, refl, sym, ap, ap₂, option_map, ◌∙◌, subst, arith, append-nil, if◌then◌else◌, Bool, true, false, IsTrue, MatchBool, ◌<◌, All, append_assoc, ◌+◌, ◌%◌, eqb, codes, replicate, min, ◌&&◌, take, ◌==◌, nat_le}
pub use Rattle.std.proofs.Math.ListN.{get_or, get_or-map}
pub use Rattle.std.proofs.Math.Seq.{map-set_same, take-append_seam}
pub use Rattle.std.proofs.lemmas.Bool.{eq-eqb, false≢true, eqb-true, eqb-false, ne_eqb}
pub use Rattle.std.proofs.lemmas.List.{map-append, length-set, get_or-set_same, get_or-set_other, length-replicate, length-append, length-map, take-append-le}
pub use Rattle.std.proofs.lemmas.List.Elements.{All-cons, All-head, All-tail, All-append, All-map, All-push}
pub use Rattle.std.specs.List.{AllByRecursion}
pub use Rattle.std.specs.Prelude.{slice_get, slice_set, slice_range, option_and_then, unwrap_or}
pub use Rattle.fabric_model.proofs.Holding.{how_often-append, holding_exactly}
pub use Rattle.fabric_model.proofs.Lists.{all-parts, all-append, all_weaker}
pub use Rattle.fabric_model.specs.Laws.Flows.{SameCourse, RoutesStand}
pub use Rattle.fabric_model.specs.Laws.History.{EndLeft, ended_by, taken_by, items_taken, gone, WasTaken, gathered, IsEmptyNetwork, EndAnswered, items_ended}
pub use Rattle.fabric_model.specs.Laws.Holding.{how_often, ReceivedAt, Over}
pub use Rattle.fabric_model.specs.Laws.Leaving.{IsAfterMoves, moves, AsItWas, OnceMore}
pub use Rattle.fabric_model.specs.Laws.Tables.{is_answer}
pub use Rattle.fabric_model.specs.Network.{Item, Network, port_of, first_packet, room_out, peer_in, Lanes, same_port, with_lane, route_at, sender_id, id_of}
pub use Rattle.fabric_model.specs.Steps.{Take, Step, AtNode, only_first, LegalFrom, NodeStep, Take as Takes, Leave, Linked, ByDevice, Hold, Free, Move, Drop, Answer, item_of, after, after_hold, after_all, Needs, behind_first, moved_item, without_first}
pub use Rattle.fabric_ports.specs.Events.{happened, answer_taken, answer_collected}
pub use Rattle.fabric_ports.specs.declared.answers.Happened.{Happened}
pub use Rattle.fabric_script.specs.declared.lines.Line.{Line}
pub use Rattle.fabric_script.specs.declared.lines.Line.TheVariants.{Send, Collect}
pub use Rattle.fabric_script.specs.declared.lines.Numbered.{Numbered}
pub use Rattle.fabric_script.specs.declared.ports.PortRef.{PortRef}
pub use Rattle.fabric_trace.proofs.Parts.Keeping.{steps_of-append, made_keeps}
pub use Rattle.fabric_trace.proofs.SetUps.Starting.{lawful, legal, set_up_bare, good_start}
pub use Rattle.fabric_trace.specs.Blocks.{IsBlock, SendsBody, IsSettle}
pub use Rattle.fabric_trace.specs.Fold.{seen}
pub use Rattle.fabric_trace.specs.Known.{Seen, UndetectedAt, link_at}
pub use Rattle.fabric_trace.specs.Runs.{start, set_up_all, bare}
pub use Rattle.fabric_trace.specs.Served.{face_in, collect_lines}
pub use Rattle.fabric_trace.specs.SetUps.{IsSetUp}
pub use Rattle.io_memory.proofs.MeetLaws.{after_held, reads_held}
pub use Rattle.io_memory.specs.Laws.{io_number_of}
pub use Rattle.io_memory.specs.Meeting.{met_of, memory_held, met_without, met_at}
pub use Rattle.io_memory.specs.declared.meeting.Met.TheVariants.{Done, Read, Written, Failed}
pub use Rattle.io_packets.specs.Reading.{io_of, read_or_bad, read_of, has_data, write_of, write_with_response_of, any_write_of, is_stream, streaming_write_of, is_plain_reply, is_reply_with_data, io_response_of, io_of_type}
pub use Rattle.io_packets.specs.Serving.{is_within, answer_to, memory_put, memory_after}
pub use Rattle.io_packets.specs.declared.io.Io.{Io}
pub use Rattle.io_rounds.proofs.StateLaws.{met_length}
pub use Rattle.io_rounds.specs.Drives.{IsIoFit, first_state, MayCarry}
pub use Rattle.io_rounds.specs.Going.{IoState, IoGoes, IoComes, Here, Further, IoBegins, IoTurns, IoActs, IoEnds, first_of_turn, behind_event, telling, left_to_do, with_event, begun_line, turned_to, endpoints_of}
pub use Rattle.io_rounds.specs.Stations.{met_by, next_tid_of, with_kept, counted_on, answer_at_node, stations_met, new_station, station_at, memory_of, stations_after, kept_of_node, answer_by, with_memory, met_at_node}
pub use Rattle.io_rounds.specs.Tasks.{IoTask, Carry, Ask, Settle, Turn, Reply, Fetch, Finish, tasks_of, stations_by, task_event, task_behind, sends_io, reply_line}
pub use Rattle.io_script.specs.declared.lines.IoLine.{IoLine}
pub use Rattle.io_script.specs.declared.lines.IoLine.TheVariants.{Memory, NRead, NWrite, NWriteR, SWrite, Round}
pub use Rattle.io_script.specs.declared.lines.NumberedIo.{NumberedIo}
pub use Rattle.maint_registers.specs.Devices.{Registers, is_switch}
pub use Rattle.rio_packets.proofs.FieldLaws.{ftype_of-link_form, prio_of-link_form}
pub use Rattle.rio_packets.specs.Fields.{ftype_of, is_maintenance, Lowered, prio_of, dest_of, body_of, hop_of, tt_of}
pub use Rattle.switch_core.specs.EndpointSteps.{collected}
pub use Rattle.switch_core.specs.declared.endpoint.Collected.{Collected}
pub use Rattle.trace_lines.specs.Lines.{steps_of, TraceLine, Full as NoRoom, Stepped, Lacked, Begun, Signed, Ended, Undetected}
pub use Rattle.io_law.specs.Asks.{IoRequest, io_request, IoAsking, counts_with, next_number_of, as_list, asking_by, begun_in, ask_in, name_in_ask, AreSent, io_request_of, nothing_asked, asking_on, lines_begun, asks_told, AsksAreOfTheirLines}
pub use Rattle.io_law.specs.Items.{io_asked, asked_by, network_at, came, IsSentBy, came_behind, packet_behind, came_by, packets_by, packets_told, asked_behind, replied_behind, replied_by, asked_line, came_line, lines_in, io_replied}
pub use Rattle.io_law.specs.Laws.{DonesAnswerRequests, PacketsComeAsTaken, PacketsHaveOneLine, MemoriesAreTold, ComesBefore, ReadsAreTold, RequestsWereAsked, ResponsesWereReplied, RepliesAnswerServed, OutputIsTold, SameWay, PacketsComeInTurn}
pub use Rattle.io_law.specs.Replies.{IoArrival, Served, arrived_by, io_arrived, served_by, io_served_at, reply_to, IoSent, io_sent_by, sent_at, IsIoServed, IsReplyTo, arrived_behind, sent_behind, served_with, served_behind}
pub use Rattle.io_law.specs.Telling.{IoTold, ToldCame, io_told, told_by, and_told, ToldBegun, told_behind, ToldOver, memory_by, memory_on, memory_left, memory_behind, told_text, text_told}
