-- The words of other crates, of `specs` and of std that several files here cite, passed on.
pub use Rattle.std.proofs.Common.{◌≡◌, ℕ, suc, ◌+◌, ◌≤◌, ◌++◌, Bool, true, false, List, [], ◌∷◌, refl, sym, ap, ◌∙◌, arith, append_assoc, if◌then◌else◌, append-nil, ◌%◌, ◌<◌, map, None, subst, ◌≢◌, inl, inr, ◌==◌, nat_le, length, ◌-◌, take, Option, Some, option_to_list, length-take, ◌⊎◌, ◌&&◌, length-append, zero, slice_get, cond, nat_lt, drop, All, filter, slice_set, unwrap_or, IsTrue, IfSome, IsSome, option_map, option_and_then, MatchBool, not, ◌||◌, get_or, is_some, take-append-drop, ◌↔◌, Contains, ◌^◌}
pub use Rattle.std.proofs.lemmas.Bool.{cases_lt, eqb-true, leb-true, ltb-true, and_parts, or_parts, true≢false, false≢true, not-false}
pub use Rattle.std.proofs.lemmas.Bool.Decides.{eqb_tells, nat_tests}
pub use Rattle.std.proofs.lemmas.List.{length-map, take_all, map-append, drop_more}
pub use Rattle.std.proofs.lemmas.List.Elements.{All-head, All-tail, All-take, All-nil, All-cons, Contains-append_left, Contains-append_right, Contains-append_cases, All-from_recursion, recursion_from_All}
pub use Rattle.std.proofs.lemmas.Option.{slice_get-get_or, same_Some, slice_get-map, slice_get_within, get_or_from_slice_get}
pub use Rattle.std.specs.Bool.{⊤}
pub use Rattle.std.specs.List.{AllByRecursion}
unfoldable pub use Rattle.crc_division.specs.Bits.{bits, number}
unfoldable pub use Rattle.crc_division.specs.Division.{division_steps, complemented}
pub use Rattle.fabric_model.proofs.Devices.{length-with_device, kinds_stay, map-with_device}
pub use Rattle.fabric_model.proofs.Emptying.{packets_at, step_empties}
pub use Rattle.fabric_model.proofs.Flows.{switches_stay, in_order}
pub use Rattle.fabric_model.proofs.Joining.{links_stay, legal_joined, legal_parts}
pub use Rattle.fabric_model.proofs.Lanes.{AreWell, well_on, well_priority, well_passes, well_begun, well_by}
pub use Rattle.fabric_model.proofs.Lists.{all-append, all_weaker}
pub use Rattle.fabric_model.proofs.Nodes.{few_prio, all_at_nodes, count_ports}
pub use Rattle.fabric_model.proofs.Peers.{same_port-refl, ArePeers, apart_back, port_is, peer_back, unlinked_apart, some_is, link_peers, AreProper-append}
pub use Rattle.fabric_model.specs.Laws.Examples.{packet}
pub use Rattle.fabric_model.specs.Laws.Forms.{IsFormed}
pub use Rattle.fabric_model.specs.Laws.Nodes.{StandAtNodes, all_ports, HasPort, IsPortOf, JoinsNodes}
pub use Rattle.fabric_model.specs.Laws.Priorities.{ByPriority}
pub use Rattle.fabric_model.specs.Laws.Proper.{AreProper}
pub use Rattle.fabric_model.specs.Network.{same_port, Network, Item, peer_in, with_lane, first_packet, to_send, room_out, switch_at, port_of, IsEndpoint, IsSwitch, Lanes, with_lent, in_turn, with_device, link_in, bare, sender_id, id_of}
pub use Rattle.fabric_model.specs.Serving.{device_after, next_at, response_at}
pub use Rattle.fabric_model.specs.Steps.{Hold, Free, Linked, AtNode, ByDevice, Step, LegalFrom, after_all, behind_first, without_first, with_waiting, Take, Leave, Drop, Answer, after_hold, after, Move as MoveStep, Needs, only_first, Move as MoveOn}
pub use Rattle.fabric_script.specs.Known.{Known, of_script, nothing, known_after, node_ports, ports_of, is_linked, nodes_after, links_after, node_is_switch, is_known_switch, nothing_in}
pub use Rattle.fabric_script.specs.Lines.{is_event, new_name}
pub use Rattle.fabric_script.specs.Reading.{MayBe, IsFree}
pub use Rattle.fabric_script.specs.Scripts.{ScriptPasses, PassesFrom}
pub use Rattle.fabric_script.specs.declared.lines.Line.{Line}
pub use Rattle.fabric_script.specs.declared.lines.Line.TheVariants.{Settle, Run, Endpoint, Switch, Link, Buffers, Route, Default, Lock, Large, Credits}
pub use Rattle.fabric_script.specs.declared.lines.Numbered.{Numbered}
pub use Rattle.fabric_script.specs.declared.ports.PortRef.{PortRef}
pub use Rattle.link_buffers.proofs.PriorityLaws.{Covers-take, map-prio_of-packets_of, highest_below-some, IsOutStore-lists_without, packets_of-appended, lists_without-appended}
pub use Rattle.link_buffers.specs.Priorities.{packets_of, highest, lists_without, count_of}
unfoldable pub use Rattle.link_buffers.specs.Priorities.{highest_below}
pub use Rattle.link_buffers.specs.Queues.{room_for, stored, list_at, IsOutStore, Buffered, appended, popped, packet_count, of_prio}
pub use Rattle.link_machine.proofs.Arriving.{HasAckAt, run_has}
pub use Rattle.link_machine.proofs.Flowing.{IsFlowing, AreFlowing, comes_flowing}
pub use Rattle.link_machine.proofs.Machine.{pump_keeps, pump_moves_none, fired_keeps, fire_moves_none, told_keeps, delivery_keeps, delivery_walks, delivery_steps, round_keeps, new_sound, none_failed}
pub use Rattle.link_machine.proofs.Settling.AnswerLaws.{answers_read, port_narrow}
pub use Rattle.link_machine.proofs.Settling.Bursting.{turned_is, turns_read, tell_read}
pub use Rattle.link_machine.proofs.Settling.SaidLaws.{said-append}
pub use Rattle.link_machine.specs.Acts.{Act, Pump as PumpAct, Tell as TellAct, Deliver as DeliverAct, Fire, Reached, At, FoundAt, reached_by, after_act, act_notes, OnState}
unfoldable pub use Rattle.link_machine.specs.Acts.{goes, acts_notes}
pub use Rattle.link_machine.specs.Calls.{move_note, sent_notes, delivery_from, told_notes, is_silent, pumped, pump_notes, first_fires, timed_out_at, time_out_notes, told_from, tell_notes, delivery, after_delivery, first_takes, has_chars, delivered_from, delivery_notes, has_none}
pub use Rattle.link_machine.specs.Led.{IsAnswer}
unfoldable pub use Rattle.link_machine.specs.Led.{AreAnswers, chars_of, controls}
pub use Rattle.link_machine.specs.Queues.{Queues, queues_of, queues_between, queues_round, NeedsFirst, first_moved, NeedsAt, moved_at, Walks}
pub use Rattle.link_machine.specs.Rest.{IsSettled}
pub use Rattle.link_machine.specs.Sound.{IsSoundLink}
pub use Rattle.link_machine.specs.States.{LinkState, at_end, turned_round, link, empty_wires}
pub use Rattle.link_model.proofs.PlacesLaws.{place_after-append, place_after-none, run-one}
unfoldable pub use Rattle.link_model.specs.Events.{packet_event}
pub use Rattle.link_model.specs.Output.{Stype0, PacketAccepted, PacketRetry, PacketNotAccepted, LinkResponse, OtherStype0, stype0, hears, accepted, retried, hears_report}
pub use Rattle.link_model.specs.Outstanding.{Outstanding, distance, is_oldest, without_oldest, from_ack, with_next, next_ack}
pub use Rattle.link_model.specs.Places.{place_start, Place, step}
unfoldable pub use Rattle.link_model.specs.Places.{place_after, run}
pub use Rattle.link_model.specs.Reading.{Plain, placed}
unfoldable pub use Rattle.link_model.specs.ReadingKinds.{kind}
pub use Rattle.link_model.specs.Said.{said}
pub use Rattle.link_model.specs.Symbols.{status, packet_accepted}
unfoldable pub use Rattle.link_model.specs.Window.{window}
pub use Rattle.link_model.specs.declared.event.Event.{Event}
pub use Rattle.link_model.specs.declared.event.Event.TheVariants.{Ctl, Pkt, Bad}
pub use Rattle.link_port.proofs.FirstPackets.{first_has_prio}
pub use Rattle.link_port.specs.Ports.{PortState, IsPort, new_port}
pub use Rattle.link_port.specs.States.{IsOutput, prios_of, expected_of}
pub use Rattle.link_port.specs.Steps.{acts, symbol_heard, is_acted}
pub use Rattle.link_port.specs.Turns.{tell_sends, standing, no_burst, symbol_burst, packet_burst, burst_of, turn_sends, turns_to, timed_out}
pub use Rattle.link_sound.proofs.Hearing.{oldest_cases}
pub use Rattle.link_sound.proofs.PortBounds.{turn_port, put_port, read_port}
pub use Rattle.link_sound.proofs.Promises.{not_failed}
pub use Rattle.link_sound.proofs.Reported.{report_oldest}
pub use Rattle.link_sound.proofs.Steps.{exchanged, put_keeps, other_parts}
pub use Rattle.link_sound.specs.Meanings.{oldest_of}
pub use Rattle.link_sound.specs.Sound.{IsSound}
pub use Rattle.link_sound.specs.Told.{IsTold, TellsAs, last_report}
pub use Rattle.link_watch.specs.declared.note.Note.{Note}
pub use Rattle.link_watch.specs.declared.side.Side.{Side}
pub use Rattle.link_watch.specs.declared.side.Side.TheVariants.{B, A}
pub use Rattle.link_wires.proofs.KeptLaws.{all-more, behind_all-append, all_then}
pub use Rattle.link_wires.proofs.Throughs.{through_place, through_count, ended_count}
pub use Rattle.link_wires.specs.Deliveries.{Delivered, Through, WentUndetected, told_of, Flow, done, undetected, begun, moves_of, Told, met, comes, goes_on, ended, flows, delivered}
unfoldable pub use Rattle.link_wires.specs.Deliveries.{come}
pub use Rattle.link_wires.specs.Kept.{IsSubsequence, behind, behind_all, behind_some}
pub use Rattle.link_wires.specs.Kept.IsSubsequence.{EndsWithin, TakesWithin, SkipsWithin}
pub use Rattle.link_wires.specs.Wires.{answers, fits}
unfoldable pub use Rattle.link_wires.specs.Wires.{bursts, port_turned}
pub use Rattle.link_wires.specs.declared.moves.Move.{Move}
pub use Rattle.link_wires.specs.declared.moves.Move.TheVariants.{Held, Freed}
pub use Rattle.maint_packets.proofs.AnswerLaws.{responses_pass}
pub use Rattle.maint_packets.specs.Answers.{request_answered}
pub use Rattle.maint_packets.specs.NextHops.{is_foreign, is_at_end, to_port, next_of, moved}
pub use Rattle.maint_packets.specs.Requests.{request_of, names_second, in_half}
pub use Rattle.maint_packets.specs.Responses.{response_bytes}
pub use Rattle.maint_packets.specs.declared.next_hop.Next.{Next}
pub use Rattle.maint_packets.specs.declared.next_hop.Next.TheVariants.{Nowhere, RegisterUnit, Port}
pub use Rattle.maint_packets.specs.declared.request.Request.{Request}
pub use Rattle.maint_registers.specs.Devices.{Registers, is_switch, new_endpoint, new_switch, with_link}
pub use Rattle.maint_registers.specs.Within.{IsWithin}
pub use Rattle.rio_chars.specs.declared.chars.Char.{Char}
pub use Rattle.rio_chars.specs.declared.edit.Edit.{Edit}
pub use Rattle.rio_packets.proofs.FormLaws.{Passes-from_form, LinkForm-made, LinkForm-one}
unfoldable pub use Rattle.rio_packets.specs.Carries.{carried}
pub use Rattle.rio_packets.specs.Fields.{prio_of, dest_of, is_request, body_of}
pub use Rattle.rio_packets.specs.LinkForm.{Passes, IsBody, LinkForm}
unfoldable pub use Rattle.rio_packets.specs.Register.{fed, shifted, shifted_times}
unfoldable pub use Rattle.rio_symbols.specs.Crc5.{field_bits, crc5_message, crc5_of, crc5_value}
pub use Rattle.rio_symbols.specs.Fields.{Fields}
unfoldable pub use Rattle.rio_symbols.specs.Spelling.{symbol_bytes, spelled, is_spelling}
pub use Rattle.rio_symbols.specs.declared.stype1.TheConstants.{RESTART_FROM_RETRY, LINK_REQUEST}
pub use Rattle.switch_core.proofs.FirstSteps.{first_step_by}
pub use Rattle.switch_core.proofs.OrderLaws.{greatest_first-is}
pub use Rattle.switch_core.specs.EndpointSteps.{first_held, collected_of, collected_head, collected}
pub use Rattle.switch_core.specs.Faces.{Face, face_at, head_of, has_room}
unfoldable pub use Rattle.switch_core.specs.Order.{greatest_first, least_first}
pub use Rattle.switch_core.specs.SwitchSteps.{answer_step, step_to, step_of}
pub use Rattle.switch_core.specs.declared.endpoint.Collected.{Collected}
pub use Rattle.switch_core.specs.declared.switch.Step.TheVariants.{Moved, Dropped, Answered, Nothing}
pub use Rattle.trace_lines.specs.Lines.{Sent, Got, Fired, TraceLine, Begun, Stepped, Signed, Lacked, Ended, Undetected, steps_of, Sign, Full, Empty, Short, Early, NoStep}
pub use Rattle.trace_lines.specs.Notes.{port_at_side, lines_of, line_of}
pub use Rattle.fabric_trace.specs.Allowance.{raised_all, got_with, freed_with, FreesAllowed, FreeAllowed, raised_by, raised}
pub use Rattle.fabric_trace.specs.AtRest.{IsBlockAtRest, GoesAtRest}
pub use Rattle.fabric_trace.specs.Blocks.{IsSettle, WithLink, IsBlock, take_lines, SendsBody, pumps, delivers, time_out_lines, edits, WithPeer}
pub use Rattle.fabric_trace.specs.Ends.{EndsAs, Whole, EndsNaming}
pub use Rattle.fabric_trace.specs.Events.{HasLink, IsThere, MayHappen, IsDataLength, IsInRange, IsNodePort, ArePorts, counts_after, counts_after_all, port_counts, id_limit, FitsSend, FitsRequest, FitsPacket}
pub use Rattle.fabric_trace.specs.Examples.{near, far, packet_chars, accepted_chars, packet_script, packet_trace, status_chars, telling_script, telling_trace, pair_network, idle_script, idle_trace, switch_script, switch_trace, two_held, dropped_at, moved_to, joined_with_itself, held_from_nowhere, held_in_wrong_order, frees_once, freed_twice, freed_later, accepted_in_pieces, accepted_before, got_from_nowhere, got_another, got_behind_a_find, sent_from_nowhere, fires_once, still_under_way, moving, acted_from_nowhere, named_though_sent, not_settled, not_settled_yet, goes_on_with, named_at, found_before, fails_in_a_delivery, fails_in_a_run}
pub use Rattle.fabric_trace.specs.Faithful.{ActsOnSent, trace_goes_on, names_undetected, IsFaithful, FaithfulLine, Faithful}
pub use Rattle.fabric_trace.specs.Firsts.{FindsFirst}
pub use Rattle.fabric_trace.specs.Fold.{says, taken_from, half_after, undetected_at, event_leaves, symbol_leaves, wire_silenced, fired_from, seen, wire_sent, half_sent, got_from, signed, changed, edited_by, seen_line, edit_of, packet_leaves}
unfoldable pub use Rattle.fabric_trace.specs.Fold.{sends}
pub use Rattle.fabric_trace.specs.Frees.{IsSaid, Gotten, nothing_got, gets, completed, FreesSaid, frees_by, FreeSaid, Acknowledges}
pub use Rattle.fabric_trace.specs.Holds.{got, numbered_packets, holds, HoldsCame, got_by, held_by_line}
pub use Rattle.fabric_trace.specs.Known.{Seen, port_seen, kept_of, link_at, UndetectedAt, with_wire, wire_state, Wire, peer_of, with_half}
pub use Rattle.fabric_trace.specs.Links.{IsLink, queues_in, IsKept, AreLinks}
pub use Rattle.fabric_trace.specs.Noted.{is_noting, FreesNoted}
pub use Rattle.fabric_trace.specs.OnTheWay.{WorksWithin, NeverFailWithin}
pub use Rattle.fabric_trace.specs.Owned.{HasEvent, IsOwned, AreOwned}
pub use Rattle.fabric_trace.specs.Parts.{Part, PartBegins, PartLacks, PartEnds, PartNames, PartSteps, PartServes, PartTurns, PartTells, PartDelivers, PartFires, Made, Done, Then, packet_of}
pub use Rattle.fabric_trace.specs.Ready.{IsReady}
pub use Rattle.fabric_trace.specs.Rounds.{Follows, NamesNothing, Rounds, SettlesTo, Joined, AtLink, SettleAll, ServesAll, ServeRests, ServeGoes, ServeNodes, Round}
pub use Rattle.fabric_trace.specs.Runs.{BlockThen, Names, RunsFrom, BlocksFrom, begins, set_up_all, start, EventThen, RunsBy, Runs, BlocksBy, BeginsBy, Begins, set_up}
pub use Rattle.fabric_trace.specs.Served.{face_in, faces_from, faces_in, IsMove, step_lines, ResponseHasForm, collect_lines, HasResponseForm, IsCollect}
pub use Rattle.fabric_trace.specs.SetUps.{IsSetUp, MaySetUpAll, MaySetUp}
pub use Rattle.fabric_trace.specs.Settings.{with_change, routed, defaulted, held_by, large_set, with_end, with_node}
pub use Rattle.fabric_trace.specs.Settled.{settled_by, under_way, RestsAt, Settled}
pub use Rattle.fabric_trace.specs.Views.{Half, half_of, packets_in, lists_in, queue, view}
pub use Rattle.fabric_trace.specs.Wires.{WireChars, WireFold, on_wires, with_chars, edited_chars, taken_chars, signed_chars}
pub use Rattle.fabric_trace.specs.Working.{NoneFailed, NeverFail}
