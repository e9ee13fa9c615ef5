-- The words of other crates, of `specs` and of std that several files here cite, passed on.
pub use Rattle.std.proofs.Common.{◌≡◌, List, [], ◌∷◌, Option, Some, None, refl, sym, ap, ◌∙◌, ℕ, true, false, if◌then◌else◌, Bool, subst, arith, ◌≢◌, zero, suc, ◌++◌, map, take, ◌+◌, ◌<◌, ◌==◌, filter, length, IsTrue, ◌&&◌, drop, slice_set, append_assoc}
pub use Rattle.std.specs.List.{AllByRecursion}
pub use Rattle.fabric_model.proofs.Peers.{ArePeers, port_is, apart_back, peer_back, same_port-refl, some_is}
pub use Rattle.fabric_model.specs.Network.{same_port, peer_in, Item, Network, port_of, first_packet, to_send, room_out, with_device, with_lane}
pub use Rattle.fabric_model.specs.Steps.{Step, behind_first}
pub use Rattle.fabric_script.specs.declared.ports.PortRef.{PortRef}
pub use Rattle.fabric_trace.proofs.Links.Bursts.{answers_say}
pub use Rattle.fabric_trace.proofs.Links.Calling.{IsCall, turns_call, tells_call, fires_call}
pub use Rattle.fabric_trace.proofs.Links.Serving.{Untouched, link_round, with_more, fewer_links}
pub use Rattle.fabric_trace.proofs.Network.Lanes.{lane_at, lane_other, packets-append, behind_is, lists_set}
pub use Rattle.fabric_trace.proofs.Parts.Folding.{edited_found, fired_found, wire_other, seen-append}
pub use Rattle.fabric_trace.proofs.Parts.Keeping.{IsGood, part_keeps, made_keeps, good_peers, passes_first, few_prio}
pub use Rattle.fabric_trace.proofs.SetUps.Starting.{good_start}
pub use Rattle.fabric_trace.proofs.Shown.Wiring.{seen_links}
pub use Rattle.fabric_trace.specs.Fold.{edit_of, taken_from, got_from, seen_line, seen, changed, edited_by, says, undetected_at}
pub use Rattle.fabric_trace.specs.Known.{Seen, UndetectedAt, peer_of, Wire, with_wire, port_seen, wire_state, link_at, kept_of}
pub use Rattle.fabric_trace.specs.Parts.{Part, PartBegins, PartLacks, PartEnds, PartNames, PartSteps, PartServes, PartTurns, PartTells, PartDelivers, PartFires, Made, Done, Then, packet_of}
pub use Rattle.fabric_trace.specs.Runs.{begins}
pub use Rattle.fabric_trace.specs.Views.{packets_in, lists_in, queue, view}
pub use Rattle.link_buffers.specs.Queues.{list_at, Buffered, appended, popped}
pub use Rattle.link_machine.proofs.Settling.AnswerLaws.{port_narrow}
pub use Rattle.link_machine.specs.Calls.{edited_from, sent_notes, has_chars, delivery_from, move_note, delivery_notes, pump_notes, tell_notes, is_silent, time_out_notes}
unfoldable pub use Rattle.link_machine.specs.Led.{AreAnswers}
pub use Rattle.link_machine.specs.Runs.{IsRun}
pub use Rattle.link_machine.specs.Runs.IsRun.{RunRests, RunEdits, RunPumps, RunTells, RunDelivers, RunTimesOut, RunServes}
pub use Rattle.link_machine.specs.States.{LinkState}
pub use Rattle.link_model.specs.declared.event.Event.{Event}
pub use Rattle.link_port.specs.Ports.{PortState, IsPort}
pub use Rattle.link_watch.specs.declared.note.Note.{Note}
pub use Rattle.link_watch.specs.declared.side.Side.TheVariants.{A, B}
pub use Rattle.link_wires.specs.Deliveries.{undetected, told_of}
pub use Rattle.link_wires.specs.Wires.{fits, edited, after_edit, answers}
unfoldable pub use Rattle.link_wires.specs.Wires.{bursts}
pub use Rattle.maint_registers.specs.Devices.{Registers}
pub use Rattle.rio_chars.specs.declared.chars.Char.{Char}
pub use Rattle.rio_packets.specs.Fields.{prio_of}
pub use Rattle.rio_symbols.specs.Fields.{Fields}
pub use Rattle.trace_lines.specs.Lines.{Sent, Got, Fired, TraceLine, Begun, Stepped, Signed, Lacked, Ended, Undetected}
pub use Rattle.trace_lines.specs.Notes.{port_at_side, lines_of}
pub use Rattle.trace_laws.specs.ActedSent.{IsSentActing, AreSentActing, UnfoundIsSent}
pub use Rattle.trace_laws.specs.LinksRun.{RunsBetween, LinksOfTracesRun}
pub use Rattle.trace_laws.specs.Retries.{IsNoRetry, AsksNoneAgain, ToldInTimeAsksNoneAgain}
