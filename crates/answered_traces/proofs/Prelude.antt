-- The words of other crates, of `specs` and of std that several files here cite, passed on.
pub use Rattle.std.proofs.Common.{◌≡◌, [], ℕ, ◌++◌, true, false, List, ◌∷◌, map, take, Option, Some, None, refl, sym, ap, ◌∙◌, subst, if◌then◌else◌, Bool, suc, ◌<◌, length, drop, slice_set, arith, ◌-◌, ◌+◌, ◌==◌, ◌&&◌, length-set, option_to_list, append-nil, append_assoc, zero, slice_get}
pub use Rattle.std.specs.List.{AllByRecursion}
pub use Rattle.fabric_model.proofs.Lists.{all-append}
pub use Rattle.fabric_model.proofs.Peers.{ArePeers, apart_back, port_is, same_port-refl}
pub use Rattle.fabric_model.specs.Network.{same_port, Item, Network, port_of, with_lane}
pub use Rattle.fabric_script.specs.declared.lines.Numbered.{Numbered}
pub use Rattle.fabric_script.specs.declared.ports.PortRef.{PortRef}
pub use Rattle.fabric_trace.proofs.Links.Serving.{Untouched}
pub use Rattle.fabric_trace.proofs.Parts.Folding.{seen-append, edited_found}
pub use Rattle.fabric_trace.proofs.Parts.Keeping.{IsGood, good_peers, few_prio, passes_first, part_keeps}
pub use Rattle.fabric_trace.specs.Fold.{undetected_at, seen, edit_of, edited_by, seen_line}
pub use Rattle.fabric_trace.specs.Known.{Seen, port_seen, UndetectedAt, peer_of, kept_of, link_at}
pub use Rattle.fabric_trace.specs.Runs.{bare, set_up_all, start, Runs, set_up}
pub use Rattle.fabric_trace.specs.Views.{Half, lists_in, packets_in}
pub use Rattle.lawful_traces.specs.Knowing.{LinesAreNumbered, lines_of_set_up}
pub use Rattle.link_buffers.proofs.QueueLemmas.{packet_count-popped, packet_count-appended}
pub use Rattle.link_buffers.specs.Queues.{packet_count, list_at, popped, Buffered, room_for, stored}
pub use Rattle.link_machine.specs.Calls.{sent_notes, pumped, pump_notes, told_from, tell_notes, after_delivery, first_takes, has_chars, delivery_from, delivered_from, move_note, delivery_notes, is_silent, first_fires, timed_out_at, time_out_notes}
pub use Rattle.link_model.proofs.PlacesLaws.{given, events_of}
pub use Rattle.link_model.specs.Events.{packet_or_cause}
unfoldable pub use Rattle.link_model.specs.Events.{packet_event}
pub use Rattle.link_model.specs.Input.{Damaged, ExpectedWithRoom, ExpectedWithoutRoom, Input, InputErrorStopped, InputOk, InputRetryStopped, LinkRequest, OtherStype1, Received, RestartFromRetry, UnexpectedAck, packet_arrival, receives}
pub use Rattle.link_model.specs.Places.{place_start, Place, AreGiven, step}
unfoldable pub use Rattle.link_model.specs.Places.{place_after, run}
pub use Rattle.link_model.specs.Said.{said}
pub use Rattle.link_model.specs.declared.event.Event.{Event}
pub use Rattle.link_model.specs.declared.event.Event.TheVariants.{Ctl, Pkt, Bad}
pub use Rattle.link_port.specs.Ports.{PortState, IsPort, new_port}
pub use Rattle.link_port.specs.Steps.{acts, arrived, damaged, obeyed, is_acted}
pub use Rattle.link_port.specs.Turns.{tell_sends, Burst, IsRead, timed_out, no_burst, symbol_burst, packet_burst, burst_of, port_turn, standing, turn_sends, turns_to, waiting_in}
pub use Rattle.link_wires.specs.Deliveries.{Delivered, Through, WentUndetected, told_of, undetected, Flow, delivered, begun, comes, done, ended, goes_on, met}
unfoldable pub use Rattle.link_wires.specs.Deliveries.{come}
pub use Rattle.link_wires.specs.Wires.{answers, port_turned}
unfoldable pub use Rattle.link_wires.specs.Wires.{bursts}
pub use Rattle.link_wires.specs.declared.moves.Move.{Move}
pub use Rattle.rio_chars.specs.declared.chars.Char.{Char}
pub use Rattle.rio_packets.specs.Fields.{prio_of}
pub use Rattle.trace_lines.specs.Lines.{Got, Fired, TraceLine, Signed, Stepped, Ended, Undetected}
pub use Rattle.trace_lines.specs.Notes.{lines_of, port_at_side}
pub use Rattle.trace_reactions.specs.InputHalves.{InputKept, after_events, after_entry, after_one_event, expected_ack_of, arrival_of}
pub use Rattle.trace_reactions.specs.Judging.{ReactionsKept, after_line, after_lines, LinesReact, with_port_kept, reactions_before, buffers_by, buffers_after}
pub use Rattle.trace_reactions.specs.PortsKept.{PortKept, AreDue, after_got, after_sending, gives, reactions_sent, unheard_port}
pub use Rattle.trace_reactions.specs.Reactions.{reactions_in, reply_due, reaction_of, reactions_of}
pub use Rattle.trace_reactions.specs.declared.reactions.Reaction.{Reaction}
