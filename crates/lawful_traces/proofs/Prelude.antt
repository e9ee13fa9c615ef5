-- The words of other crates, of `specs` and of std that several files here cite, passed on.
pub use Rattle.std.proofs.Common.{◌≡◌, ℕ, suc, ◌<◌, ◌++◌, Bool, true, false, nat_lt, List, [], ◌∷◌, All, length, Option, Some, None, if◌then◌else◌, refl, subst, arith, ◌≢◌, ◌^◌, sym, ◌∙◌, MatchBool, not, ◌&&◌, ◌||◌, ap, zero, ◌≤◌, nat_le, map, take, option_map, slice_get, get_or, append-nil, ◌+◌, drop}
pub use Rattle.std.specs.List.{AllByRecursion, flat_map}
pub use Rattle.fabric_model.proofs.Lanes.{well_begun, AreWell, well_on, well_passes}
pub use Rattle.fabric_model.proofs.Lists.{all-append, all-parts}
pub use Rattle.fabric_model.proofs.Nodes.{count_ports, port_before, empty_stands, first_of_all, next_there, joins_on, stands_on}
pub use Rattle.fabric_model.specs.Laws.Nodes.{HasPort, IsPortOf, IsSpot, JoinsNodes, StandAtNodes}
pub use Rattle.fabric_model.specs.Network.{link_in, room_out, port_of, Network, bare, same_port, peer_in, IsEndpoint, Item, first_packet}
pub use Rattle.fabric_model.specs.Steps.{Take, AtNode, Step, after, Hold, Free, Linked, ByDevice}
pub use Rattle.fabric_script.proofs.KnownLaws.{orderly-after, count-after, nothing-orderly}
pub use Rattle.fabric_script.specs.Known.{Known, of_script, one_event, known_after, IsOrderly, names_after, nodes_after, links_after, nothing_in, of_set_up, nothing, node_ports, is_linked}
pub use Rattle.fabric_script.specs.Lines.{is_event, new_name}
pub use Rattle.fabric_script.specs.Reading.{MayBe, IsFree, new_name_in}
pub use Rattle.fabric_script.specs.Scripts.{PassesFrom, is_skipped, pieces_of, SpellsFrom, ScriptPasses}
pub use Rattle.fabric_script.specs.declared.known.Node.{Node}
pub use Rattle.fabric_script.specs.declared.lines.Line.{Line}
pub use Rattle.fabric_script.specs.declared.lines.Line.TheVariants.{Endpoint, Switch, Link, Large, Send, Read, Write, Pump as Pumps, Deliver as Delivers, Alter, Insert, Erase, Timeout, Settle, Move as MoveOn, Collect, Run, Send16, Read16, Write16}
pub use Rattle.fabric_script.specs.declared.lines.Numbered.{Numbered}
pub use Rattle.fabric_script.specs.declared.ports.PortRef.{PortRef}
pub use Rattle.fabric_trace.proofs.Rounds.Blocks.{by_test}
pub use Rattle.fabric_trace.proofs.SetUps.Happening.{count_at, may_set_up}
pub use Rattle.fabric_trace.proofs.SetUps.Joins.{scripts_join}
pub use Rattle.fabric_trace.proofs.SetUps.SettingUp.{set_up-event, made_by, set_up-links, set_up-map}
pub use Rattle.fabric_trace.proofs.SetUps.Starting.{set_up_bare, good_start, legal, made, wires_fold}
pub use Rattle.fabric_trace.specs.Blocks.{IsBlock, take_lines, pumps, delivers, time_out_lines, edits, IsSettle, WithPeer, WithLink}
pub use Rattle.fabric_trace.specs.Fold.{seen, edit_of, edited_by, taken_from, undetected_at, got_from, fired_from, seen_line, changed}
pub use Rattle.fabric_trace.specs.Known.{UndetectedAt, Seen, peer_of, link_at, port_seen, kept_of}
pub use Rattle.fabric_trace.specs.Parts.{Part, PartBegins, PartLacks, PartEnds, PartNames, PartSteps, PartServes, PartTurns, PartTells, PartDelivers, PartFires, Made, Done, Then}
pub use Rattle.fabric_trace.specs.Rounds.{Follows, NamesNothing, Joined, SettleAll, ServesAll, ServeRests, ServeGoes, ServeNodes, Round, Rounds}
pub use Rattle.fabric_trace.specs.Runs.{EventThen, Names, RunsFrom, set_up, set_up_all, begins, start}
pub use Rattle.link_machine.specs.Acts.{Act, Pump, Tell, Deliver, Fire, Reached, At, FoundAt, after_act, goes, act_notes}
unfoldable pub use Rattle.link_machine.specs.Acts.{acts_notes}
pub use Rattle.link_machine.specs.Calls.{sent_notes, delivery_from, move_note, told_notes, delivery_notes, has_chars, has_none, is_silent, pump_notes, time_out_notes}
unfoldable pub use Rattle.link_machine.specs.Led.{AreAnswers}
pub use Rattle.link_model.specs.Events.{packet_or_cause}
unfoldable pub use Rattle.link_model.specs.Events.{packet_event}
pub use Rattle.link_model.specs.Places.{Place, byte_added, outside, symbol_taken, finished, step_by, step}
unfoldable pub use Rattle.link_model.specs.Places.{run}
pub use Rattle.link_model.specs.ReadingSpelt.{delimiter_char, data_chars}
unfoldable pub use Rattle.link_model.specs.ReadingSpelt.{symbol_chars_of, bytes_with_ack, packet_chars_of}
pub use Rattle.link_model.specs.declared.event.Event.{Event}
pub use Rattle.link_port.specs.Ports.{PortState, IsPort}
pub use Rattle.link_port.specs.Steps.{is_acted}
pub use Rattle.link_port.specs.Turns.{tell_sends, standing, no_burst, symbol_burst, packet_burst, burst_of, port_turn, turns_to, turn_sends, waiting_in}
pub use Rattle.link_watch.specs.declared.side.Side.{Side}
pub use Rattle.link_watch.specs.declared.side.Side.TheVariants.{A, B}
pub use Rattle.link_wires.specs.Deliveries.{Flow, Delivered, Through, WentUndetected, begun, done, met, comes, goes_on, ended, delivered, undetected, Told, told_of}
unfoldable pub use Rattle.link_wires.specs.Deliveries.{come}
pub use Rattle.link_wires.specs.Kept.{behind}
pub use Rattle.link_wires.specs.Wires.{answers, fits, edited}
unfoldable pub use Rattle.link_wires.specs.Wires.{bursts}
pub use Rattle.link_wires.specs.declared.moves.Move.{Move}
pub use Rattle.link_wires.specs.declared.moves.Move.TheVariants.{Held, Freed}
pub use Rattle.maint_registers.specs.Devices.{Registers, is_switch}
pub use Rattle.rio_chars.specs.CharText.{HasByte}
pub use Rattle.rio_chars.specs.declared.chars.Char.{Char}
pub use Rattle.rio_chars.specs.declared.edit.Edit.{Edit}
pub use Rattle.rio_packets.specs.Fields.{prio_of}
pub use Rattle.rio_packets.specs.LinkForm.{Passes}
pub use Rattle.rio_symbols.specs.Fields.{Fields, InRange}
pub use Rattle.trace_check.specs.Lawful.{is_last, IsLawful, SpellAll}
pub use Rattle.trace_lines.specs.Lines.{Got, Sent, Fired, TraceLine, Begun, Stepped, Signed, Lacked, Ended, Undetected, Full, Short, Early, steps_of}
pub use Rattle.trace_lines.specs.Notes.{line_of, lines_of, port_at_side}
pub use Rattle.trace_lines.specs.Words.{EventFits, IsScriptPort, IsEnd, LineFits, SpellsLine, StepFits}
pub use Rattle.lawful_traces.specs.Knowing.{nodes_all, links_all, LinesAreNumbered, KnowsScript, lines_of_set_up}
pub use Rattle.lawful_traces.specs.Texts.{trace_texts, InputsOfTracesAreLawful, TracesAreLawful}
