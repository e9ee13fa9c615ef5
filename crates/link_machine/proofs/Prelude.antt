-- The words of other crates, of `specs` and of std that several files here cite, passed on.
pub use Rattle.std.proofs.Common.{ℕ, suc, ◌<◌, Bool, true, false, Option, Some, None, List, All, [], ◌∷◌, if◌then◌else◌, arith, nat_lt, length, ◌≡◌, ◌++◌, map, option_to_list, refl, sym, ap, ◌∙◌, subst, append_assoc, append-nil, ◌≢◌, zero, ◌+◌, IfSome, ◌≤◌, take, length-append, ◌&&◌, ◌==◌, cond, drop, slice_get, MatchBool, inl, inr, ◌-◌, ◌||◌, not, nat_le, ◌%◌, length-drop, ◌⊎◌}
pub use Rattle.std.proofs.lemmas.Bool.{and_parts, or_parts, cases_lt, le-leb, eq-eqb, and_from, ltb-true, ltb-false, lt-ltb, le-ltb}
pub use Rattle.std.proofs.lemmas.List.{map-append, take-append-drop, take_all, drop_all, take-append-le, drop-append-le}
pub use Rattle.std.proofs.lemmas.List.Elements.{All-nil, All-cons, All-append, All-map, All-head, All-tail, All-take}
pub use Rattle.link_buffers.proofs.PriorityLaws.{list_at-appended, highest_below-some, Covers-first, Covers-rest}
pub use Rattle.link_buffers.proofs.PriorityLists.{list_at-popped}
pub use Rattle.link_buffers.proofs.QueueLemmas.{packet_count_four, packet_count-popped}
pub use Rattle.link_buffers.specs.Prelude.{list_at, popped, Buffered, stored, packet_count, room_for, lists_without, highest, packets_of, IsInStore, Covers}
pub use Rattle.link_model.proofs.PlacesLaws.{place_after-append, events_of, run-append, placed_away}
pub use Rattle.link_model.proofs.ReadingSpeltLaws.{begins_opened, run-packet_anywhere, place_after-packet_anywhere, run-symbol_anywhere, place_after-symbol_anywhere}
pub use Rattle.link_model.specs.Events.{packet_or_cause, same_event}
unfoldable pub use Rattle.link_model.specs.Events.{packet_event}
pub use Rattle.link_model.specs.Input.{InputOk, InputRetryStopped, InputErrorStopped, input_accepted, replied}
pub use Rattle.link_model.specs.Output.{Stype0, Turned, heard, reported, turned, credited, started, responded, Heard, stype0, ignored, accepted, retried, starts}
pub use Rattle.link_model.specs.Outstanding.{next_ack, is_oldest, without_oldest}
pub use Rattle.link_model.specs.Places.{byte_added, symbol_taken, finished, step_by, broken_off, begins_in, opened, ReaderStep, rests_by}
pub use Rattle.link_model.specs.Prelude.{Char, Delimiter, Fields, Place, step, Text, Plain, Skipped, Within, placed, IsBounded, PACKET_RETRY, Input, Output, number_of, Arrival, symbol_arrival, receives, place, Sc, Pd, place_start, at_rest, said, Sends, symbol_bytes, data_chars, status, start_of_packet, end_of_packet, InRange, prio_of, Passes, Received, packet_arrival, hears, turns, Outstanding, from_ack, packet_accepted, window, times_out, hears_report, restart_from_retry, link_request, distance, untold}
unfoldable pub use Rattle.link_model.specs.Prelude.{run, place_after, symbol_chars_of, packet_chars_of}
pub use Rattle.link_model.specs.Reading.{packet_ended, ends_packet, told, text_after}
unfoldable pub use Rattle.link_model.specs.ReadingKinds.{kind}
pub use Rattle.link_model.specs.Reports.{report_of, has_buffer_status, base_of, has_credit}
pub use Rattle.link_model.specs.declared.reports.Report.{Report}
pub use Rattle.link_port.proofs.SentReads.{none_read, standing_range, status_read, turn_read}
pub use Rattle.link_port.specs.Answers.{IsAnswer, IsReply}
pub use Rattle.link_port.specs.Prelude.{Event, Ctl, Pending, Nothing, Opened, One, Two, PortState, IsPort, acts, is_acted, turns_to, turn_sends, prios_of, new_port, Pkt, Bad, expected_of, standing, symbol_burst, tell_sends, packet_burst, burst_of, waiting_in, timed_out, is_ready, Acted, buffer_status}
unfoldable pub use Rattle.link_port.specs.Prelude.{replies}
pub use Rattle.link_port.specs.Steps.{acted, arrived, acts_symbol}
pub use Rattle.link_port.specs.Turns.{Burst, IsRead, no_burst, port_turn}
pub use Rattle.link_sound.proofs.CreditHistory.{answer_no_retry, known_open, room_in_time}
pub use Rattle.link_sound.proofs.CreditTimely.{IsKnown, IsTimely, known_from_room, room_from_known, known_from_told, told_from_known}
pub use Rattle.link_sound.proofs.PortBounds.{acted_port, other_port, read_port, turn_port, time_out_port, new_is_port, expected_below}
pub use Rattle.link_sound.proofs.Promises.{not_failed}
pub use Rattle.link_sound.proofs.Ranged.{HasAck}
pub use Rattle.link_sound.proofs.Steps.{acted_keeps, other_keeps, lost_keeps, turn_keeps, exchanged, begins, tell_keeps, time_out_keeps}
pub use Rattle.link_sound.specs.Between.{IsBetween}
pub use Rattle.link_sound.specs.Lent.{lent, Holds, Frees}
pub use Rattle.link_sound.specs.Meanings.{forward, receiver_of, backward, oldest_of}
pub use Rattle.link_sound.specs.Sound.{IsSound, reply_sent}
pub use Rattle.link_sound.specs.Told.{last_report, IsTold, TellsAs}
pub use Rattle.link_watch.specs.declared.note.Note.{Note}
pub use Rattle.link_wires.specs.Prelude.{Flow, Delivered, Through, WentUndetected, begun, comes, told_of, Told, undetected, answers}
pub use Rattle.link_wires.specs.Wires.{both_bursts, WireState, with_sent, silenced, fits, edited, after_edit}
unfoldable pub use Rattle.link_wires.specs.Wires.{port_turned, bursts}
pub use Rattle.link_wires.specs.declared.moves.Move.{Move}
pub use Rattle.link_wires.specs.declared.moves.Move.TheVariants.{Held, Freed}
pub use Rattle.rio_chars.specs.declared.edit.Edit.{Edit}
pub use Rattle.rio_symbols.specs.Delimiters.{allowed, delimiter_of}
pub use Rattle.rio_symbols.specs.Spelling.{is_spelling, fields_at}
unfoldable pub use Rattle.rio_symbols.specs.Spelling.{spelled}
pub use Rattle.link_machine.specs.Acts.{Act, Pump, Tell, Deliver, Fire, Reached, At, OnState, reached_by, after_act, FoundAt, holds_at}
unfoldable pub use Rattle.link_machine.specs.Acts.{goes}
pub use Rattle.link_machine.specs.Calls.{delivery, after_delivery, first_fires}
pub use Rattle.link_machine.specs.Counts.{same_side}
unfoldable pub use Rattle.link_machine.specs.Counts.{fires}
pub use Rattle.link_machine.specs.InTime.{NoRetries, RoomAhead, TellsTruly, ends_of_link}
pub use Rattle.link_machine.specs.Layer.{IsServed, with_port}
unfoldable pub use Rattle.link_machine.specs.Led.{led, chars_of, controls, AreAnswers, port_answers, port_fed}
pub use Rattle.link_machine.specs.Prelude.{LinkState, other_side, Side, A, B, turned_round, at_end, from_end, pumped, told_from, first_takes, has_chars, delivery_from, delivered_from, is_silent, timed_out_at, IsSoundLink, has_none}
pub use Rattle.link_machine.specs.Queues.{Queues, queues_between, queues_of, queues_round, PortStep, steps_at, Walks, note_steps, NeedsFirst, first_moved}
pub use Rattle.link_machine.specs.Queues.Walks.{WalkEnds, WalkGoes}
pub use Rattle.link_machine.specs.Rest.{IsQuiet, IsRound, IsAtRest, KnowsRoom, IsDone, IsBlocked, HasPassed, IsSettled}
pub use Rattle.link_machine.specs.Runs.{IsRun}
pub use Rattle.link_machine.specs.Runs.IsRun.{RunRests, RunPumps, RunTells, RunDelivers, RunEdits, RunTimesOut, RunServes}
pub use Rattle.link_machine.specs.Schedules.{NextOf, WhereOf, Is, LoopOf}
pub use Rattle.link_machine.specs.Schedules.LoopOf.{LoopRests, LoopGoesOn, LoopLeaves}
pub use Rattle.link_machine.specs.Settling.{SchedulePart, all_chars, Empties, Drains, TakesTurn, Restarts, TimesOut, Requests, Recovers, Tells, SendsAll, Settles, first_has_chars, of_end, is_busy, is_retry_stopped, has_failed, may_fire, first_rests, is_none, is_done, is_ok, is_some}
pub use Rattle.link_machine.specs.States.{link, empty_wires}
