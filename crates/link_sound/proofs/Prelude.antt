-- The words of other crates, of `specs` and of std that several files here cite, passed on.
pub use Rattle.std.proofs.Common.{◌≡◌, ℕ, ◌-◌, ◌%◌, ◌<◌, ◌≤◌, Bool, true, false, Option, Some, None, IfSome, List, [], ◌∷◌, length, take, inl, inr, refl, sym, ap, ◌∙◌, subst, arith, length-append, length-drop, ◌≢◌, zero, suc, ◌==◌, ◌++◌, map, drop, option_to_list, All, append_assoc, ◌+◌, slice_get, if◌then◌else◌, ◌⊎◌, IsSome, nat_lt, ◌||◌, nat_le, lt-ltb, ◌&&◌, ltb-true, option_map, IsTrue}
pub use Rattle.std.proofs.Math.Seq.{drop-append_seam, take-add, take-nil}
pub use Rattle.std.proofs.lemmas.Bool.{cases_lt, le-leb, and_parts, eqb-true, cases_Bool, eq-eqb, ltb-false, le-ltb}
pub use Rattle.std.proofs.lemmas.List.{append-nil, map-append, set_past, take-append-le, drop-drop, length-take-le, drop-append-le}
pub use Rattle.std.proofs.lemmas.List.Elements.{All-nil, All-cons, All-drop, All-append, filter-append, All-head, All-tail}
pub use Rattle.std.proofs.lemmas.Option.{slice_get_within, IfSome_then, slice_get-map}
pub use Rattle.link_buffers.proofs.PriorityLaws.{Covers-drop, Covers-highest, highest_below-some, list_at-appended, packets_of-appended, lists_without-appended, Covers-take, length-lists_without, IsOutStore-lists_without, drop-packets_of, map-prio_of-packets_of, take-packets_of, Covers-first, Covers-appended, length-packets_of, packets_of-next}
pub use Rattle.link_buffers.proofs.PriorityLists.{packets_of-append, lists_without-append, slice_get-lists_without}
pub use Rattle.link_buffers.proofs.PriorityParts.{of_prio_one, held_of_prio, drop_at}
pub use Rattle.link_buffers.proofs.QueueLemmas.{packet_count-appended, Passes-at}
pub use Rattle.link_buffers.specs.Prelude.{lists_without, highest, Covers, no_packets, list_at, appended, Buffered, room_for, stored, packet_count, IsOutStore, packets_of}
unfoldable pub use Rattle.link_buffers.specs.Priorities.{highest_below}
pub use Rattle.link_buffers.specs.Queues.{of_prio, popped, Sorted, IsInStore, ArePackets}
pub use Rattle.link_model.proofs.WindowFacts.{startable-full, startable-open, credited_some, window_few}
pub use Rattle.link_model.specs.Input.{InputOk, InputRetryStopped, InputErrorStopped}
pub use Rattle.link_model.specs.Input.Arrival.{ExpectedWithRoom, ExpectedWithoutRoom, UnexpectedAck, RestartFromRetry, LinkRequest, OtherStype1}
pub use Rattle.link_model.specs.Output.{Stype0, stype0, started, credited, reported, startable, unstarted}
pub use Rattle.link_model.specs.Output.Stype0.{PacketAccepted, PacketRetry, PacketNotAccepted, LinkResponse, OtherStype0}
pub use Rattle.link_model.specs.Outstanding.{without_oldest, with_next, next_ack, is_oldest}
pub use Rattle.link_model.specs.Prelude.{Fields, Input, Output, hears, hears_report, turns, times_out, Outstanding, IsOutstanding, distance, from_ack, prio_of, receives, Sends, status, Arrival, Damaged, Place, number_of, Received, packet_arrival, symbol_arrival, PACKET_RETRY, untold, BadPacket, place_start, Passes, IsBounded, start_of_packet, end_of_packet, packet_accepted}
unfoldable pub use Rattle.link_model.specs.Prelude.{window}
pub use Rattle.link_model.specs.Reports.{IsReport, credit, has_buffer_status, report_of, base_of, has_credit}
pub use Rattle.link_model.specs.declared.reports.Report.{Report}
pub use Rattle.link_port.proofs.HearLaws.{report_prios}
pub use Rattle.link_port.specs.Prelude.{prios_of, Event, PortState, IsPort, acts, turns_to, timed_out, waiting_in, expected_of, standing, buffer_status, burst_of, packet_burst, symbol_burst, no_burst, Ctl, Pkt, Bad, is_acted, expects, new_port}
pub use Rattle.link_port.specs.States.{IsOutput, has_asked}
pub use Rattle.link_port.specs.Turns.{port_turn}
pub use Rattle.link_sound.specs.Between.{IsBetween}
pub use Rattle.link_sound.specs.Credits.{Word, WordTold, Responded, Silent, word, AreCounted, free_buffers, HaveRoomAt, IsCovered, AreCountedAt, HasTold, WordsInTurn, Accepted, word_of, FindsRoom, HaveRoom}
pub use Rattle.link_sound.specs.Direction.{FitsSender, FitsReceiver, IsDirection}
pub use Rattle.link_sound.specs.Histories.{AreBuffers, Journeys, Link, new_link, link_turned_round, after_event, IsStep, StepTurns, StepTells, StepActs, Others, StepTimesOut, Puts, Loses, StepGoesOn, IsHistory, Rests, AtFirst, AtSecond, AreCarried, after_turn, after_put, after_telling, no_journeys}
pub use Rattle.link_sound.specs.InTime.{LeaveRoom, IsLinked, IsToldInTime}
pub use Rattle.link_sound.specs.Kept.{Lacks, AcceptsInTurn, PacketsInTurn, RetryOnce, RestartOnce, RequestLast, ResponseLast}
pub use Rattle.link_sound.specs.Lent.{lent, waiting, Holds, Frees, lent_until, waiting_from, HoldsAt}
pub use Rattle.link_sound.specs.Marks.{Forward, Backward, Response, is_forward, ForwardPacket, ForwardRequest, is_response, Other, is_packet, ForwardRestart, Accept, Retry, is_restart, is_forward_request, Neutral, is_retry, is_backward}
pub use Rattle.link_sound.specs.Meanings.{tells, receiver_of, forward, backward, oldest_of, asks, sender_of, reply_forward, reply_backward}
pub use Rattle.link_sound.specs.Receiver.{IsShut, Receiver, ReceiverRetryStopped, ReceiverOk, ReceiverErrorStopped}
pub use Rattle.link_sound.specs.Sender.{Sender, SenderOk, SenderRetryStopped, SenderErrorStopped, SenderFailed}
pub use Rattle.link_sound.specs.Sound.{IsSound, reply_sent}
pub use Rattle.link_sound.specs.Told.{last_report, TellsAs, IsTold}
pub use Rattle.link_sound.specs.Worked.{worked_packet, one_arrived, arrivals}
