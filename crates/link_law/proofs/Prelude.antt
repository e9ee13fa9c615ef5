-- The words of other crates, of `specs` and of std that several files here cite, passed on.
pub use Rattle.std.proofs.Common.{◌≡◌, ℕ, Bool, true, false, not, MatchBool, List, [], ◌∷◌, length, Ok, Err, refl, sym, ap, ◌∙◌, subst, if◌then◌else◌, append-nil, arith, ◌++◌, map, take, Option, Some, None, OnOk, append_assoc, Result, suc, ◌+◌, ◌-◌, ◌<◌, ◌≤◌, OnErr, IsErrAnd, ◌==◌, ◌&&◌, ◌||◌, nat_lt, ◌↔◌, IsTrue, IsSome, IfErr, drop, rules}
pub use Rattle.std.proofs.lemmas.Bool.{le-leb, and_parts, not-true}
pub use Rattle.link_buffers.proofs.PriorityLaws.{packet_count-highest, length-lists_without}
pub use Rattle.link_buffers.specs.Priorities.{highest}
pub use Rattle.link_machine.proofs.Machine.{delivery_keeps, delivery_walks, pump_keeps, fired_keeps}
pub use Rattle.link_machine.proofs.Settling.Drains.{goes-append, goes_none, round_goes, rested_is_idle, three_rounds}
unfoldable pub use Rattle.link_machine.proofs.Settling.Drains.{rounds}
pub use Rattle.link_machine.proofs.Settling.Ends.{acts_keep, found_none, turn_can, requests_can, left_at, fewer_after, sound_of, sending_can, Can, next_can, recovers_can, tells_can, sends_can, telling_can, sound_by, first_quiet, second_quiet}
pub use Rattle.link_machine.proofs.Settling.Rounds.{quiet_at}
pub use Rattle.link_machine.proofs.Settling.Sending.{Sending}
pub use Rattle.link_machine.proofs.Settling.Settled.{FromSending, FromTelling, FromRecovering, Drained, FirstRests, BothRest, FirstTold, BothTold, FirstDone, go_on, drains_lead, first_recovers, second_recovers, first_tells, second_tells, first_sends, settling_rests}
pub use Rattle.link_machine.specs.Acts.{Act, Deliver, Reached, At, FoundAt, reached_by, after_act, act_notes, Pump, Tell, Fire, OnState}
unfoldable pub use Rattle.link_machine.specs.Acts.{acts_notes, goes}
pub use Rattle.link_machine.specs.Prelude.{other_side, Stopped, Note, Side, A, B, has_none, has_chars, delivery_from, delivered_from, delivery_notes, Wires, LinkState, link, from_end, Move, Got, first_takes, told_notes, move_note, sent_notes, at_end, NoteEnd, pumped, pump_notes, told_from, tell_notes, timed_out_at, time_out_notes, IsSoundLink, turned_round, is_silent, queues_of, Walks}
pub use Rattle.link_machine.specs.Rest.{IsQuiet, IsSettled}
pub use Rattle.link_machine.specs.Schedules.{Is, NextOf, WhereOf}
pub use Rattle.link_machine.specs.Schedules.LoopOf.{LoopRests, LoopGoesOn, LoopLeaves}
pub use Rattle.link_machine.specs.Settling.{SchedulePart, Empties, first_has_chars, of_end, all_chars, Drains, TakesTurn, TimesOut, Requests, may_fire, is_busy, is_retry_stopped, has_failed, is_none, is_done, is_ok, is_some, waits, rests_to, first_rests, Restarts, Recovers, Tells, SendsAll, Settles}
pub use Rattle.link_port.specs.Prelude.{Event, PortState, turn_sends, prios_of, burst_of, standing, waiting_in, is_ready}
pub use Rattle.link_port.specs.Turns.{port_turn, tell_sends}
pub use Rattle.link_watch.proofs.StopLaws.{stopped_at_once, stopped_then, stopped_before, stopped_in_one}
pub use Rattle.link_watch.specs.Stops.{IsWatch}
pub use Rattle.link_wires.specs.Deliveries.{Delivered, Through, WentUndetected, told_of, undetected}
pub use Rattle.link_wires.specs.Wires.{bursts, answers}
pub use Rattle.link_wires.specs.declared.edits.Edited.{Edited}
pub use Rattle.rio_chars.specs.declared.chars.Char.{Char}
pub use Rattle.link_law.specs.Answers.{delivery_taken, delivery_answer, UnlessGivenUp, OnGivenUp, delivery_end}
pub use Rattle.link_law.specs.Does.{Comes, Stops, Ends, CallDid, TellsOnce, Pumps, end_of}
pub use Rattle.link_law.specs.Resting.{rest_both, none_waits, none_tells, are_idle, has_no_work}
pub use Rattle.link_law.specs.declared.answers.LinkEnd.{LinkEnd}
pub use Rattle.link_law.specs.declared.answers.LinkEnd.TheVariants.{Undetected, Failed, NoMemory}
