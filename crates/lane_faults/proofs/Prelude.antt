-- The words of other crates, of `specs` and of std that several files here cite, passed on.
pub use Rattle.std.proofs.Common.{ℕ, List, [], ◌∷◌, ◌++◌, Bool, true, false, map, if◌then◌else◌, ◌≡◌, zero, suc, ◌+◌, length, take, drop, Option, Some, None, slice_get, refl, sym, ap, ◌∙◌, subst, inl, inr, ◌≢◌, ◌==◌, nat_lt, nat_le, ◌||◌, true≢false, ◌&&◌, arith, ◌<◌}
pub use Rattle.std.proofs.lemmas.Bool.{cases_Bool, and_parts, le-leb, ltb-true}
pub use Rattle.code_groups.specs.Changes.{is_delimiter, DifferInOneBlock, with_wrong_bit, with_wrong_bit_at, is_used}
pub use Rattle.link_machine.proofs.Settling.Bursting.{IsDelimited, read_at_rest, turned_is, turns_read, turns_delimited, tell_read, tell_delimited, answers_are_read, answers_delimited}
unfoldable pub use Rattle.link_machine.specs.Led.{AreAnswers}
pub use Rattle.link_model.specs.Places.{place, step_by, ReaderStep, byte_added, outside, broken, symbol_taken, finished}
unfoldable pub use Rattle.link_model.specs.Places.{run}
pub use Rattle.link_model.specs.Prelude.{Fields, Place, at_rest, said, Sends, status}
unfoldable pub use Rattle.link_model.specs.Prelude.{place_after}
pub use Rattle.link_model.specs.Reading.{placed, Text, Skipped, Plain, Within, packet_ended, ends_packet}
pub use Rattle.link_model.specs.ReadingKinds.{special_kind}
unfoldable pub use Rattle.link_model.specs.ReadingKinds.{kind}
pub use Rattle.link_model.specs.declared.event.Event.{Event}
pub use Rattle.link_model.specs.declared.event.Event.TheVariants.{Ctl, Pkt, Bad}
pub use Rattle.link_model.specs.declared.reading_kinds.CharKind.{CharKind}
pub use Rattle.link_model.specs.declared.reading_kinds.CharKind.TheVariants.{Byte, Stray, Opens, Idle}
pub use Rattle.link_model.specs.declared.reading_kinds.Pending.{Pending}
pub use Rattle.link_model.specs.declared.reading_kinds.Pending.TheVariants.{Nothing, Opened, One, Two}
pub use Rattle.link_port.specs.Prelude.{PortState, acts, is_acted, tell_sends, symbol_burst, IsPort}
pub use Rattle.link_port.specs.Turns.{Burst, IsRead, no_burst, packet_burst, burst_of, port_turn, turn_sends, turns_to, standing, waiting_in, timed_out}
pub use Rattle.link_wires.proofs.Subsequences.{sub_none, sub_drop, sub-append, sub_behind}
pub use Rattle.link_wires.specs.Deliveries.{Flow, Delivered, Through, begun, done, met, comes, goes_on, ended, delivered, WentUndetected, undetected, told_of}
unfoldable pub use Rattle.link_wires.specs.Deliveries.{come}
pub use Rattle.link_wires.specs.Kept.{IsSubsequence, EndsWithin, TakesWithin, SkipsWithin, behind}
pub use Rattle.link_wires.specs.Wires.{WireState, with_sent, answers, silenced, port_turned}
unfoldable pub use Rattle.link_wires.specs.Wires.{bursts}
pub use Rattle.rio_chars.specs.CharText.{IsData}
pub use Rattle.rio_chars.specs.declared.chars.Char.{Char}
pub use Rattle.rio_chars.specs.declared.chars.Char.TheVariants.{Data, Special, Invalid}
pub use Rattle.rio_symbols.specs.Spelling.{is_spelling, fields_at}
unfoldable pub use Rattle.rio_symbols.specs.Spelling.{spelled}
pub use Rattle.lane_faults.specs.Among.{GoodStandIn, none_stands, bad_is_passed, same_stands, other_is_passed, IsGoodEvent, AreGood}
pub use Rattle.lane_faults.specs.LaneRuns.{HeardUpTo, LaneLink, lanes_of, lanes_round, lanes_from, on_link, hearing, first_hears, lanes_hear, HearsSo, EndsUndetected, LanesTurn, LanesTell, LanesTimeOut, LanesServe, LanesHear, LanesFind}
pub use Rattle.lane_faults.specs.Mistakes.{HeardWithMistakes, IsMistakenFor}
