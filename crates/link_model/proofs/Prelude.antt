-- The words of other crates, of `specs` and of std that several files here cite, passed on.
pub use Rattle.std.proofs.Common.{◌≡◌, ℕ, ◌<◌, ◌≤◌, Bool, nat_lt, Option, Some, None, List, length, if◌then◌else◌, inl, inr, refl, sym, ap, ◌∙◌, suc, ◌+◌, [], ◌∷◌, ◌++◌, take, drop, arith, ◌==◌, nat_le, true, false, length-append, ◌⊎◌, filter, map, ◌↔◌, subst, append_assoc, append-nil, ◌*◌, get_or}
pub use Rattle.std.proofs.lemmas.Bool.Decides.{Decides-ltb, Decides-eqb, Decides-or, not_from_Decides}
pub use Rattle.rio_chars.specs.declared.chars.Char.{Char}
pub use Rattle.rio_packets.proofs.CarriesLaws.{carried-from_Carries, carried-none, carried-out_of_range, Carries-with_ack}
pub use Rattle.rio_packets.specs.Carries.{Carries, carried, found_or_bad, checked}
pub use Rattle.rio_packets.specs.declared.cause.Cause.TheVariants.{BadPacket, General, BadSymbol, BadChar}
pub use Rattle.rio_symbols.proofs.SpellingLaws.{spelled_some, spelled_none, spelled_back, spelled_own}
pub use Rattle.rio_symbols.specs.Delimiters.{allowed, delimiter_of}
pub use Rattle.rio_symbols.specs.Fields.{Fields, InRange}
pub use Rattle.rio_symbols.specs.Spelling.{spelled, SpellsSymbol}
unfoldable pub use Rattle.rio_symbols.specs.Spelling.{symbol_bytes}
pub use Rattle.rio_symbols.specs.declared.characters.Delimiter.{Delimiter}
pub use Rattle.link_model.specs.Events.{packet_or_cause, checked_event}
unfoldable pub use Rattle.link_model.specs.Events.{packet_event}
pub use Rattle.link_model.specs.Fronts.{Front, front_by}
unfoldable pub use Rattle.link_model.specs.Fronts.{telling_front}
pub use Rattle.link_model.specs.Places.{Place, step, AreGiven, place_start, opened, byte_added, symbol_taken, finished, step_by, IsBounded, at_rest, place, ReaderStep, broken, broken_off, begins_in}
unfoldable pub use Rattle.link_model.specs.Places.{run, place_after}
pub use Rattle.link_model.specs.Reading.{placed, Text, Plain, Skipped, Within, text_after, packet_ended, ends_packet, told, Reads, IsReading, IsCut, IsOpen, IsWhole, no_byte, one_byte, two_bytes, plain_ends, idle_passes, data_outside, stray_outside, skipped_ends, data_skipped, stray_skipped, idle_ends_skipping, delimiter_ends_skipping, packet_is_cut, data_is_added, data_is_too_long, idle_in_packet, stray_in_packet, symbol_is_read, spells_none, not_allowed, cut_by_delimiter, cut_by_idle, cut_by_stray, cut_by_the_end, IsUnfinished}
unfoldable pub use Rattle.link_model.specs.ReadingKinds.{kind}
pub use Rattle.link_model.specs.ReadingSpelt.{delimiter_char, data_chars}
unfoldable pub use Rattle.link_model.specs.ReadingSpelt.{symbol_chars_of, bytes_with_ack, packet_chars_of}
pub use Rattle.link_model.specs.declared.event.Event.{Event}
pub use Rattle.link_model.specs.declared.event.Event.TheVariants.{Pkt, Bad, Ctl}
pub use Rattle.link_model.specs.declared.reading_kinds.CharKind.{CharKind}
pub use Rattle.link_model.specs.declared.reading_kinds.CharKind.TheVariants.{Byte, Opens, Idle, Stray}
pub use Rattle.link_model.specs.declared.reading_kinds.Pending.{Pending}
pub use Rattle.link_model.specs.declared.reading_kinds.Pending.TheVariants.{Nothing, Opened, One, Two}
