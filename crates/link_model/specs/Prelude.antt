-- The words of characters, control symbols and packets, of their reading and of the step tables,
-- which the crates of links cite most, passed on from one place. Declares nothing. States and
-- columns whose names say little alone stay with their tables.
pub use Rattle.rio_chars.specs.declared.chars.Char.{Char}
pub use Rattle.rio_chars.specs.declared.chars.Char.TheVariants.{Data, Special, Invalid}
pub use Rattle.rio_symbols.specs.Fields.{Fields, InRange}
pub use Rattle.rio_symbols.specs.declared.characters.Delimiter.{Delimiter}
pub use Rattle.rio_symbols.specs.declared.characters.Delimiter.TheVariants.{Sc, Pd}
pub use Rattle.rio_symbols.specs.Delimiters.{allowed}
unfoldable pub use Rattle.rio_symbols.specs.Spelling.{spelled, symbol_bytes}
pub use Rattle.rio_symbols.specs.declared.stype0.TheConstants.{PACKET_ACCEPTED, PACKET_RETRY, PACKET_NOT_ACCEPTED, LINK_RESPONSE}
pub use Rattle.rio_symbols.specs.declared.stype1.TheConstants.{START_OF_PACKET, END_OF_PACKET, RESTART_FROM_RETRY, LINK_REQUEST}
pub use Rattle.rio_packets.specs.Fields.{prio_of}
pub use Rattle.rio_packets.specs.LinkForm.{LinkForm, Passes}
pub use Rattle.rio_packets.specs.Carries.{Carries}
unfoldable pub use Rattle.rio_packets.specs.Carries.{carried, checked}
pub use Rattle.rio_packets.specs.declared.cause.Cause.{Cause}
pub use Rattle.rio_packets.specs.declared.cause.Cause.TheVariants.{BadSymbol, BadPacket, BadChar, General}
pub use Rattle.rio_packets.specs.CauseNumbers.{number_of}
pub use Rattle.link_model.specs.Said.{said}
unfoldable pub use Rattle.link_model.specs.Fronts.{telling_front}
pub use Rattle.link_model.specs.Places.{Place, place_start, at_rest, place, step, IsBounded}
unfoldable pub use Rattle.link_model.specs.Places.{run, place_after}
pub use Rattle.link_model.specs.Reading.{Plain, Within, Skipped, Text, placed}
pub use Rattle.link_model.specs.ReadingSpelt.{data_chars}
unfoldable pub use Rattle.link_model.specs.ReadingSpelt.{symbol_chars_of, packet_chars_of}
unfoldable pub use Rattle.link_model.specs.Window.{window}
pub use Rattle.link_model.specs.Reports.{untold}
pub use Rattle.link_model.specs.Outstanding.{Outstanding, from_ack, distance, IsOutstanding}
pub use Rattle.link_model.specs.Output.{Output, Sends, hears, hears_report, turns, times_out}
pub use Rattle.link_model.specs.Input.{Input, Arrival, Received, symbol_arrival, packet_arrival, receives}
pub use Rattle.link_model.specs.Input.Arrival.{Damaged}
pub use Rattle.link_model.specs.Symbols.{packet_accepted, restart_from_retry, link_request, status, start_of_packet, end_of_packet}
