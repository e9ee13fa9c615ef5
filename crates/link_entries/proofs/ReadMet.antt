-- Each entry of a character is met.
use Rattle.std.proofs.Common.{◌≡◌, true, refl}
use Rattle.link_entries.specs.declared.entry.Entry.TheVariants.{Read}
use Rattle.link_entries.specs.declared.entry.ReadEntry.{ReadEntry}
use Rattle.link_entries.specs.declared.entry.ReadEntry.TheVariants as read
use Rattle.link_entries.specs.Deeds.{meets, entries_met, events_entries}
use Rattle.link_entries.specs.Trials.{trial_of}
use Rattle.link_model.specs.Window.{window}
use Rattle.link_buffers.specs.Priorities.{highest_below}
use Rattle.crc_division.specs.Bits.{bits, number}
use Rattle.crc_division.specs.Division.{division_steps, complemented}
use Rattle.rio_symbols.specs.Crc5.{field_bits, crc5_message, crc5_of, crc5_value}
use Rattle.rio_symbols.specs.Spelling.{symbol_bytes, is_spelling, spelled}
use Rattle.rio_packets.specs.Carries.{carried}
use Rattle.rio_packets.specs.Register.{shifted, shifted_times, fed}
use Rattle.link_model.specs.Events.{packet_event}
use Rattle.link_model.specs.ReadingKinds.{kind}
use Rattle.link_model.specs.ReadingSpelt.{symbol_chars_of}
use Rattle.link_port.specs.Steps.{acts_all}

pub read_met : (entry : ReadEntry) → meets (trial_of (Read entry)) (Read entry) ≡ true
unfolding entries_met events_entries window highest_below bits number division_steps complemented
    field_bits crc5_message crc5_of crc5_value symbol_bytes is_spelling spelled carried shifted
    shifted_times fed packet_event kind symbol_chars_of acts_all
read_met read.NoSymbol = refl
read_met read.WrongDelimiter = refl
read_met read.DelimiterInSymbol = refl
read_met read.IdleInSymbol = refl
read_met read.StrayInSymbol = refl
read_met read.DataOutside = refl
read_met read.StrayOutside = refl
read_met read.IdleInPacket = refl
read_met read.StrayInPacket = refl
read_met read.TooLong = refl
read_met read.TooShort = refl
read_met read.BadCrc = refl
read_met read.EndedByNext = refl
read_met read.StompInPacket = refl
read_met read.BrokenOff = refl
read_met read.SymbolInPacket = refl
read_met read.EndOutside = refl
read_met read.IdleOutside = refl
read_met read.Skipped = refl
read_met read.SkippingEnds = refl
