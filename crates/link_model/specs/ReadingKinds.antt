-- What a character is to a receiver (RapidIO Interconnect Specification 1.3, Part 6, special
-- characters).
use Rattle.std.specs.Prelude.{ℕ, ◌==◌, ◌||◌, if◌then◌else◌}
use Rattle.rio_chars.specs.declared.chars.Char.{Char}
use Rattle.rio_chars.specs.declared.chars.Char.TheVariants.{Data, Special, Invalid}
use Rattle.rio_symbols.specs.declared.characters.Delimiter.TheVariants.{Sc, Pd}
use Rattle.link_model.specs.declared.reading_kinds.CharKind.{CharKind}
use Rattle.link_model.specs.declared.reading_kinds.CharKind.TheVariants.{Byte, Opens, Idle, Stray}

-- K28.0 and K28.3 are the delimiters SC and PD; K28.5, K29.7 and K27.7 are idles
abbrev pub special_kind : ℕ → CharKind
special_kind byte =
    if byte == 0x1c then Opens Sc
    else (if byte == 0x7c then Opens Pd
    else (if (byte == 0xbc) || ((byte == 0xfd) || (byte == 0xfb)) then Idle else Stray))

-- what a character is
unfoldable pub kind : Char → CharKind
kind (Data byte) = Byte byte
kind (Special byte) = special_kind byte
kind Invalid = Stray
