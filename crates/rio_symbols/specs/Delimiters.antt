-- The special character before a control symbol.
use Rattle.std.specs.Prelude.{nat_le, ◌&&◌, if◌then◌else◌, Bool}
use Rattle.rio_symbols.specs.declared.characters.Delimiter.{Delimiter}
use Rattle.rio_symbols.specs.declared.characters.Delimiter.TheVariants.{Sc, Pd}
use Rattle.rio_symbols.specs.declared.stype1.TheConstants.{LINK_REQUEST, RESTART_FROM_RETRY, NOP}
use Rattle.rio_symbols.specs.Fields.{Fields}

-- Which symbols may follow a delimiter: PD is for the bounds of packets, up to link-request, and SC
-- for the rest, from restart-from-retry on. Restart-from-retry and link-request may follow either.
abbrev pub allowed : Delimiter → Fields → Bool
allowed Pd symbol = nat_le symbol.s1 LINK_REQUEST
allowed Sc symbol = nat_le RESTART_FROM_RETRY symbol.s1 && nat_le symbol.s1 NOP

-- what this project's sender puts before a symbol: SC where it may stand, else PD
abbrev pub delimiter_of : Fields → Delimiter
delimiter_of symbol = if allowed Sc symbol then Sc else Pd
