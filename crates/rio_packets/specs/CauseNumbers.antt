-- The numbers of the causes (RapidIO Interconnect Specification 1.3, Part 6, packet-not-accepted).
use Rattle.std.specs.Prelude.{ℕ}
use Rattle.rio_packets.specs.declared.cause.Cause.{Cause}
use Rattle.rio_packets.specs.declared.cause.Cause.TheVariants.{UnexpectedAck, BadSymbol, BadPacket, BadChar, General}

-- the number that a symbol carries
abbrev pub number_of : Cause → ℕ
number_of UnexpectedAck = 1
number_of BadSymbol = 2
number_of BadPacket = 4
number_of BadChar = 5
number_of General = 31
