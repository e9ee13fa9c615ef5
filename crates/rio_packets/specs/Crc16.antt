-- The CRC of packets, a remainder of the long division of bits.
use Rattle.std.specs.Prelude.{Bool, true, false, List, ℕ, ◌∷◌, ◌++◌, replicate}
use Rattle.crc_division.specs.Bits.{bits, bits_of}
use Rattle.crc_division.specs.Division.{remainder, complemented}

-- 1 0001 0000 0010 0001, which is x^16 + x^12 + x^5 + 1
-- (RapidIO Interconnect Specification 1.3, Part 6, packet CRC)
unfoldable pub crc16_divisor : List Bool
crc16_divisor = true ∷ bits 16 0x1021

-- The CRC of packets: the remainder of the bits, the first sixteen complemented, followed by
-- sixteen 0 bits.
unfoldable pub crc16_of : List ℕ → List Bool
crc16_of bytes = remainder (complemented 16 (bits_of bytes) ++ replicate 16 false) crc16_divisor
