-- The running register of the CRC of packets: a number of sixteen bits that bytes are fed into.
use Rattle.std.specs.Prelude.{ℕ, zero, suc, ◌*◌, ◌%◌, List, [], ◌∷◌, bit_xor, nat_lt, if◌then◌else◌}

-- The register after one 0 bit: doubled, and the polynomial added where the first bit was 1.
unfoldable pub shifted : ℕ → ℕ
shifted register =
    if nat_lt register 0x8000 then register * 2 else bit_xor (register * 2 % 0x10000) 0x1021

-- after so many 0 bits
unfoldable pub shifted_times : ℕ → ℕ → ℕ
shifted_times zero register = register
shifted_times (suc n) register = shifted_times n (shifted register)

-- after a byte, which is added to the first eight bits
unfoldable pub fed : ℕ → ℕ → ℕ
fed register byte = shifted_times 8 (bit_xor register (byte * 256))

-- after bytes
abbrev pub fed_all : ℕ → List ℕ → ℕ
fed_all register [] = register
fed_all register (b ∷ bs) = fed_all (fed register b) bs

-- the preset register after a message, which is the message's CRC as a number
abbrev pub running : List ℕ → ℕ
running message = fed_all 0xffff message
