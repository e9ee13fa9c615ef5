-- The tables of the CRC of packets.
use Rattle.std.specs.Prelude.{ℕ, ◌∷◌, replicate}
use Rattle.rio_packets.specs.Register.{fed_all}

-- the register, 0 before, after a byte and a number of zero bytes
abbrev pub after_zeros : ℕ → ℕ → ℕ
after_zeros zeros byte = fed_all 0 (byte ∷ replicate zeros 0)
