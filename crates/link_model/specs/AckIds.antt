-- ackIDs count modulo 32 (RapidIO Interconnect Specification 1.3, Part 6, packet acknowledgment).
use Rattle.std.specs.Prelude.{ℕ, ◌+◌, ◌-◌, ◌%◌}

-- how far an ackID is on from another
abbrev pub distance : ℕ → ℕ → ℕ
distance from to = (to + 32 - from) % 32
