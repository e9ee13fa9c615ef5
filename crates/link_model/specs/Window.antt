-- How many packets may be outstanding (RapidIO Interconnect Specification 1.3, Part 6, packet
-- acknowledgment).
use Rattle.std.specs.Prelude.{ℕ}

-- the most packets that are outstanding at a time
unfoldable pub window : ℕ
window = 31
