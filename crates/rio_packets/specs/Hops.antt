-- The packet that a maintenance packet becomes if its hop count is lowered by one
-- (RapidIO Interconnect Specification 1.3, Part 3, maintenance packets; Part 6, packet CRC).
use Rattle.std.specs.Prelude.{ℕ, ◌-◌, ◌/◌, ◌%◌, ◌==◌, Bool, true, false, List, [], ◌∷◌, ◌++◌, take, slice_index, slice_set}
use Rattle.rio_packets.specs.Fields.{tt_of, hop_place, crc_place}
use Rattle.rio_packets.specs.Register.{running}

-- a message followed by the two bytes of its CRC
unfoldable pub closed : List ℕ → List ℕ
closed message = message ++ running message / 256 ∷ running message % 256 ∷ []

-- a message, its CRC, and the pad of a maintenance packet with two-byte IDs
abbrev pub message_ended : Bool → List ℕ → List ℕ
message_ended false message = closed message
message_ended true message = closed message ++ 0 ∷ 0 ∷ []

-- whether the IDs have two bytes each
abbrev pub is_large : List ℕ → Bool
is_large bytes = tt_of bytes == 1

-- the hop count is one less, and the CRC is made of all before it
abbrev pub lowered : List ℕ → List ℕ
lowered bytes = message_ended (is_large bytes) (take (crc_place bytes)
    (slice_set bytes (hop_place bytes) (slice_index bytes (hop_place bytes) - 1)))
