-- What bytes on a link carry: an ackID and a packet (RapidIO Interconnect Specification 1.3, Part
-- 6, packet format; that bit 5 is ignored is this project's profile).
use Rattle.std.specs.Prelude.{Result, Ok, Err, ◌≡◌, ℕ, ◌/◌, ◌%◌, ◌<◌, ◌==◌, ◌&&◌, ◌||◌, Bool, nat_lt, nat_le, List, [], ◌∷◌, length, take, slice_index, Option, Some, None, if◌then◌else◌}
use Rattle.std.specs.List.{list_all}
use Rattle.rio_packets.specs.declared.cause.Cause.{Cause}
use Rattle.rio_packets.specs.declared.cause.Cause.TheVariants.{BadPacket, General}
use Rattle.rio_packets.specs.LinkForm.{LinkForm}
use Rattle.rio_packets.specs.Register.{running}

-- the bytes with their first six bits set to 0
abbrev pub at_origin : List ℕ → List ℕ
at_origin [] = []
at_origin (b ∷ bs) = b % 4 ∷ bs

-- The first five bits are the ackID, and with the first six bits set to 0 the bytes are the link
-- form of some body.
pub record Carries (bytes : List ℕ) (ack : ℕ) (packet : List ℕ) : Type 0 where
  pub ack_range : ack < 32
  pub ack_is : slice_index bytes 0 / 8 ≡ ack
  pub packet_is : at_origin bytes ≡ packet
  pub body : List ℕ
  pub form : LinkForm body packet

-- whether the running register passes bytes: it is 0 at the end, and from 84 bytes on also after
-- byte 82
abbrev pub register_passes : List ℕ → Bool
register_passes bytes = (length bytes % 4 == 0)
    && (nat_lt (slice_index bytes 0) 4
    && ((running bytes == 0) && (nat_lt (length bytes) 84 || (running (take 82 bytes) == 0))))

-- whether bytes are the link form of some body
abbrev pub passes : List ℕ → Bool
passes bytes = nat_le 8 (length bytes)
    && (nat_le (length bytes) 276 && (list_all (λ b. nat_lt b 256) bytes && register_passes bytes))

-- the ackID and the packet that the bytes carry, if they carry one
unfoldable pub carried : List ℕ → Option (ℕ × List ℕ)
carried bytes =
    if nat_lt (slice_index bytes 0) 256 && passes (at_origin bytes)
    then Some (slice_index bytes 0 / 8, at_origin bytes) else None

-- what is found, or else that the bytes are bad
abbrev pub found_or_bad : Option (ℕ × List ℕ) → Result (ℕ × List ℕ) Cause
found_or_bad (Some found) = Ok found
found_or_bad None = Err BadPacket

-- what a receiver answers of bytes: the ackID and the packet that they carry, or why they carry
-- none
unfoldable pub checked : List ℕ → Result (ℕ × List ℕ) Cause
checked bytes =
    if nat_lt (length bytes) 8 || nat_lt 276 (length bytes) then Err General
    else found_or_bad (carried bytes)
