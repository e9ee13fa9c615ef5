-- How a link form is made in one run of the register.
use Rattle.std.specs.Prelude.{ℕ, ◌/◌, ◌%◌, Bool, true, false, List, [], ◌∷◌, ◌++◌, take, drop}
use Rattle.rio_packets.specs.Register.{running}
use Rattle.rio_packets.specs.LinkForm.{padded}

-- a message followed by its CRC
unfoldable pub with_crc : List ℕ → List ℕ
with_crc message = message ++ running message / 256 ∷ running message % 256 ∷ []

-- a message, and if more follows, that and the CRC of it all
unfoldable pub with_more : List ℕ → List ℕ → List ℕ
with_more message [] = message
with_more message (b ∷ bs) = with_crc (message ++ b ∷ bs)

-- the link form of a body, which has its first CRC after at most 80 bytes
abbrev pub made : List ℕ → List ℕ
made body = padded (with_more (with_crc (take 80 body)) (drop 80 body))

-- the most bytes that may follow the source ID of a packet: with them the body has 272
abbrev pub most_rest : Bool → ℕ
most_rest false = 268
most_rest true = 266
