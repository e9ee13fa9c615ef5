-- The steps in which a link form is made.
use Rattle.std.proofs.Common.{◌≡◌, ℕ, ◌+◌, ◌%◌, ◌/◌, ◌<◌, List, [], ◌∷◌, ◌++◌, length, refl, arith, length-append}
use Rattle.rio_packets.specs.Register.{running}
use Rattle.rio_packets.specs.Hops.{closed}
use Rattle.rio_packets.specs.Making.{with_crc, with_more}

pub with_crc-is : (m : List ℕ) → with_crc m ≡ m ++ running m / 256 ∷ running m % 256 ∷ []
unfolding with_crc
with_crc-is m = refl

-- in the other word for it
pub closed-is : (m : List ℕ) → closed m ≡ m ++ running m / 256 ∷ running m % 256 ∷ []
unfolding closed
closed-is m = refl

pub length-with_crc : (m : List ℕ) → length (with_crc m) ≡ length m + 2
unfolding with_crc
length-with_crc m = length-append m _

pub with_more-none : (m : List ℕ) → with_more m [] ≡ m
unfolding with_more
with_more-none m = refl

pub with_more-some : (m rest : List ℕ) → 0 < length rest → with_more m rest ≡ with_crc (m ++ rest)
unfolding with_more
with_more-some m [] h = absurd (omega arith)
with_more-some m (b ∷ bs) h = refl
