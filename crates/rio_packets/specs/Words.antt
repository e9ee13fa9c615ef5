-- Words of 32 bits in the bytes of a packet, of which the first is the highest, and what the status
-- of a response may be. A missing byte is read as 0.
use Rattle.std.specs.Prelude.{ℕ, ◌+◌, ◌*◌, ◌/◌, ◌%◌, ◌==◌, ◌||◌, Bool, List, [], ◌∷◌, slice_index}

-- a word, the number of 32 bits in the four bytes from a place on
abbrev pub word_at : List ℕ → ℕ → ℕ
word_at bytes at =
    0x1000000 * slice_index bytes at + 0x10000 * slice_index bytes (at + 1)
    + 0x100 * slice_index bytes (at + 2) + slice_index bytes (at + 3)

-- the bytes of a word
abbrev pub word_bytes : ℕ → List ℕ
word_bytes n = n / 0x1000000 ∷ n / 0x10000 % 0x100 ∷ n / 0x100 % 0x100 ∷ n % 0x100 ∷ []

-- status 0 is done, and 7 is an error
abbrev pub is_status : ℕ → Bool
is_status status = (status == 0) || (status == 7)
