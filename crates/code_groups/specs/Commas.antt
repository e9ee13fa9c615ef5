-- The comma, by which a receiver finds where groups begin.
use Rattle.std.specs.Prelude.{◌≡◌, ◌≢◌, ℕ, ◌+◌, ◌-◌, ◌*◌, ◌/◌, ◌%◌, ◌^◌, ◌==◌, ◌||◌, Bool, false, List, [], ◌∷◌}
use Rattle.rio_chars.specs.declared.chars.Char.{Char}
use Rattle.rio_chars.specs.declared.chars.Char.TheVariants.{Special}

-- whether ten bits begin with a comma
abbrev pub is_comma : ℕ → Bool
is_comma word = (word / 8 == 0b0011111) || (word / 8 == 0b1100000)

-- ten bits, from a place on, of two groups that stand one after the other
abbrev pub ten_bits_at : ℕ → ℕ → ℕ → ℕ
ten_bits_at place first second = (first * 1024 + second) / 2 ^ (10 - place) % 1024

-- what a receiver sees of groups that begins at a place of a group, after which come others
abbrev pub ten_bits_from : ℕ → List ℕ → List ℕ
ten_bits_from place [] = []
ten_bits_from place (first ∷ []) = []
ten_bits_from place (first ∷ second ∷ groups) =
    ten_bits_at place first second ∷ ten_bits_from place (second ∷ groups)

-- no comma is seen
abbrev pub NoComma : List ℕ → Type 0
NoComma [] = Unit {0}
NoComma (word ∷ words) = (is_comma word ≡ false) × NoComma words

-- none of them is K28.7
abbrev pub NoneOfK28_7 : List Char → Type 0
NoneOfK28_7 [] = Unit {0}
NoneOfK28_7 (c ∷ chars) = (c ≢ Special 0xfc) × NoneOfK28_7 chars
