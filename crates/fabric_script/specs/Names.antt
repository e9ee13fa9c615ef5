-- The names of nodes.
use Rattle.std.specs.Prelude.{ℕ, ◌*◌, ◌%◌, ◌^◌, Bool, false, ◌&&◌, ◌||◌, nat_le, bit_or, List, [], ◌∷◌, fold, length, slice_index_or}
use Rattle.std.specs.List.{list_all}

abbrev pub is_letter : ℕ → Bool
is_letter c = (nat_le 65 c && nat_le c 90) || (nat_le 97 c && nat_le c 122)

abbrev pub is_digit : ℕ → Bool
is_digit c = nat_le 48 c && nat_le c 57

abbrev pub are_letters_or_digits : List ℕ → Bool
are_letters_or_digits bytes = list_all (λ c. is_letter c || is_digit c) bytes

-- a letter and up to seven letters or digits, in ASCII
abbrev pub is_name : List ℕ → Bool
is_name [] = false
is_name (first ∷ rest) = is_letter first && (nat_le (length rest) 7 && are_letters_or_digits rest)

-- The bytes of a word as one number, of which the last eight count. Words whose numbers differ are
-- different words.
abbrev pub key_of : List ℕ → ℕ
key_of word = fold (λ key byte. bit_or ((key * 2 ^ 8) % 2 ^ 64) byte) 0 word

-- the name of a node
abbrev pub name_of : List (List ℕ) → ℕ → List ℕ
name_of names n = slice_index_or names n []
