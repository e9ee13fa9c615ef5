-- The text of bytes in hexadecimal digits.
use Rattle.std.proofs.Common.{◌≡◌, ◌<◌, ◌+◌, ◌*◌, ◌/◌, ◌%◌, ℕ, List, [], ◌∷◌, ◌++◌, length, take, get_or, set, refl, sym, ap, ◌∙◌, arith, length-set, append_assoc}
use Rattle.std.proofs.lemmas.List.{take_more, take_more_set}
use Rattle.std.proofs.lemmas.Grind.{common_steps}
use Rattle.rio_chars.specs.HexText.{hex_digit, hex_of}

pub hex_of-append : (a b : List ℕ) → hex_of (a ++ b) ≡ hex_of a ++ hex_of b
hex_of-append [] b = refl
hex_of-append (x ∷ a) b = ap (λ l. hex_digit (x / 16) ∷ hex_digit (x % 16) ∷ l) (hex_of-append a b)

pub length-hex_of : (a : List ℕ) → length (hex_of a) ≡ 2 * length a
length-hex_of [] = refl
length-hex_of (x ∷ a) = let e = length-hex_of a in grind (arith, common_steps, e)

pub hex_digit-injective : (m n : ℕ) → hex_digit m ≡ hex_digit n → m ≡ n
hex_digit-injective m n e = grind (arith, common_steps)

pub hex_of-injective : (a b : List ℕ) → hex_of a ≡ hex_of b → a ≡ b
hex_of-injective [] [] e = refl
hex_of-injective [] (y ∷ b) e = cc
hex_of-injective (x ∷ a) [] e = cc
hex_of-injective (x ∷ a) (y ∷ b) e =
    let high = hex_digit-injective (x / 16) (y / 16) cc in
    let low = hex_digit-injective (x % 16) (y % 16) cc in
    let same : x ≡ y = omega arith in
    let rest = hex_of-injective a b cc in
    cc

-- two digits more
pub hex_of-step : (room bytes : List ℕ) (i : ℕ) → i < length bytes → length room ≡ 2 * length bytes
    → take (2 * i) room ≡ hex_of (take i bytes)
    → take (2 * (i + 1)) (set (set room (2 * i) (hex_digit (get_or bytes i 0 / 16))) (2 * i + 1)
    (hex_digit (get_or bytes i 0 % 16))) ≡ hex_of (take (i + 1) bytes)
hex_of-step room bytes i below fits e =
    let a = hex_digit (get_or bytes i 0 / 16) in
    let b = hex_digit (get_or bytes i 0 % 16) in
    let once = set room (2 * i) a in
    let kept : length once ≡ length room = length-set room (2 * i) a in
    let last : 2 * i + 1 < length once = omega arith in
    let first : 2 * i < length room = omega arith in
    let index : 2 * (i + 1) ≡ 2 * i + 1 + 1 = omega arith in
    ap (λ n. take n (set once (2 * i + 1) b)) index
    ∙ take_more_set once (2 * i + 1) b last
    ∙ ap (λ l. l ++ b ∷ []) (take_more_set room (2 * i) a first)
    ∙ append_assoc (take (2 * i) room) (a ∷ []) (b ∷ [])
    ∙ ap (λ l. l ++ a ∷ b ∷ []) e
    ∙ sym
    (ap hex_of (take_more bytes i 0 below) ∙ hex_of-append (take i bytes) (get_or bytes i 0 ∷ []))
