-- Words of hexadecimal digits, read two by two.
use Rattle.std.proofs.Common.{◌≡◌, ◌≢◌, ℕ, Bool, true, false, ◌&&◌, nat_lt, ◌≤◌, zero, suc, ◌+◌, ◌*◌, ◌/◌, ◌%◌, ◌<◌, List, [], ◌∷◌, ◌++◌, All, length, take, get_or, set, refl, sym, ap, ap₂, ◌∙◌, arith, append_assoc}
use Rattle.std.proofs.lemmas.Bool.{ltb-true, ltb-false}
use Rattle.std.proofs.lemmas.List.{take_more, take_more_set}
use Rattle.std.proofs.lemmas.List.Elements.{All-head, All-tail}
use Rattle.rio_chars.specs.HexText.{hex_digit, hex_of}
use Rattle.rio_chars.proofs.HexLaws.{hex_of-append, length-hex_of}

abbrev pub AreBytes : List ℕ → Type 0
AreBytes bytes = All (λ byte. byte < 256) bytes

first_of_bytes : (byte : ℕ) (bytes : List ℕ) → AreBytes (byte ∷ bytes) → byte < 256
first_of_bytes byte bytes are = All-head (λ byte. byte < 256) byte bytes are

rest_of_bytes : (byte : ℕ) (bytes : List ℕ) → AreBytes (byte ∷ bytes) → AreBytes bytes
rest_of_bytes byte bytes are = All-tail (λ byte. byte < 256) byte bytes are

-- the digits of whole bytes, two by two
digits_at : (bytes : List ℕ) (i : ℕ) → AreBytes bytes → i < length bytes
    → ((high : ℕ) × (high < 16) × (get_or (hex_of bytes) (2 * i) 0 ≡ hex_digit high))
    × ((low : ℕ) × (low < 16) × (get_or (hex_of bytes) (2 * i + 1) 0 ≡ hex_digit low))
digits_at [] i are below = absurd (omega arith)
digits_at (b ∷ bytes) zero are below =
    let small = first_of_bytes b bytes are in
    ((b / 16, omega arith, refl), (b % 16, omega arith, refl))
digits_at (b ∷ bytes) (suc i) are below =
    let even : 2 * suc i ≡ suc (suc (2 * i)) = omega arith in
    let odd : suc (suc (2 * i)) + 1 ≡ suc (suc (2 * i + 1)) = omega arith in
    rw even (rw odd (digits_at bytes i (rest_of_bytes b bytes are) (omega arith)))

-- two digits more, which are those of a byte
pub pairs-turn : (digits room : List ℕ) (i high low : ℕ) → i < length room
    → length digits ≡ 2 * length room → high < 16 → low < 16
    → get_or digits (2 * i) 0 ≡ hex_digit high → get_or digits (2 * i + 1) 0 ≡ hex_digit low
    → take (2 * i) digits ≡ hex_of (take i room)
    → take (2 * (i + 1)) digits ≡ hex_of (take (i + 1) (set room i (high % 16 * 16 + low % 16)))
pairs-turn digits room i high low below fits high_few low_few first second e =
    let byte = high % 16 * 16 + low % 16 in
    let index : 2 * (i + 1) ≡ 2 * i + 1 + 1 = omega arith in
    let is_high : byte / 16 ≡ high = omega arith in
    let is_low : byte % 16 ≡ low = omega arith in
    ap (λ n. take n digits) index
    ∙ take_more digits (2 * i + 1) 0 (omega arith)
    ∙ ap (λ l. l ++ get_or digits (2 * i + 1) 0 ∷ []) (take_more digits (2 * i) 0 (omega arith))
    ∙ append_assoc (take (2 * i) digits) (get_or digits (2 * i) 0 ∷ [])
    (get_or digits (2 * i + 1) 0 ∷ [])
    ∙ ap₂ (λ x y. take (2 * i) digits ++ x ∷ y ∷ []) first second
    ∙ ap (λ l. l ++ hex_digit high ∷ hex_digit low ∷ []) e
    ∙ ap₂ (λ x y. hex_of (take i room) ++ hex_digit x ∷ hex_digit y ∷ []) (sym is_high) (sym is_low)
    ∙ sym (hex_of-append (take i room) (byte ∷ []))
    ∙ ap hex_of (sym (take_more_set room i byte below))

-- two bytes that are not both digits
pub pairs-stop : (digits : List ℕ) (i : ℕ) → 2 * i + 1 < length digits
    → ((high low : ℕ) → high < 16 → low < 16 → get_or digits (2 * i) 0 ≡ hex_digit high
    → get_or digits (2 * i + 1) 0 ≢ hex_digit low)
    → (bytes : List ℕ) → AreBytes bytes → digits ≢ hex_of bytes
pairs-stop digits i within none bytes are same =
    let size : length digits ≡ 2 * length bytes = ap length same ∙ length-hex_of bytes in
    let found = digits_at bytes i are (omega arith) in
    none found.0.0 found.1.0 found.0.1 found.1.1
    (ap (λ l. get_or l (2 * i) 0) same ∙ found.0.2)
    (ap (λ l. get_or l (2 * i + 1) 0) same ∙ found.1.2)

-- whole bytes have an even number of digits
pub pairs-odd : (digits bytes : List ℕ) → length digits % 2 ≢ 0 → digits ≢ hex_of bytes
pairs-odd digits bytes odd same =
    let size : length digits ≡ 2 * length bytes = ap length same ∙ length-hex_of bytes in
    odd (omega arith)

-- what holds of three tests together, and of one that fails
all_true : (a b c : Bool) → ((a && b) && c) ≡ true → (a ≡ true) × (b ≡ true) × (c ≡ true)
all_true true true true e = (refl, refl, refl)
all_true true true false e = absurd cc
all_true true false c e = absurd cc
all_true false b c e = absurd cc

one_false : {A : Type 0} → (a b c : Bool) → ((a && b) && c) ≡ false → (a ≡ false → A)
    → (b ≡ false → A) → (c ≡ false → A) → A
one_false true true true e first second third = absurd cc
one_false true true false e first second third = third refl
one_false true false c e first second third = second refl
one_false false b c e first second third = first refl

-- these digits spell no bytes
abbrev pub SpellNone : List ℕ → Type 0
SpellNone digits = (bytes : List ℕ) → AreBytes bytes → digits ≢ hex_of bytes

-- a number below 16 is that of the digit, and of another there is none
abbrev pub IsRead : ℕ → ℕ → Type 0
IsRead digit read =
    (read < 16 → digit ≡ hex_digit read)
    × (16 ≤ read → (number : ℕ) → number < 16 → digit ≢ hex_digit number)

pub pairs-spelled : (digits room : List ℕ) (i high low : ℕ) (good : Bool) → i < length room
    → length digits ≡ 2 * length room
    → IsRead (get_or digits (2 * i) 0) high → IsRead (get_or digits (2 * i + 1) 0) low
    → (good ≡ true → take (2 * i) digits ≡ hex_of (take i room))
    → ((good && nat_lt high 16) && nat_lt low 16) ≡ true
    → take (2 * (i + 1)) digits ≡ hex_of (take (i + 1) (set room i (high % 16 * 16 + low % 16)))
pairs-spelled digits room i high low good below fits first second so_far e =
    let all = all_true good (nat_lt high 16) (nat_lt low 16) e in
    let high_few : high < 16 = ltb-true high 16 all.1 in
    let low_few : low < 16 = ltb-true low 16 all.2 in
    pairs-turn digits room i high low below fits high_few low_few (first.0 high_few)
    (second.0 low_few) (so_far all.0)

pub pairs-none : (digits room : List ℕ) (i high low : ℕ) (good : Bool) → i < length room
    → length digits ≡ 2 * length room
    → IsRead (get_or digits (2 * i) 0) high → IsRead (get_or digits (2 * i + 1) 0) low
    → (good ≡ false → SpellNone digits)
    → ((good && nat_lt high 16) && nat_lt low 16) ≡ false → SpellNone digits
pairs-none digits room i high low good below fits first second so_far e =
    let within : 2 * i + 1 < length digits = omega arith in
    one_false good (nat_lt high 16) (nat_lt low 16) e so_far
    (λ many. pairs-stop digits i within (λ x y x_few y_few is_x is_y.
    first.1 (ltb-false high 16 many) x x_few is_x))
    (λ many. pairs-stop digits i within (λ x y x_few y_few is_x is_y.
    second.1 (ltb-false low 16 many) y y_few is_y))
