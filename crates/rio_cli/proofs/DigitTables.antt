-- The tables of numbers behind a space and of pairs of digits.
use Rattle.std.proofs.Common.{◌≡◌, ℕ, ◌+◌, ◌*◌, ◌<◌, ◌≤◌, ◌/◌, ◌%◌, [], ◌∷◌, nat_lt, if◌then◌else◌, get_or, map, refl, ap, ap₂, ◌∙◌, arith}
use Rattle.std.proofs.lemmas.Bool.Decides.{nat_tests}
use Rattle.std.specs.List.{range_with_len}
use Rattle.std.proofs.lemmas.List.FromFn.{get_or-map-range_with_len}
use Rattle.rio_cli.specs.declared.places.TheConstants.{SPACED_NUMBERS, DIGIT_PAIRS}

-- what the table has for a number: its text, the first byte lowest
abbrev text_of : ℕ → ℕ
text_of n =
    if nat_lt n 10 then 32 + 256 * (48 + n) else 32 + 256 * (48 + n / 10) + 65536 * (48 + n % 10)

table_is : SPACED_NUMBERS ≡ map text_of (range_with_len 0 100)
table_is = refl

entry : (n d : ℕ) → n < 100 → get_or SPACED_NUMBERS n d ≡ text_of n
entry n d below =
    ap (λ table. get_or table n d) table_is
    ∙ get_or-map-range_with_len text_of 0 100 n n d below (omega arith)

pub small : (n d : ℕ) → n < 10 → get_or SPACED_NUMBERS n d ≡ 32 + 256 * (48 + n)
small n d below =
    let is : text_of n ≡ 32 + 256 * (48 + n) = grind (arith, nat_tests) in
    entry n d (omega arith) ∙ is

pub large : (n d : ℕ) → 10 ≤ n → n < 100
    → get_or SPACED_NUMBERS n d ≡ 32 + 256 * (48 + n / 10) + 65536 * (48 + n % 10)
large n d least below =
    let is : text_of n ≡ 32 + 256 * (48 + n / 10) + 65536 * (48 + n % 10) =
    grind (arith, nat_tests) in
    entry n d below ∙ is

-- the digits of a number below 100, the first in the low byte
abbrev pub pair_of : ℕ → ℕ
pair_of n = 48 + n / 10 + 256 * (48 + n % 10)

pairs_are : DIGIT_PAIRS ≡ map pair_of (range_with_len 0 100)
pairs_are = refl

pub pair : (n d : ℕ) → n < 100 → get_or DIGIT_PAIRS n d ≡ pair_of n
pair n d few =
    ap (λ table. get_or table n d) pairs_are
    ∙ get_or-map-range_with_len pair_of 0 100 n n d few (omega arith)

pub pair_bytes : (n x : ℕ) → n < 100 → x ≡ pair_of n
    → x % 256 ∷ x / 256 % 256 ∷ [] ≡ (48 + n / 10) ∷ (48 + n % 10) ∷ []
pair_bytes n x few is =
    let first : x % 256 ≡ 48 + n / 10 = omega arith in
    let second : x / 256 % 256 ≡ 48 + n % 10 = omega arith in
    ap₂ (λ a b. a ∷ b ∷ []) first second

-- those of two pairs in a word
pub pairs_bytes : (m n x : ℕ) → m < 100 → n < 100 → x ≡ pair_of m + 65536 * pair_of n
    → x % 256 ∷ x / 256 % 256 ∷ x / 65536 % 256 ∷ x / 16777216 % 256 ∷ []
    ≡ (48 + m / 10) ∷ (48 + m % 10) ∷ (48 + n / 10) ∷ (48 + n % 10) ∷ []
pairs_bytes m n x few fewer is =
    let a : x % 256 ≡ 48 + m / 10 = omega arith in
    let b : x / 256 % 256 ≡ 48 + m % 10 = omega arith in
    let c : x / 65536 % 256 ≡ 48 + n / 10 = omega arith in
    let d : x / 16777216 % 256 ≡ 48 + n % 10 = omega arith in
    ap₂ (λ a l. a ∷ l) a (ap₂ (λ b l. b ∷ l) b (ap₂ (λ c d. c ∷ d ∷ []) c d))
