-- The bytes of numbers behind spaces in one word, the first byte lowest.
use Rattle.std.proofs.Common.{◌≡◌, ℕ, ◌+◌, ◌*◌, ◌<◌, ◌≤◌, ◌/◌, ◌%◌, List, [], ◌∷◌, ◌++◌, refl, sym, ap, ap₂, ◌∙◌, arith}
use Rattle.std.specs.Prelude.{codes}
use Rattle.std.proofs.lemmas.Fmt.{decimal_digit}
use Rattle.host_enumerate.specs.MapTexts.{spaced}
use Rattle.rio_cli.proofs.NumberLaws.{two}

-- the word of a digit, and that of two
abbrev pub digit_word : ℕ → ℕ
digit_word n = 32 + 256 * (48 + n)

abbrev pub digits_word : ℕ → ℕ
digits_word n = 32 + 256 * (48 + n / 10) + 65536 * (48 + n % 10)

pub digit_text : (n : ℕ) → n < 10 → 32 ∷ (48 + n) ∷ [] ≡ spaced n
digit_text n few = sym (ap (λ l. 32 ∷ l) (decimal_digit n few))

pub digits_text : (n : ℕ) → 10 ≤ n → n < 100
    → 32 ∷ (48 + n / 10) ∷ (48 + n % 10) ∷ [] ≡ spaced n
digits_text n many few = sym (ap (λ l. 32 ∷ l) (two n many few))

pub two_bytes : (n x : ℕ) → n < 10 → x ≡ digit_word n → x % 256 ∷ x / 256 % 256 ∷ [] ≡ spaced n
two_bytes n x few is =
    let a : x % 256 ≡ 32 = omega arith in
    let b : x / 256 % 256 ≡ 48 + n = omega arith in
    ap₂ (λ a b. a ∷ b ∷ []) a b ∙ digit_text n few

pub three_bytes : (n x : ℕ) → 10 ≤ n → n < 100 → x ≡ digits_word n
    → x % 256 ∷ x / 256 % 256 ∷ x / 65536 % 256 ∷ [] ≡ spaced n
three_bytes n x many few is =
    let a : x % 256 ≡ 32 = omega arith in
    let b : x / 256 % 256 ≡ 48 + n / 10 = omega arith in
    let c : x / 65536 % 256 ≡ 48 + n % 10 = omega arith in
    ap₂ (λ a l. a ∷ l) a (ap₂ (λ b c. b ∷ c ∷ []) b c) ∙ digits_text n many few

-- ---- two numbers in a word

cons : {a b : ℕ} {l m : List ℕ} → a ≡ b → l ≡ m → a ∷ l ≡ b ∷ m
cons first rest = ap₂ (λ a l. a ∷ l) first rest

pub four_bytes : (d n x : ℕ) → d < 10 → n < 10 → x ≡ digit_word d + 65536 * digit_word n
    → x % 256 ∷ x / 256 % 256 ∷ x / 65536 % 256 ∷ x / 16777216 % 256 ∷ []
    ≡ spaced d ++ spaced n
four_bytes d n x first second is =
    let a : x % 256 ≡ 32 = omega arith in
    let b : x / 256 % 256 ≡ 48 + d = omega arith in
    let c : x / 65536 % 256 ≡ 32 = omega arith in
    let e : x / 16777216 % 256 ≡ 48 + n = omega arith in
    cons a (cons b (cons c (cons e refl)))
    ∙ ap₂ (λ k l. k ++ l) (digit_text d first) (digit_text n second)

pub five_bytes : (d n x : ℕ) → d < 10 → 10 ≤ n → n < 100
    → x ≡ digit_word d + 65536 * digits_word n
    → x % 256 ∷ x / 256 % 256 ∷ x / 65536 % 256 ∷ x / 16777216 % 256 ∷ x / 4294967296 % 256 ∷ []
    ≡ spaced d ++ spaced n
five_bytes d n x first many second is =
    let a : x % 256 ≡ 32 = omega arith in
    let b : x / 256 % 256 ≡ 48 + d = omega arith in
    let c : x / 65536 % 256 ≡ 32 = omega arith in
    let e : x / 16777216 % 256 ≡ 48 + n / 10 = omega arith in
    let f : x / 4294967296 % 256 ≡ 48 + n % 10 = omega arith in
    cons a (cons b (cons c (cons e (cons f refl))))
    ∙ ap₂ (λ k l. k ++ l) (digit_text d first) (digits_text n many second)

-- ---- a number, two digits and a line feed

-- the word of two digits with a line feed behind them
abbrev pub ends_word : ℕ → ℕ → ℕ
ends_word s c = digit_word s + 65536 * digit_word c + 42949672960

pub seven_bytes : (n s c x : ℕ) → n < 10 → s < 10 → c < 10
    → x ≡ digit_word n + 65536 * ends_word s c
    → x % 256 ∷ x / 256 % 256 ∷ x / 65536 % 256 ∷ x / 16777216 % 256 ∷ x / 4294967296 % 256
    ∷ x / 1099511627776 % 256 ∷ x / 281474976710656 % 256 ∷ []
    ≡ spaced n ++ spaced s ++ spaced c ++ codes "\n"
seven_bytes n s c x number first second is =
    let a : x % 256 ≡ 32 = omega arith in
    let b : x / 256 % 256 ≡ 48 + n = omega arith in
    let d : x / 65536 % 256 ≡ 32 = omega arith in
    let e : x / 16777216 % 256 ≡ 48 + s = omega arith in
    let f : x / 4294967296 % 256 ≡ 32 = omega arith in
    let g : x / 1099511627776 % 256 ≡ 48 + c = omega arith in
    let h : x / 281474976710656 % 256 ≡ 10 = omega arith in
    cons a (cons b (cons d (cons e (cons f (cons g (cons h refl))))))
    ∙ (λ i. digit_text n number i ++ digit_text s first i ++ digit_text c second i ++ codes "\n")

pub eight_bytes : (n s c x : ℕ) → 10 ≤ n → n < 100 → s < 10 → c < 10
    → x ≡ digits_word n + 16777216 * ends_word s c
    → x % 256 ∷ x / 256 % 256 ∷ x / 65536 % 256 ∷ x / 16777216 % 256 ∷ x / 4294967296 % 256
    ∷ x / 1099511627776 % 256 ∷ x / 281474976710656 % 256 ∷ x / 72057594037927936 % 256 ∷ []
    ≡ spaced n ++ spaced s ++ spaced c ++ codes "\n"
eight_bytes n s c x many number first second is =
    let a : x % 256 ≡ 32 = omega arith in
    let b : x / 256 % 256 ≡ 48 + n / 10 = omega arith in
    let d : x / 65536 % 256 ≡ 48 + n % 10 = omega arith in
    let e : x / 16777216 % 256 ≡ 32 = omega arith in
    let f : x / 4294967296 % 256 ≡ 48 + s = omega arith in
    let g : x / 1099511627776 % 256 ≡ 32 = omega arith in
    let h : x / 281474976710656 % 256 ≡ 48 + c = omega arith in
    let i : x / 72057594037927936 % 256 ≡ 10 = omega arith in
    cons a (cons b (cons d (cons e (cons f (cons g (cons h (cons i refl)))))))
    ∙ (λ i. digits_text n many number i ++ digit_text s first i ++ digit_text c second i
    ++ codes "\n")
