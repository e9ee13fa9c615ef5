-- Characters that have groups, as numbers below 512, and tests of all of them.
use Rattle.std.proofs.Common.{◌≡◌, ℕ, zero, suc, ◌+◌, ◌-◌, ◌<◌, Bool, true, false, not, ◌&&◌, ◌||◌, refl, sym, ap, subst, inl, inr, arith, true≢false}
use Rattle.std.proofs.lemmas.Bool.{ltb-true, lt-ltb, le-ltb, and_parts, cases_lt}
use Rattle.rio_chars.specs.declared.chars.Char.{Char}
use Rattle.rio_chars.specs.declared.chars.Char.TheVariants.{Data, Special, Invalid}
use Rattle.code_groups.specs.Groups.{has_group}
use Rattle.code_groups.specs.Numbers.{char_at}

abbrev pub number_of : Char → ℕ
number_of (Data byte) = byte
number_of (Special byte) = 256 + byte
number_of Invalid = 512

-- a byte that has groups is one
special_byte : (b : ℕ) → has_group (Special b) ≡ true → b < 256
special_byte b h = ltb-true b 256 (and_parts _ _ h).0

pub number-lt : (c : Char) → has_group c ≡ true → number_of c < 512
number-lt (Data b) h = let low : b < 256 = ltb-true b 256 h in omega arith
number-lt (Special b) h = let low : b < 256 = special_byte b h in omega arith
number-lt Invalid h = absurd (true≢false (sym h))

pub char_at-data : (b : ℕ) → b < 256 → char_at b ≡ Data b
char_at-data b low = rw (lt-ltb b 256 low) refl

pub char_at-special : (b : ℕ) → b < 256 → char_at (256 + b) ≡ Special b
char_at-special b low =
    let same : 256 + b - 256 ≡ b = omega arith in
    rw (le-ltb (256 + b) 256 (omega arith), lt-ltb (256 + b) 512 (omega arith)) (ap Special same)

pub char_at-number : (c : Char) → has_group c ≡ true → char_at (number_of c) ≡ c
char_at-number (Data b) h = char_at-data b (ltb-true b 256 h)
char_at-number (Special b) h = char_at-special b (special_byte b h)
char_at-number Invalid h = absurd (true≢false (sym h))

-- a test at each number below one
abbrev pub every : ℕ → (ℕ → Bool) → Bool
every zero test = true
every (suc n) test = test n && every n test

pub every_at : (n : ℕ) (test : ℕ → Bool) (i : ℕ) → every n test ≡ true → i < n → test i ≡ true
every_at zero test i all h = absurd (omega arith)
every_at (suc n) test i all h =
    let parts = and_parts (test n) (every n test) all in
    elim (cases_lt i n) [
      | inl less ↦ every_at n test i parts.1 less
      | inr more ↦ let same : n ≡ i = omega arith in subst (λ k. test k ≡ true) same parts.0
    ]

pub then_second : (a b : Bool) → a ≡ true → (not a || b) ≡ true → b ≡ true
then_second true b h e = e
then_second false b h e = absurd (true≢false (sym h))

-- a test of each character that has groups
abbrev pub passes : (Char → Bool) → ℕ → Bool
passes test n = not (has_group (char_at n)) || test (char_at n)

pub character_test : (test : Char → Bool) → every 512 (passes test) ≡ true → (c : Char)
    → has_group c ≡ true → test c ≡ true
character_test test all c h =
    let there : passes test (number_of c) ≡ true =
    every_at 512 (passes test) (number_of c) all (number-lt c h) in
    let here : (not (has_group c) || test c) ≡ true =
    subst (λ x. (not (has_group x) || test x) ≡ true) (char_at-number c h) there in
    then_second (has_group c) (test c) h here
