-- What a wrong bit makes of a character: no delimiter, and other data within one sub-block.
use Rattle.std.proofs.Common.{◌≡◌, ℕ, ◌/◌, ◌%◌, ◌<◌, Bool, true, false, not, ◌&&◌, ◌||◌, ◌==◌, nat_lt, refl, sym, ap, ◌∙◌, subst, inl, inr, true≢false}
use Rattle.std.proofs.lemmas.Bool.{and_parts, or_cases, or_left, or_right, eqb-true, lt-ltb, ltb-true}
use Rattle.rio_chars.specs.declared.chars.Char.{Char}
use Rattle.rio_chars.specs.declared.chars.Char.TheVariants.{Data, Special, Invalid}
use Rattle.code_groups.specs.declared.disparity.Disparity.{Disparity}
use Rattle.code_groups.specs.declared.disparity.Disparity.TheVariants.{Negative, Positive}
use Rattle.code_groups.specs.Disparities.{other_disparity}
use Rattle.code_groups.specs.Groups.{has_group, is_special, group_of, IsHeardAs}
use Rattle.code_groups.specs.Numbers.{char_at}
use Rattle.code_groups.specs.Changes.{with_wrong_bit, is_delimiter, is_used, DifferInOneBlock}
use Rattle.code_groups.proofs.Characters.{number_of, every, every_at, passes, character_test, then_second}
use Rattle.code_groups.proofs.Plain.{plain, back_at, heard_is}
use Rattle.code_groups.proofs.StreamLaws.{is_data}

-- delimiters
implied : Bool → Bool → Bool
implied a b = not a || b

safe_at : Char → ℕ → Bool
safe_at c code =
    implied (is_used c) (not (is_delimiter (char_at code)))
    && implied (is_delimiter c) (not (is_used (char_at code)))

safe_test : Disparity → Char → Bool
safe_test before c =
    every 10 (λ bit. safe_at c (plain before (with_wrong_bit bit (group_of before c))))

all_safe : (before : Disparity) → every 512 (passes (safe_test before)) ≡ true
unfolding safe_test safe_at implied plain
all_safe Negative = refl
all_safe Positive = refl

implies : (a b : Bool) → a ≡ true → implied a (not b) ≡ true → b ≡ false
unfolding implied
implies true false h e = refl
implies true true h e = absurd (true≢false (sym e))
implies false b h e = absurd (true≢false (sym h))

safe : (before : Disparity) (c : Char) (bit : ℕ) → has_group c ≡ true → bit < 10
    → safe_at c (plain before (with_wrong_bit bit (group_of before c))) ≡ true
unfolding safe_test
safe before c bit has low =
    every_at 10 (λ k. safe_at c (plain before (with_wrong_bit k (group_of before c)))) bit
    (character_test (safe_test before) (all_safe before) c has) low

special_as : (b n : ℕ) → (b == n) ≡ true → is_special n ≡ true → is_special b ≡ true
special_as b n e h = subst (λ k. is_special k ≡ true) (sym (eqb-true b n e)) h

pub used_has : (c : Char) → is_used c ≡ true → has_group c ≡ true
used_has (Data b) h = h
used_has (Special b) h =
    elim (or_cases (b == 0x1c) ((b == 0x7c) || ((b == 0xbc) || ((b == 0xfb) || (b == 0xfd)))) h) [
      | inl e ↦ special_as b 0x1c e refl
      | inr more ↦
          elim (or_cases (b == 0x7c) ((b == 0xbc) || ((b == 0xfb) || (b == 0xfd))) more) [
            | inl e ↦ special_as b 0x7c e refl
            | inr idle ↦ elim (or_cases (b == 0xbc) ((b == 0xfb) || (b == 0xfd)) idle) [
              | inl e ↦ special_as b 0xbc e refl
              | inr last ↦ elim (or_cases (b == 0xfb) (b == 0xfd) last) [
                | inl e ↦ special_as b 0xfb e refl
                | inr e ↦ special_as b 0xfd e refl
              ]
            ]
          ]
    ]
used_has Invalid h = absurd (true≢false (sym h))

delimiter_used : (c : Char) → is_delimiter c ≡ true → is_used c ≡ true
delimiter_used (Data b) h = absurd (true≢false (sym h))
delimiter_used (Special b) h =
    elim (or_cases (b == 0x1c) (b == 0x7c) h) [
      | inl e ↦ or_left _ _ e
      | inr e ↦ or_right _ _ (or_left _ _ e)
    ]
delimiter_used Invalid h = absurd (true≢false (sym h))

pub none_made : (before : Disparity) (c h : Char) (bit : ℕ) → bit < 10 → is_used c ≡ true
    → IsHeardAs before (with_wrong_bit bit (group_of before c)) h → is_delimiter h ≡ false
unfolding safe_at
none_made before c h bit low used heard =
    let wrong : ℕ = with_wrong_bit bit (group_of before c) in
    let parts = and_parts _ _ (safe before c bit (used_has c used) low) in
    ap is_delimiter (heard_is before wrong h heard) ∙ implies _ _ used parts.0

pub none_lost : (before : Disparity) (c h : Char) (bit : ℕ) → bit < 10 → is_delimiter c ≡ true
    → IsHeardAs before (with_wrong_bit bit (group_of before c)) h → is_used h ≡ false
unfolding safe_at
none_lost before c h bit low delimits heard =
    let wrong : ℕ = with_wrong_bit bit (group_of before c) in
    let parts = and_parts _ _
    (safe before c bit (used_has c (delimiter_used c delimits)) low) in
    ap is_used (heard_is before wrong h heard) ∙ implies _ _ delimits parts.1

-- a special character is of one disparity
none_test : Disparity → Char → Bool
none_test before c =
    is_data c || (plain (other_disparity before) (group_of before c) == 512)

all_none : (before : Disparity) → every 512 (passes (none_test before)) ≡ true
unfolding none_test is_data plain
all_none Negative = refl
all_none Positive = refl

pub tells : (before : Disparity) (byte : ℕ) (h : Char) → has_group (Special byte) ≡ true
    → IsHeardAs (other_disparity before) (group_of before (Special byte)) h → h ≡ Invalid
unfolding none_test is_data
tells before byte h has heard =
    let c : Char = Special byte in
    let none : (plain (other_disparity before) (group_of before c) == 512) ≡ true =
    character_test (none_test before) (all_none before) c has in
    heard_is (other_disparity before) (group_of before c) h heard ∙ ap char_at (eqb-true _ _ none)

-- other data differs in one sub-block
block_at_bit : Disparity → Char → ℕ → Bool
block_at_bit before c code =
    not (is_data c && nat_lt code 256)
    || ((number_of c / 32 == code / 32) || (number_of c % 32 == code % 32))

block_test : Disparity → Char → Bool
block_test before c =
    every 10 (λ bit. block_at_bit before c (plain before (with_wrong_bit bit (group_of before c))))

all_blocks : (before : Disparity) → every 512 (passes (block_test before)) ≡ true
unfolding block_test block_at_bit is_data plain
all_blocks Negative = refl
all_blocks Positive = refl

differ_from : (byte code : ℕ) → code < 256
    → block_at_bit Negative (Data byte) code ≡ true → DifferInOneBlock byte code
unfolding block_at_bit is_data
differ_from byte code low h =
    let there : (not (nat_lt code 256) || ((byte / 32 == code / 32) || (byte % 32 == code % 32)))
    ≡ true = h in
    elim (or_cases (byte / 32 == code / 32) (byte % 32 == code % 32)
    (then_second (nat_lt code 256) _ (lt-ltb code 256 low) there)) [
      | inl high ↦ inl (eqb-true _ _ high)
      | inr rest ↦ inr (eqb-true _ _ rest)
    ]

pub one_block : (before : Disparity) (byte found bit : ℕ) → byte < 256 → bit < 10
    → IsHeardAs before (with_wrong_bit bit (group_of before (Data byte))) (Data found)
    → DifferInOneBlock byte found
unfolding block_test block_at_bit
one_block before byte found bit low few heard =
    let wrong : ℕ = with_wrong_bit bit (group_of before (Data byte)) in
    let has : has_group (Data byte) ≡ true = lt-ltb byte 256 low in
    let code : plain before wrong ≡ found = back_at before wrong (Data found) heard in
    let there : block_at_bit before (Data byte) (plain before wrong) ≡ true =
    every_at 10 (λ k. block_at_bit before (Data byte)
    (plain before (with_wrong_bit k (group_of before (Data byte))))) bit
    (character_test (block_test before) (all_blocks before) (Data byte) has) few in
    let small : found < 256 = ltb-true found 256 heard.0 in
    differ_from byte found small (subst (λ n. block_at_bit before (Data byte) n ≡ true) code there)
