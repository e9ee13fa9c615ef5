-- What the tables have.
use Rattle.std.proofs.Common.{◌≡◌, ℕ, ◌+◌, ◌*◌, ◌/◌, ◌%◌, ◌<◌, ◌≤◌, ◌==◌, true, false, if◌then◌else◌, get_or, refl, ap, ◌∙◌, inl, inr, arith}
use Rattle.std.proofs.lemmas.Bool.{cases_Bool, cond-true, cond-false}
use Rattle.crc_division.proofs.Entries.{entries, entry}
use Rattle.rio_chars.specs.declared.chars.Char.{Char}
use Rattle.rio_chars.specs.declared.chars.Char.TheVariants.{Data, Special}
use Rattle.code_groups.specs.declared.disparity.Disparity.{Disparity}
use Rattle.code_groups.specs.declared.disparity.Disparity.TheVariants.{Negative, Positive}
use Rattle.code_groups.specs.declared.tables.TheConstants.{ENCODED, DECODED}
use Rattle.code_groups.specs.Disparities.{after_group, level}
use Rattle.code_groups.specs.Numbers.{char_at, sent_entry}
use Rattle.code_groups.proofs.Characters.{char_at-data, char_at-special}
use Rattle.code_groups.specs.Groups.{has_group, group_of, disparity_after}
use Rattle.code_groups.proofs.CommaLaws.{group-range}
use Rattle.code_groups.proofs.Plain.{plain, plain-le}
use Rattle.code_groups.proofs.StreamLaws.{same_level}

abbrev disparity_at : ℕ → Disparity
disparity_at row = if row == 0 then Negative else Positive

abbrev encoded_rule : ℕ → ℕ
encoded_rule i = sent_entry (disparity_at (i / 512)) (char_at (i % 512))

abbrev heard_entry : Disparity → ℕ → ℕ
heard_entry before group = plain before group + 1024 * level (after_group before group)

abbrev decoded_rule : ℕ → ℕ
decoded_rule i = heard_entry (disparity_at (i / 1024)) (i % 1024)

encoded_is : ENCODED ≡ entries 1024 0 encoded_rule
encoded_is = refl

decoded_is : DECODED ≡ entries 2048 0 decoded_rule
unfolding plain
decoded_is = refl

at_level : (d : Disparity) → disparity_at (level d) ≡ d
at_level Negative = refl
at_level Positive = refl

pub level-lt : (d : Disparity) → level d < 2
level-lt Negative = omega arith
level-lt Positive = omega arith

pub encoded_at : (d : Disparity) (n place : ℕ) → n < 512 → place ≡ 512 * level d + n
    → get_or ENCODED place 0 ≡ sent_entry d (char_at n)
encoded_at d n place low e =
    let few = level-lt d in
    let row : place / 512 ≡ level d = omega (arith, few) in
    let column : place % 512 ≡ n = omega (arith, few) in
    entry 1024 ENCODED encoded_rule place encoded_is (omega (arith, few))
    ∙ ap (λ r. sent_entry (disparity_at r) (char_at (place % 512))) row
    ∙ ap (λ k. sent_entry (disparity_at (level d)) (char_at k)) column
    ∙ ap (λ x. sent_entry x (char_at n)) (at_level d)

pub encoded_data : (d : Disparity) (b place : ℕ) → b < 256 → place ≡ 512 * level d + b
    → get_or ENCODED place 0 ≡ sent_entry d (Data b)
encoded_data d b place low e =
    encoded_at d b place (omega arith) e ∙ ap (sent_entry d) (char_at-data b low)

pub encoded_special : (d : Disparity) (b place : ℕ) → b < 256 → place ≡ 512 * level d + 256 + b
    → get_or ENCODED place 0 ≡ sent_entry d (Special b)
encoded_special d b place low e =
    encoded_at d (256 + b) place (omega arith) (omega arith)
    ∙ ap (sent_entry d) (char_at-special b low)

pub decoded_at : (d : Disparity) (group place : ℕ) → group < 1024
    → place ≡ 1024 * level d + group
    → get_or DECODED place 0 ≡ plain d group + 1024 * level (after_group d group)
decoded_at d group place low e =
    let few = level-lt d in
    let row : place / 1024 ≡ level d = omega (arith, few) in
    let column : place % 1024 ≡ group = omega (arith, few) in
    entry 2048 DECODED decoded_rule place decoded_is (omega (arith, few))
    ∙ ap (λ r. heard_entry (disparity_at r) (place % 1024)) row
    ∙ ap (λ k. heard_entry (disparity_at (level d)) k) column
    ∙ ap (λ x. heard_entry x group) (at_level d)

-- what is read of an entry
pub decoded_parts : (d : Disparity) (group place : ℕ) → group < 1024
    → place ≡ 1024 * level d + group
    → (get_or DECODED place 0 % 1024 ≡ plain d group)
    × (get_or DECODED place 0 / 1024 ≡ level (after_group d group))
decoded_parts d group place low e =
    let is = decoded_at d group place low e in
    let few : plain d group ≤ 512 = plain-le d group in
    (omega (arith, is, few), omega (arith, is, few))

pub level-same : (a b : Disparity) (n : ℕ) → level a ≡ n → n ≡ level b → a ≡ b
level-same a b n e f = same_level a b (e ∙ f)

pub sent_none : (d : Disparity) (c : Char) → has_group c ≡ false → sent_entry d c ≡ 0
sent_none d c h = cond-false (has_group c) (group_of d c + 1024 * level (disparity_after d c)) 0 h

pub sent_some : (d : Disparity) (c : Char) → has_group c ≡ true
    → sent_entry d c ≡ group_of d c + 1024 * level (disparity_after d c)
sent_some d c h = cond-true (has_group c) (group_of d c + 1024 * level (disparity_after d c)) 0 h

pub sent_zero : (d : Disparity) (c : Char) → sent_entry d c ≡ 0 → has_group c ≡ false
sent_zero d c e =
    elim (cases_Bool (has_group c)) [
      | inl has ↦
          let range = group-range d c has in
          let is = sent_some d c has in
          absurd (omega (arith, range.0, is, e))
      | inr none ↦ none
    ]

pub sent_has : (d : Disparity) (c : Char) → (sent_entry d c ≡ 0 → ⊥) → has_group c ≡ true
sent_has d c ne =
    elim (cases_Bool (has_group c)) [
      | inl has ↦ has
      | inr none ↦ absurd (ne (sent_none d c none))
    ]

pub sent_parts : (d : Disparity) (c : Char) → has_group c ≡ true
    → (sent_entry d c % 1024 ≡ group_of d c) × (sent_entry d c / 1024 ≡ level (disparity_after d c))
sent_parts d c h =
    let range = group-range d c h in
    let is = sent_some d c h in
    (omega (arith, range.1, is), omega (arith, range.1, is))
