use Rattle.std.proofs.Common.{◌≡◌, ℕ, ◌+◌, ◌-◌, ◌<◌, ◌≤◌, Bool, true, false, nat_lt, if◌then◌else◌, refl, ap, ◌∙◌, arith}
use Rattle.std.proofs.lemmas.Bool.{le-ltb, ltb-false}
use Rattle.rio_chars.specs.declared.chars.Char.{Char}
use Rattle.rio_chars.specs.declared.chars.Char.TheVariants.{Data, Special, Invalid}
use Rattle.library_calls.specs.Wires.{char_wire}
use Rattle.library_calls.proofs.laws.numbers_are_characters.Goals as goal

-- the character of a number, by whether it is below 256, and below 512
abbrev char_by : Bool → Bool → ℕ → Char
char_by is_data is_special number =
    if is_data then Data number else (if is_special then Special (number - 256) else Invalid)

comes_back : (is_data is_special : Bool) (number : ℕ) → (is_data ≡ false → 256 ≤ number)
    → (is_data ≡ false → is_special ≡ false → 512 ≤ number) → number < 512
    → char_wire (char_by is_data is_special number) ≡ number
comes_back true is_special number byte special below = refl
comes_back false true number byte special below =
    let least : 256 ≤ number = byte refl in
    let back : 256 + (number - 256) ≡ number = omega (arith, least) in
    back
comes_back false false number byte special below = absurd (omega (arith, special refl refl, below))

pub returns : goal.returns
returns c = record {
  below = λ number within. comes_back (nat_lt number 256) (nat_lt number 512) number
      (ltb-false number 256) (λ _. ltb-false number 512) within;
  others = λ number most.
      let no_data : nat_lt number 256 ≡ false = le-ltb number 256 (omega (arith, most)) in
      let no_special : nat_lt number 512 ≡ false = le-ltb number 512 most in
      ap (λ (b : Bool). char_by b (nat_lt number 512) number) no_data
      ∙ ap (λ (b : Bool). char_by false b number) no_special;
}
