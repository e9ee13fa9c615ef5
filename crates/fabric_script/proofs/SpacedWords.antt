-- Words that are told behind others, and numbers in hexadecimal digits.
use Rattle.std.proofs.Common.{◌≡◌, ℕ, ◌/◌, ◌%◌, List, [], ◌∷◌, ◌++◌, refl, subst, arith}
use Rattle.std.specs.List.{join_with_byte}
use Rattle.rio_chars.specs.HexText.{hex_of}
use Rattle.rio_chars.specs.Written.{Outgoing, Writes}
use Rattle.rio_chars.proofs.WrittenLaws.{Writes-then}
use Rattle.fabric_script.specs.Texts.{digits_text}
use Rattle.fabric_script.specs.LineTexts.{after_words}
use Rattle.fabric_script.proofs.Joins.{after_words-append, word_and_words}

module _ {a b c : Outgoing} where
  -- words behind words
  pub Writes-words : (first rest : List (List ℕ))
      → Writes a b (after_words [] first)
      → Writes b c (after_words [] rest)
      → Writes a c (after_words [] (first ++ rest))
  Writes-words first rest once more =
      subst (Writes a c) (after_words-append first rest) (Writes-then _ _ once more)

  -- a keyword, and words behind it
  pub Writes-joined : (word : List ℕ) (words : List (List ℕ)) → Writes a b word
      → Writes b c (after_words [] words)
      → Writes a c (join_with_byte 32 (word ∷ words))
  Writes-joined word words once more =
      subst (Writes a c) (word_and_words word words) (Writes-then _ _ once more)

-- the digits of a number are those of its bytes
pub eight_digits : (n : ℕ)
    → hex_of (n / 0x1000000 % 0x100 ∷ n / 0x10000 % 0x100 ∷ n / 0x100 % 0x100 ∷ n % 0x100 ∷ [])
    ≡ digits_text 8 n
eight_digits n =
    let a : n / 0x1000000 % 0x100 / 16 ≡ n / 16 / 16 / 16 / 16 / 16 / 16 / 16 % 16 = omega arith in
    let b : n / 0x1000000 % 0x100 % 16 ≡ n / 16 / 16 / 16 / 16 / 16 / 16 % 16 = omega arith in
    let c : n / 0x10000 % 0x100 / 16 ≡ n / 16 / 16 / 16 / 16 / 16 % 16 = omega arith in
    let d : n / 0x10000 % 0x100 % 16 ≡ n / 16 / 16 / 16 / 16 % 16 = omega arith in
    let e : n / 0x100 % 0x100 / 16 ≡ n / 16 / 16 / 16 % 16 = omega arith in
    let f : n / 0x100 % 0x100 % 16 ≡ n / 16 / 16 % 16 = omega arith in
    let g : n % 0x100 / 16 ≡ n / 16 % 16 = omega arith in
    let h : n % 0x100 % 16 ≡ n % 16 = omega arith in
    rw (a, b, c, d, e, f, g, h) refl

pub six_digits : (n : ℕ)
    → hex_of (n / 0x10000 % 0x100 ∷ n / 0x100 % 0x100 ∷ n % 0x100 ∷ []) ≡ digits_text 6 n
six_digits n =
    let a : n / 0x10000 % 0x100 / 16 ≡ n / 16 / 16 / 16 / 16 / 16 % 16 = omega arith in
    let b : n / 0x10000 % 0x100 % 16 ≡ n / 16 / 16 / 16 / 16 % 16 = omega arith in
    let c : n / 0x100 % 0x100 / 16 ≡ n / 16 / 16 / 16 % 16 = omega arith in
    let d : n / 0x100 % 0x100 % 16 ≡ n / 16 / 16 % 16 = omega arith in
    let e : n % 0x100 / 16 ≡ n / 16 % 16 = omega arith in
    let f : n % 0x100 % 16 ≡ n % 16 = omega arith in
    rw (a, b, c, d, e, f) refl
