-- The sizes of the profile, one by one.
use Rattle.std.proofs.Common.{◌≡◌, ℕ, ◌%◌, ◌<◌, ◌≤◌, ◌==◌, ◌&&◌, ◌||◌, Bool, true, false, Some, None, if◌then◌else◌, refl, subst, sym, inl, inr, arith, eqb-true, leb-true}
use Rattle.std.specs.Prelude.{nat_le}
use Rattle.std.proofs.lemmas.Bool.{and_parts, or_cases}
use Rattle.rio_packets.specs.Words.{is_status}
use Rattle.io_packets.specs.Layout.{size_named}
use Rattle.io_packets.specs.Forms.{is_size, is_stream_size}
use Rattle.io_packets.specs.Writing.{code_of, wdptr_of}

-- ---- sizes

-- what holds of the four sizes holds of each size
pub of_sizes : (P : ℕ → Type 0) (n : ℕ) → is_size n ≡ true → P 8 → P 16 → P 32 → P 64 → P n
of_sizes P n h a b c d =
    elim (or_cases (n == 8) ((n == 16) || ((n == 32) || (n == 64))) h) [
      | inl e ↦ subst P (sym (eqb-true n 8 e)) a
      | inr h ↦ elim (or_cases (n == 16) ((n == 32) || (n == 64)) h) [
        | inl e ↦ subst P (sym (eqb-true n 16 e)) b
        | inr h ↦ elim (or_cases (n == 32) (n == 64) h) [
          | inl e ↦ subst P (sym (eqb-true n 32 e)) c
          | inr e ↦ subst P (sym (eqb-true n 64 e)) d
        ]
      ]
    ]

pub size_least : (n : ℕ) → is_size n ≡ true → 8 ≤ n
size_least n h = of_sizes (λ n. 8 ≤ n) n h (omega arith) (omega arith) (omega arith) (omega arith)

pub size_most : (n : ℕ) → is_size n ≡ true → n ≤ 64
size_most n h = of_sizes (λ n. n ≤ 64) n h (omega arith) (omega arith) (omega arith) (omega arith)

-- a size that is named is one of the profile
pub named_size : (code wdptr size : ℕ) → size_named code wdptr ≡ Some size → is_size size ≡ true
named_size code wdptr size is = by (code == 11) (code == 12) (wdptr == 0) is
  where
    by : (eleven twelve zero : Bool)
        → (if eleven then Some (if zero then 8 else 16)
        else (if twelve then Some (if zero then 32 else 64) else None)) ≡ Some size
        → is_size size ≡ true
    by true twelve true e = let s : 8 ≡ size = cc in subst (λ n. is_size n ≡ true) s refl
    by true twelve false e = let s : 16 ≡ size = cc in subst (λ n. is_size n ≡ true) s refl
    by false true true e = let s : 32 ≡ size = cc in subst (λ n. is_size n ≡ true) s refl
    by false true false e = let s : 64 ≡ size = cc in subst (λ n. is_size n ≡ true) s refl
    by false false zero e = absurd (cc)

-- and a size of the profile is named by its code and wdptr
pub size_named-size : (n : ℕ) → is_size n ≡ true → size_named (code_of n) (wdptr_of n) ≡ Some n
size_named-size n h =
    of_sizes (λ n. size_named (code_of n) (wdptr_of n) ≡ Some n) n h refl refl refl refl

pub code_small : (n : ℕ) → is_size n ≡ true → code_of n < 16
code_small n h =
    of_sizes (λ n. code_of n < 16) n h (omega arith) (omega arith) (omega arith) (omega arith)

pub wdptr_small : (n : ℕ) → is_size n ≡ true → wdptr_of n < 2
wdptr_small n h =
    of_sizes (λ n. wdptr_of n < 2) n h (omega arith) (omega arith) (omega arith) (omega arith)

pub size_eights : (n : ℕ) → is_size n ≡ true → n % 8 ≡ 0
size_eights n h = of_sizes (λ n. n % 8 ≡ 0) n h refl refl refl refl

-- ---- sizes of streaming writes, and statuses

pub stream_least : (n : ℕ) → is_stream_size n ≡ true → 8 ≤ n
stream_least n h =
    leb-true 8 n (and_parts (nat_le 8 n) (nat_le n 64)
    (and_parts (n % 8 == 0) (nat_le 8 n && nat_le n 64) h).1).0

pub stream_most : (n : ℕ) → is_stream_size n ≡ true → n ≤ 64
stream_most n h =
    leb-true n 64 (and_parts (nat_le 8 n) (nat_le n 64)
    (and_parts (n % 8 == 0) (nat_le 8 n && nat_le n 64) h).1).1

pub stream_eights : (n : ℕ) → is_stream_size n ≡ true → n % 8 ≡ 0
stream_eights n h = eqb-true (n % 8) 0 (and_parts (n % 8 == 0) (nat_le 8 n && nat_le n 64) h).0

pub status_small : (status : ℕ) → is_status status ≡ true → status < 16
status_small status h =
    elim (or_cases (status == 0) (status == 7) h) [
      | inl e ↦ (let is = eqb-true status 0 e in omega (arith, is))
      | inr e ↦ (let is = eqb-true status 7 e in omega (arith, is))
    ]
