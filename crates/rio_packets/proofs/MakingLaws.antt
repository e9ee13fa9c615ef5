-- A link form made in steps is that of the body.
use Rattle.std.proofs.Common.{◌≡◌, ℕ, ◌+◌, ◌*◌, ◌/◌, ◌%◌, ◌<◌, ◌≤◌, Bool, true, false, List, [], ◌∷◌, ◌++◌, length, take, drop, refl, sym, ap, ◌∙◌, arith}
use Rattle.std.proofs.Math.Seq.{take-append-add, drop-append-add}
use Rattle.std.proofs.lemmas.List.Elements.{All-cons}
use Rattle.rio_packets.specs.LinkForm.{AreBytes, IsBody, padded}
use Rattle.rio_packets.specs.Fields.{ids_of, body_of}
use Rattle.rio_packets.specs.Making.{with_crc, with_more, made, most_rest}

-- The header and what follows, in steps.
pub made_in_steps : (head rest front back one two three : List ℕ) (n : ℕ)
    → length head + n ≡ 80 → front ≡ take n rest → back ≡ drop n rest → one ≡ head
    → two ≡ one ++ front → three ≡ with_crc two
    → padded (with_more three back) ≡ made (head ++ rest)
made_in_steps head rest front back one two three n size f b o t h =
    let first : take 80 (head ++ rest) ≡ head ++ take n rest =
    ap (λ i. take i (head ++ rest)) (sym size) ∙ take-append-add head rest n in
    let last : drop 80 (head ++ rest) ≡ drop n rest =
    ap (λ i. drop i (head ++ rest)) (sym size) ∙ drop-append-add head rest n in
    rw (h, t, o, f, b, first, last) refl

-- the header alone and what follows
pub body_of-append : (prio ftype : ℕ) (large : Bool) (dest source : ℕ) (rest : List ℕ)
    → body_of prio ftype large dest source [] ++ rest ≡ body_of prio ftype large dest source rest
body_of-append prio ftype false dest source rest = refl
body_of-append prio ftype true dest source rest = refl

AreBytes-cons : (x : ℕ) (xs : List ℕ) → x < 256 → AreBytes xs → AreBytes (x ∷ xs)
AreBytes-cons x xs h k = All-cons (λ b. b < 256) x xs h k

-- A body with a header is a body.
pub IsBody-body_of : (prio ftype : ℕ) (large : Bool) (dest source : ℕ) (rest : List ℕ)
    → prio < 4 → ftype < 16 → dest < 0x10000 → source < 0x10000
    → (large ≡ false → dest < 256) → (large ≡ false → source < 256)
    → AreBytes rest → length rest % 2 ≡ 0 → length rest ≤ most_rest large
    → IsBody (body_of prio ftype large dest source rest)
IsBody-body_of prio ftype false dest source rest p f _ _ d s range even most = record {
  even = omega arith;
  least = omega arith;
  most = omega arith;
  range = AreBytes-cons 0 ((64 * prio + ftype) ∷ dest ∷ source ∷ rest) (omega arith)
      (AreBytes-cons (64 * prio + ftype) (dest ∷ source ∷ rest) (omega arith)
      (AreBytes-cons dest (source ∷ rest) (d refl) (AreBytes-cons source rest (s refl) range)));
  origin = omega arith;
}
IsBody-body_of prio ftype true dest source rest p f d s _ _ range even most = record {
  even = omega arith;
  least = omega arith;
  most = omega arith;
  range =
      let low = AreBytes-cons (source % 0x100) rest (omega arith) range in
      let high =
      AreBytes-cons (source / 0x100) (source % 0x100 ∷ rest) (omega arith) low in
      let lows =
      AreBytes-cons (dest % 0x100) (source / 0x100 ∷ source % 0x100 ∷ rest) (omega arith) high in
      let ids =
      AreBytes-cons (dest / 0x100) (dest % 0x100 ∷ source / 0x100 ∷ source % 0x100 ∷ rest)
      (omega arith) lows in
      AreBytes-cons 0 ((64 * prio + 16 + ftype) ∷ (ids_of true dest source ++ rest)) (omega arith)
      (AreBytes-cons (64 * prio + 16 + ftype) (ids_of true dest source ++ rest) (omega arith) ids);
  origin = omega arith;
}
