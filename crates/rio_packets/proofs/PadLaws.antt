-- The pad, and bytes that end in a CRC.
use Rattle.std.proofs.Common.{◌≡◌, ℕ, ◌+◌, ◌%◌, ◌<◌, ◌≤◌, ◌≢◌, List, [], ◌∷◌, ◌++◌, length, take, get_or, refl, ap, ◌∙◌, inl, inr, arith, length-append, eq-eqb, ne_eqb, lit<}
use Rattle.std.proofs.lemmas.Bool.{cases_eq}
use Rattle.std.proofs.lemmas.List.{take-append-le, get_or_append_left}
use Rattle.std.proofs.lemmas.List.Elements.{All-append, All-cons, All-nil}
use Rattle.rio_packets.specs.Register.{fed_all, running}
use Rattle.rio_packets.specs.LinkForm.{AreBytes, padded, Passes}
use Rattle.rio_packets.proofs.Shifts.{fed_all-append}
use Rattle.rio_packets.proofs.RegisterLaws.{zero_after_two}

pub AreBytes-append : (xs ys : List ℕ) → AreBytes xs → AreBytes ys → AreBytes (xs ++ ys)
AreBytes-append xs ys h k = All-append (λ b. b < 256) xs ys h k

pub AreBytes-two : (x y : ℕ) → x < 256 → y < 256 → AreBytes (x ∷ y ∷ [])
AreBytes-two x y h k =
    All-cons (λ b. b < 256) x (y ∷ []) h (All-cons (λ b. b < 256) y [] k (All-nil (λ b. b < 256)))

-- no pad at a multiple of four
pub padded-fours : (m : List ℕ) → length m % 4 ≡ 0 → padded m ≡ m
padded-fours m e = rw (eq-eqb (length m % 4) 0 e) refl

pub padded-other : (m : List ℕ) → length m % 4 ≢ 0 → padded m ≡ m ++ 0 ∷ 0 ∷ []
padded-other m h = rw (ne_eqb (length m % 4) 0 h) refl

-- a register that is 0 stays 0 in the pad
pub running-pad : (m : List ℕ) → running m ≡ 0 → running (m ++ 0 ∷ 0 ∷ []) ≡ 0
running-pad m e =
    fed_all-append 0xffff m (0 ∷ 0 ∷ [])
    ∙ ap (λ r. fed_all r (0 ∷ 0 ∷ [])) e
    ∙ (zero_after_two 0 0 0 (lit< tt) (lit< tt) (lit< tt)).1 refl

-- Bytes with CRCs pass once they are padded.
pub Passes-padded : (m : List ℕ) → length m % 2 ≡ 0 → 6 ≤ length m → length m ≤ 276 → AreBytes m
    → get_or m 0 0 < 4
    → running m ≡ 0 → (82 ≤ length m → running (take 82 m) ≡ 0) → Passes (padded m)
Passes-padded m even least most range origin ends middle =
    elim (cases_eq (length m % 4) 0) [
      | inl fours ↦ rw (padded-fours m fours) record {
        fours = fours;
        least = omega arith;
        most = most;
        range = range;
        origin = origin;
        ends = ends;
        middle = λ h. middle (omega arith);
      }
      | inr other ↦ rw (padded-other m other)
          (let size : length (m ++ 0 ∷ 0 ∷ []) ≡ length m + 2 = length-append m (0 ∷ 0 ∷ []) in
          record {
            fours = omega arith;
            least = omega arith;
            most = omega arith;
            range = AreBytes-append m (0 ∷ 0 ∷ []) range (AreBytes-two 0 0 (lit< tt) (lit< tt));
            origin = rw (get_or_append_left m (0 ∷ 0 ∷ []) 0 0 (omega arith)) origin;
            ends = running-pad m ends;
            middle =
                λ h. ap running (take-append-le 82 m (0 ∷ 0 ∷ []) (omega arith))
                ∙ middle (omega arith);
          })
    ]
