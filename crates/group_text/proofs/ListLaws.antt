-- The first of a list, and those after it.
use Rattle.std.proofs.Common.{◌≡◌, ℕ, ◌-◌, ◌≤◌, ◌<◌, List, [], ◌∷◌, length, get_or, take, drop, refl, ap, sym, ◌∙◌, subst, arith}
use Rattle.rio_chars.specs.Written.{Outgoing, Writes}
use Rattle.code_groups.specs.Streams.{HaveTenBits}
use Rattle.rio_chars.proofs.WrittenLaws.{Writes-then}
use Rattle.group_text.specs.GroupTexts.{group_text_of, spaced_groups}

all_taken : (xs : List ℕ) → take (length xs) xs ≡ xs
all_taken [] = refl
all_taken (x ∷ xs) = ap (λ (l : List ℕ). x ∷ l) (all_taken xs)

pub front_of : (left : List ℕ) (d : ℕ) → 1 ≤ length left
    → left ≡ get_or left 0 d ∷ take (length left - 1) (drop 1 left)
front_of [] d some = absurd (omega arith)
front_of (c ∷ left) d some =
    let same : length (c ∷ left) - 1 ≡ length left = omega arith in
    ap (λ (l : List ℕ). c ∷ l) (sym (ap (λ (n : ℕ). take n left) same ∙ all_taken left))

pub tens_left : (left : List ℕ) (d : ℕ) → 1 ≤ length left → HaveTenBits left
    → (get_or left 0 d < 1024) × HaveTenBits (take (length left - 1) (drop 1 left))
tens_left left d some h =
    let parts : HaveTenBits (get_or left 0 d ∷ take (length left - 1) (drop 1 left)) =
    subst HaveTenBits (front_of left d some) h in
    (parts.0, parts.1)

-- the text of the first group, and of those after it
pub rest_told : {old mid new : Outgoing} (left : List ℕ) (d : ℕ) → 1 ≤ length left
    → Writes old mid (32 ∷ group_text_of (get_or left 0 d))
    → Writes mid new (spaced_groups (take (length left - 1) (drop 1 left)))
    → Writes old new (spaced_groups left)
rest_told {old} {mid} {new} left d some first rest =
    subst (λ (gs : List ℕ). Writes old new (spaced_groups gs)) (sym (front_of left d some))
    (Writes-then (32 ∷ group_text_of (get_or left 0 d))
    (spaced_groups (take (length left - 1) (drop 1 left))) first rest)
