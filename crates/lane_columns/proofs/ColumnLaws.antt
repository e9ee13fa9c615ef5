-- Laws of columns and lanes.
use Rattle.std.proofs.Common.{◌≡◌, ℕ, zero, suc, ◌+◌, ◌*◌, ◌≤◌, Bool, true, false, cond, if◌then◌else◌, List, [], ◌∷◌, length, map, drop, refl, sym, ap, ◌∙◌, subst, inl, inr, arith}
use Rattle.std.proofs.lemmas.Bool.{cases_Bool, cond-true, cond-false}
use Rattle.rio_chars.specs.declared.chars.Char.{Char}
use Rattle.lane_columns.specs.Columns.{Column, chars_of_columns, striped, lane_a, lane_b, lane_c, lane_d, columns_of}
use Rattle.lane_columns.specs.Skews.{is_align, AlignsAsOne, AlignWhole, NoneAligns, columns_from_align, lane_from_align}

pub striped_joined : (columns : List Column) → striped (chars_of_columns columns) ≡ columns
striped_joined [] = refl
striped_joined (column ∷ columns) = ap (λ rest. column ∷ rest) (striped_joined columns)

pub joined_striped : (n : ℕ) (chars : List Char) → length chars ≡ 4 * n
    → chars_of_columns (striped chars) ≡ chars
joined_striped n [] e = refl
joined_striped n (a ∷ []) e = absurd (omega (arith, e))
joined_striped n (a ∷ b ∷ []) e = absurd (omega (arith, e))
joined_striped n (a ∷ b ∷ c ∷ []) e = absurd (omega (arith, e))
joined_striped zero (a ∷ b ∷ c ∷ d ∷ chars) e = absurd (omega (arith, e))
joined_striped (suc n) (a ∷ b ∷ c ∷ d ∷ chars) e =
    ap (λ rest. a ∷ b ∷ c ∷ d ∷ rest) (joined_striped n chars (omega (arith, e)))

pub columns_again : (columns : List Column)
    → columns_of (lane_a columns) (lane_b columns) (lane_c columns) (lane_d columns) ≡ columns
columns_again [] = refl
columns_again (column ∷ columns) = ap (λ rest. column ∷ rest) (columns_again columns)

-- one lane, seen by a pick that aligns as the columns do
PicksAlign : (Column → Char) → List Column → Type 0
PicksAlign pick [] = Unit {0}
PicksAlign pick (column ∷ columns) =
    (is_align (pick column) ≡ is_align column.a) × PicksAlign pick columns

lane_all : (pick : Column → Char) (columns : List Column) → PicksAlign pick columns
    → lane_from_align (map pick columns) ≡ map pick (columns_from_align columns)
unfolding PicksAlign
lane_all pick [] h = refl
lane_all pick (column ∷ columns) h =
    elim (cases_Bool (is_align column.a)) [
      | inl aligns ↦
          cond-true (is_align (pick column)) (pick column ∷ map pick columns)
          (lane_from_align (map pick columns)) (h.0 ∙ aligns)
          ∙ sym (ap (map pick)
          (cond-true (is_align column.a) (column ∷ columns) (columns_from_align columns) aligns))
      | inr other ↦
          cond-false (is_align (pick column)) (pick column ∷ map pick columns)
          (lane_from_align (map pick columns)) (h.0 ∙ other)
          ∙ lane_all pick columns h.1
          ∙ sym (ap (map pick)
          (cond-false (is_align column.a) (column ∷ columns) (columns_from_align columns) other))
    ]

lane_late : (pick : Column → Char) (columns : List Column) (late most : ℕ)
    → PicksAlign pick columns → NoneAligns most columns → late ≤ most
    → lane_from_align (drop late (map pick columns)) ≡ map pick (columns_from_align columns)
unfolding PicksAlign
lane_late pick columns zero most h none le = lane_all pick columns h
lane_late pick [] (suc late) most h none le = refl
lane_late pick (column ∷ columns) (suc late) zero h none le = absurd (omega (arith, le))
lane_late pick (column ∷ columns) (suc late) (suc most) h none le =
    lane_late pick columns late most h.1 none.1 (omega (arith, le))
    ∙ sym (ap (map pick)
    (cond-false (is_align column.a) (column ∷ columns) (columns_from_align columns) none.0))

picks_a : (columns : List Column) → AlignWhole columns → PicksAlign (λ column. column.a) columns
unfolding PicksAlign
picks_a [] h = tt
picks_a (column ∷ columns) h = (refl, picks_a columns h.1)

picks_b : (columns : List Column) → AlignWhole columns → PicksAlign (λ column. column.b) columns
unfolding PicksAlign
picks_b [] h = tt
picks_b (column ∷ columns) h = (h.0.b, picks_b columns h.1)

picks_c : (columns : List Column) → AlignWhole columns → PicksAlign (λ column. column.c) columns
unfolding PicksAlign
picks_c [] h = tt
picks_c (column ∷ columns) h = (h.0.c, picks_c columns h.1)

picks_d : (columns : List Column) → AlignWhole columns → PicksAlign (λ column. column.d) columns
unfolding PicksAlign
picks_d [] h = tt
picks_d (column ∷ columns) h = (h.0.d, picks_d columns h.1)

same_columns : (p q r s x y z w : List Char) → p ≡ x → q ≡ y → r ≡ z → s ≡ w
    → columns_of p q r s ≡ columns_of x y z w
same_columns p q r s x y z w e f g h =
    ap (λ t. columns_of t q r s) e ∙ ap (λ t. columns_of x t r s) f ∙ ap (λ t. columns_of x y t s) g
    ∙ ap (λ t. columns_of x y z t) h

pub skew : (columns : List Column) (most a b c d : ℕ) → AlignWhole columns
    → NoneAligns most columns → a ≤ most → b ≤ most → c ≤ most → d ≤ most
    → columns_of (lane_from_align (drop a (lane_a columns)))
    (lane_from_align (drop b (lane_b columns)))
    (lane_from_align (drop c (lane_c columns)))
    (lane_from_align (drop d (lane_d columns)))
    ≡ columns_from_align columns
skew columns most a b c d whole none la lb lc ld =
    same_columns _ _ _ _ _ _ _ _
    (lane_late (λ column. column.a) columns a most (picks_a columns whole) none la)
    (lane_late (λ column. column.b) columns b most (picks_b columns whole) none lb)
    (lane_late (λ column. column.c) columns c most (picks_c columns whole) none lc)
    (lane_late (λ column. column.d) columns d most (picks_d columns whole) none ld)
    ∙ columns_again (columns_from_align columns)
