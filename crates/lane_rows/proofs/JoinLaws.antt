-- Columns of what four lanes heard, one after another.
use Rattle.std.proofs.Common.{◌≡◌, ℕ, ◌-◌, ◌≤◌, ◌<◌, true, if◌then◌else◌, Bool, List, [], ◌∷◌, ◌++◌, length, get_or, take, drop, refl, sym, ap, ◌∙◌, subst, arith, append_assoc, append-nil}
use Rattle.rio_chars.specs.declared.chars.Char.{Char}
use Rattle.rio_chars.proofs.SpacedLaws.{front_one}
use Rattle.lane_columns.specs.Columns.{chars_of_columns, columns_of}
use Rattle.lane_columns.specs.Skews.{is_align, lane_from_align}

-- from a lane's first align character on
pub align_first : (left : List Char) (d : Char) → 1 ≤ length left
    → is_align (get_or left 0 d) ≡ true → lane_from_align left ≡ left
align_first left d some e =
    let rest : List Char = take (length left - 1) (drop 1 left) in
    let parts = front_one left d some in
    ap lane_from_align parts
    ∙ ap (λ (b : Bool). if b then get_or left 0 d ∷ rest else lane_from_align rest) e
    ∙ sym parts

-- a lane with nothing makes no column
pub none_of_b : (a b c d : List Char) → length b < 1 → columns_of a b c d ≡ []
none_of_b [] b c d h = refl
none_of_b (x ∷ a) [] c d h = refl
none_of_b (x ∷ a) (y ∷ b) c d h = absurd (omega arith)

pub none_of_c : (a b c d : List Char) → length c < 1 → columns_of a b c d ≡ []
none_of_c [] b c d h = refl
none_of_c (x ∷ a) [] c d h = refl
none_of_c (x ∷ a) (y ∷ b) [] d h = refl
none_of_c (x ∷ a) (y ∷ b) (z ∷ c) d h = absurd (omega arith)

pub none_of_d : (a b c d : List Char) → length d < 1 → columns_of a b c d ≡ []
none_of_d [] b c d h = refl
none_of_d (x ∷ a) [] c d h = refl
none_of_d (x ∷ a) (y ∷ b) [] d h = refl
none_of_d (x ∷ a) (y ∷ b) (z ∷ c) [] h = refl
none_of_d (x ∷ a) (y ∷ b) (z ∷ c) (w ∷ d) h = absurd (omega arith)
