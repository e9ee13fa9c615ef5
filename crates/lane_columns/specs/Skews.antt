-- Lanes that come at different times.
use Rattle.std.specs.Prelude.{◌≡◌, ℕ, zero, suc, ◌==◌, Bool, true, false, if◌then◌else◌, List, [], ◌∷◌}
use Rattle.rio_chars.specs.declared.chars.Char.{Char}
use Rattle.rio_chars.specs.declared.chars.Char.TheVariants.{Data, Special, Invalid}
use Rattle.lane_columns.specs.Columns.{Column}

-- the align character, K27.7
abbrev pub is_align : Char → Bool
is_align (Data byte) = false
is_align (Special byte) = byte == 0xfb
is_align Invalid = false

-- an align character is sent on all lanes at once
pub record AlignsAsOne (column : Column) : Type 0 where
  pub b : is_align column.b ≡ is_align column.a
  pub c : is_align column.c ≡ is_align column.a
  pub d : is_align column.d ≡ is_align column.a

abbrev pub AlignWhole : List Column → Type 0
AlignWhole [] = Unit {0}
AlignWhole (column ∷ columns) = AlignsAsOne column × AlignWhole columns

-- none of the first so many columns is one of align characters
abbrev pub NoneAligns : ℕ → List Column → Type 0
NoneAligns zero columns = Unit {0}
NoneAligns (suc n) [] = Unit {0}
NoneAligns (suc n) (column ∷ columns) = (is_align column.a ≡ false) × NoneAligns n columns

-- from the first align character on
abbrev pub lane_from_align : List Char → List Char
lane_from_align [] = []
lane_from_align (c ∷ chars) = if is_align c then c ∷ chars else lane_from_align chars

-- the same of columns
abbrev pub columns_from_align : List Column → List Column
columns_from_align [] = []
columns_from_align (column ∷ columns) =
    if is_align column.a then column ∷ columns else columns_from_align columns
