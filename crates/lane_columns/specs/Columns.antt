-- Columns of four characters, one of each lane, that are sent at one time.
use Rattle.std.specs.Prelude.{List, [], ◌∷◌, map}
use Rattle.rio_chars.specs.declared.chars.Char.{Char}

pub record Column : Type 0 where
  pub a : Char
  pub b : Char
  pub c : Char
  pub d : Char

-- the characters of columns, in the order in which they stand in a packet
abbrev pub chars_of_columns : List Column → List Char
chars_of_columns [] = []
chars_of_columns (column ∷ columns) =
    column.a ∷ column.b ∷ column.c ∷ column.d ∷ chars_of_columns columns

-- four characters a column; fewer than four make none
abbrev pub striped : List Char → List Column
striped (a ∷ b ∷ c ∷ d ∷ chars) = record { a = a; b = b; c = c; d = d } ∷ striped chars
striped (a ∷ b ∷ c ∷ []) = []
striped (a ∷ b ∷ []) = []
striped (a ∷ []) = []
striped [] = []

-- each lane by itself
abbrev pub lane_a : List Column → List Char
lane_a columns = map (λ column. column.a) columns

abbrev pub lane_b : List Column → List Char
lane_b columns = map (λ column. column.b) columns

abbrev pub lane_c : List Column → List Char
lane_c columns = map (λ column. column.c) columns

abbrev pub lane_d : List Column → List Char
lane_d columns = map (λ column. column.d) columns

-- the columns of four lanes, as far as the shortest goes
abbrev pub columns_of : List Char → List Char → List Char → List Char → List Column
columns_of [] bs cs ds = []
columns_of (a ∷ rest) [] cs ds = []
columns_of (a ∷ rest) (b ∷ bs) [] ds = []
columns_of (a ∷ rest) (b ∷ bs) (c ∷ cs) [] = []
columns_of (a ∷ rest) (b ∷ bs) (c ∷ cs) (d ∷ ds) =
    record { a = a; b = b; c = c; d = d } ∷ columns_of rest bs cs ds
