-- What a control symbol says, before its CRC.
use Rattle.std.specs.Prelude.{ℕ, ◌<◌}

-- the five fields of a control symbol, as numbers
pub record Fields : Type 0 where
  pub s0 : ℕ
  pub p0 : ℕ
  pub p1 : ℕ
  pub s1 : ℕ
  pub cmd : ℕ

-- each field fits its place in the symbol: three bits, five, five, three and three
pub record InRange (symbol : Fields) : Type 0 where
  pub s0 : symbol.s0 < 8
  pub p0 : symbol.p0 < 32
  pub p1 : symbol.p1 < 32
  pub s1 : symbol.s1 < 8
  pub cmd : symbol.cmd < 8
