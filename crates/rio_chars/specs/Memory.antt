-- Sources and sinks in memory, as callers see them.
use Rattle.std.specs.Prelude.{◌-◌, ◌+◌, ◌^◌, ℕ, List, min}

-- one more, up to the greatest count
abbrev pub counted : ℕ → ℕ
counted n = min (n + 1) (2 ^ 64 - 1)

-- the bytes that are left, the most that a read gives, the numbers of the calls that fail, and how
-- many calls came and failed
pub record Giving : Type 0 where
  pub left : List ℕ
  pub step : ℕ
  pub fails : List ℕ
  pub calls : ℕ
  pub faults : ℕ

-- the bytes that were written, how many more have room, the most that a write takes, the numbers of
-- the calls that fail, and how many calls came and failed
pub record Taking : Type 0 where
  pub written : List ℕ
  pub room : ℕ
  pub step : ℕ
  pub fails : List ℕ
  pub calls : ℕ
  pub faults : ℕ
