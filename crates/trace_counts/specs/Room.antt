-- Which sums have room in 64 bits.
use Rattle.std.specs.Prelude.{ℕ, ◌<◌, List, [], ◌∷◌}
use Rattle.std.specs.List.{AllByRecursion}
use Rattle.trace_counts.specs.declared.sums.Sums.{Sums}
use Rattle.trace_counts.specs.declared.sums.LineCounts.{LineCounts}
use Rattle.trace_counts.specs.Sums.{PortCounts}

-- a sum that 64 bits have room for
abbrev pub HasRoom : ℕ → Type 0
HasRoom n = n < 18446744073709551616

-- all of these
abbrev pub EachHasRoom : List ℕ → Type 0
EachHasRoom ns = AllByRecursion HasRoom ns

-- the sums of the lines that name a port
abbrev pub line_sums : LineCounts → List ℕ
line_sums c = c.takes ∷ c.moves_in ∷ c.moves_out ∷ c.holds ∷ c.frees ∷ c.drops ∷ c.answers
    ∷ c.leaves ∷ c.fires ∷ []

-- all sums of a port
pub record SumsHaveRoom (c : Sums) : Type 0 where
  pub characters : HasRoom c.characters
  pub packets : HasRoom c.packets
  pub bad : HasRoom c.bad
  pub senders : EachHasRoom c.senders
  pub receivers : EachHasRoom c.receivers
  pub causes : EachHasRoom c.causes
  pub used : HasRoom c.used
  pub most : HasRoom c.most
  pub lines : EachHasRoom (line_sums c.lines)

-- all sums of all ports
abbrev pub PortsHaveRoom : List PortCounts → Type 0
PortsHaveRoom all = AllByRecursion (λ c. SumsHaveRoom c.sums) all
