-- The script that a number stands for: two switches and four endpoints, which send 2,000 packets
-- over links that lose characters.
use Rattle.std.specs.Prelude.{ℕ, ◌+◌, ◌*◌, ◌/◌, ◌%◌, zero, suc, ◌==◌, List, [], ◌∷◌, ◌++◌, map, codes, if◌then◌else◌}
use Rattle.fabric_script.specs.declared.lines.Line.{Line}
use Rattle.fabric_script.specs.declared.lines.Line.TheVariants.{Endpoint, Switch, Link, Route, Send, Pump, Erase, Collect, Run}
use Rattle.fabric_script.specs.declared.lines.Numbered.{Numbered}
use Rattle.fabric_script.specs.Ports.{port_at}

-- four endpoints, and the switches S and T
abbrev pub soak_names : List (List ℕ)
soak_names = codes "E0" ∷ codes "E1" ∷ codes "E2" ∷ codes "E3" ∷ codes "S" ∷ codes "T" ∷ []

-- E0 and E1 are linked to S, E2 and E3 to T, and S to T; each switch knows the way to each
-- endpoint
abbrev pub soak_set_up : List Line
soak_set_up =
    Endpoint 0 0 ∷ Endpoint 1 1 ∷ Endpoint 2 2 ∷ Endpoint 3 3 ∷ Switch 4 4 ∷ Switch 5 4
    ∷ Link (port_at 0 0) (port_at 4 0) ∷ Link (port_at 1 0) (port_at 4 1)
    ∷ Link (port_at 4 2) (port_at 5 2) ∷ Link (port_at 2 0) (port_at 5 0)
    ∷ Link (port_at 3 0) (port_at 5 1)
    ∷ Route 4 0 0 ∷ Route 4 1 1 ∷ Route 4 2 2 ∷ Route 4 3 2
    ∷ Route 5 2 0 ∷ Route 5 3 1 ∷ Route 5 0 2 ∷ Route 5 1 2 ∷ []

-- the linear congruential generator: each number from the one before
abbrev pub next_number : ℕ → ℕ
next_number x = (1103515245 * x + 12345) % 2147483648

-- so many numbers behind this one
unfoldable pub numbers_behind : ℕ → ℕ → List ℕ
numbers_behind zero x = []
numbers_behind (suc count) x = next_number x ∷ numbers_behind count (next_number x)

-- a number's upper half, of which the steps are made: it has 15 bits
abbrev pub value_of_number : ℕ → ℕ
value_of_number x = x / 65536

-- an endpoint, by the value's lowest two bits, sends the value to another, by the next two, at the
-- priority of the two behind them, and its port sends; then the first character is lost, or is not
unfoldable pub soak_step_lines : ℕ → List Line
soak_step_lines v =
    Send (v % 4) (v / 16 % 4) 15 (v / 4 % 4) (v / 256 ∷ v % 256 ∷ [])
    ∷ Pump (port_at (v % 4) 0) 1
    ∷ (if (v / 64 % 3) == 0 then Erase (port_at (v % 4) 0) 0 1 ∷ [] else [])

unfoldable pub times : ℕ → Line → List Line
times zero line = []
times (suc count) line = line ∷ times count line

-- a round, and each endpoint collects so often
unfoldable pub round_lines : ℕ → List Line
round_lines count = Run 1
    ∷ (times count (Collect 0)
    ++ (times count (Collect 1) ++ (times count (Collect 2) ++ times count (Collect 3))))

-- behind each tenth step a round
unfoldable pub round_behind : ℕ → List Line
round_behind number = if (number % 10) == 0 then round_lines 4 else []

-- a step for each value, the first having this number, and what stands behind it
unfoldable pub steps_from : ℕ → List ℕ → List Line
steps_from number [] = []
steps_from number (value ∷ values) =
    soak_step_lines value ++ (round_behind number ++ steps_from (number + 1) values)

-- so many last rounds
unfoldable pub last_rounds : ℕ → List Line
last_rounds zero = []
last_rounds (suc count) = round_lines 8 ++ last_rounds count

unfoldable pub soak_values : ℕ → List ℕ
soak_values seed = map value_of_number (numbers_behind 2000 (seed % 2147483648))

-- 2,000 steps, and 16 rounds in which what is left may arrive
unfoldable pub soak_events : ℕ → List Line
soak_events seed = steps_from 1 (soak_values seed) ++ last_rounds 16

-- lines with their numbers, the first having this one
unfoldable pub numbered_from : ℕ → List Line → List Numbered
numbered_from number [] = []
numbered_from number (line ∷ lines) =
    record { number = number; line = line } ∷ numbered_from (suc number) lines

unfoldable pub soak_lines : ℕ → List Numbered
soak_lines seed = numbered_from 1 (soak_set_up ++ soak_events seed)
