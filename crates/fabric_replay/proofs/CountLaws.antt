-- The counts of a writer are the numbers of the lines, as long as they have room.
use Rattle.std.proofs.Common.{◌≡◌, ◌<◌, ℕ, ◌+◌, ◌^◌, List, [], ◌∷◌, arith}
use Rattle.fabric_model.specs.Laws.Stock.{takes_by, leaves_by, drops_by, steps_in}
use Rattle.fabric_model.specs.Steps.{Take, Leave, Move, Drop, Answer, Step, Linked, AtNode, ByDevice}
use Rattle.trace_lines.specs.Counts.{with_step_counted, with_lines_counted}
use Rattle.trace_lines.specs.Lines.{TraceLine, Begun, Stepped, Signed, Lacked, Ended, Undetected, steps_of}
use Rattle.trace_lines.specs.declared.counts.PacketCounts.{PacketCounts}

-- a step adds so much to a count, if there is room
abbrev CountsSteps : (PacketCounts → ℕ) → (Step → ℕ) → Type 0
CountsSteps count each = (counts : PacketCounts) (step : Step)
    → count counts + each step < 2 ^ 32
    → count (with_step_counted counts step) ≡ count counts + each step

all_counted : (count : PacketCounts → ℕ) (each : Step → ℕ) → CountsSteps count each
    → (counts : PacketCounts) (lines : List TraceLine)
    → count counts + steps_in each (steps_of lines) < 2 ^ 32
    → count (with_lines_counted counts lines) ≡ count counts + steps_in each (steps_of lines)
all_counted count each one counts [] room = omega arith
all_counted count each one counts (Begun line ∷ lines) room =
    all_counted count each one counts lines room
all_counted count each one counts (Stepped step ∷ lines) room =
    let next = one counts step (omega arith) in
    let rest = all_counted count each one (with_step_counted counts step) lines
    (omega (arith, next, room)) in
    omega (arith, next, rest)
all_counted count each one counts (Signed sign ∷ lines) room =
    all_counted count each one counts lines room
all_counted count each one counts (Lacked lack ∷ lines) room =
    all_counted count each one counts lines room
all_counted count each one counts (Ended ∷ lines) room =
    all_counted count each one counts lines room
all_counted count each one counts (Undetected number q e ∷ lines) room =
    all_counted count each one counts lines room

taken : CountsSteps (λ counts. counts.taken) takes_by
taken counts (Linked step) room = omega arith
taken counts (AtNode (Take n packet)) room = omega arith
taken counts (AtNode (Leave n packet)) room = omega arith
taken counts (ByDevice (Move p q packet)) room = omega arith
taken counts (ByDevice (Drop p packet)) room = omega arith
taken counts (ByDevice (Answer p packet response)) room = omega arith

left : CountsSteps (λ counts. counts.left) leaves_by
left counts (Linked step) room = omega arith
left counts (AtNode (Take n packet)) room = omega arith
left counts (AtNode (Leave n packet)) room = omega arith
left counts (ByDevice (Move p q packet)) room = omega arith
left counts (ByDevice (Drop p packet)) room = omega arith
left counts (ByDevice (Answer p packet response)) room = omega arith

dropped : CountsSteps (λ counts. counts.dropped) drops_by
dropped counts (Linked step) room = omega arith
dropped counts (AtNode (Take n packet)) room = omega arith
dropped counts (AtNode (Leave n packet)) room = omega arith
dropped counts (ByDevice (Move p q packet)) room = omega arith
dropped counts (ByDevice (Drop p packet)) room = omega arith
dropped counts (ByDevice (Answer p packet response)) room = omega arith

module _ (counts : PacketCounts) (lines : List TraceLine) where
  pub taken_counted : counts.taken + steps_in takes_by (steps_of lines) < 2 ^ 32
      → (with_lines_counted counts lines).taken ≡ counts.taken + steps_in takes_by (steps_of lines)
  taken_counted = all_counted (λ c. c.taken) takes_by taken counts lines

  pub left_counted : counts.left + steps_in leaves_by (steps_of lines) < 2 ^ 32
      → (with_lines_counted counts lines).left ≡ counts.left + steps_in leaves_by (steps_of lines)
  left_counted = all_counted (λ c. c.left) leaves_by left counts lines

  pub dropped_counted : counts.dropped + steps_in drops_by (steps_of lines) < 2 ^ 32
      → (with_lines_counted counts lines).dropped
      ≡ counts.dropped + steps_in drops_by (steps_of lines)
  dropped_counted = all_counted (λ c. c.dropped) drops_by dropped counts lines
