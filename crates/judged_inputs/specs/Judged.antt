-- Each input of a check is lawful, is unlawful at a line, or is refused.
use Rattle.std.specs.Prelude.{ℕ, List, ◌⊎◌}
use Rattle.script_input.specs.Inputs.{IsRefusedInput}
use Rattle.trace_check.specs.Outcomes.{HasLawful, HasUnlawful}

-- a lawful trace of some steps, a first line that a reason hits, or set-up lines that are refused
abbrev pub EndsSomehow : List ℕ → Type 0
EndsSomehow bytes = ((steps : ℕ) × HasLawful bytes steps)
    ⊎ (((line : ℕ) × (reason : ℕ) × HasUnlawful bytes line reason)
    ⊎ ((line : ℕ) × (reason : ℕ) × IsRefusedInput bytes line reason))
