use Rattle.std.proofs.Common.{◌≡◌, ℕ, ◌<◌, get_or}
use Rattle.rio_chars.specs.declared.chars.Char.TheVariants.{Invalid}
use Rattle.trace_check.proofs.queue.starts_with.Given as goal

abbrev pub invariant-loop-i : goal.invariant-loop-i
invariant-loop-i l = (k : ℕ) → k < l.i
    → get_or l.chars k Invalid ≡ get_or l.front k Invalid
