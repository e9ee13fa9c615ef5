use Rattle.std.proofs.Common.{◌≡◌, ◌+◌, ◌≤◌, ℕ, length}
use Rattle.link_model.specs.Fronts.{telling_front}
use Rattle.rio_framer.specs.Framing.{framing_at}
use Rattle.rio_framer.specs.Parts.{later}
use Rattle.rio_framer.proofs.framer.Framer.read_run.Given as goal

abbrev pub invariant-loop-rest : goal.invariant-loop-rest
invariant-loop-rest l = record {
  stands : l.self ≡ framing_at l.self.place;
  within : length l.rest ≤ length l.chars;
  front : (n : ℕ) → n + length l.rest ≡ length l.chars
      → later n (telling_front l.self.place l.rest) ≡ telling_front l.fn.self.place l.chars;
}

abbrev pub decreases-loop-rest : goal.decreases-loop-rest
decreases-loop-rest l = length l.rest
