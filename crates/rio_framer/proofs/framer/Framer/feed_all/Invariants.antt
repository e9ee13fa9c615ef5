use Rattle.std.proofs.Common.{◌≡◌, ◌++◌, drop}
use Rattle.link_model.specs.Places.{run, place_after}
use Rattle.rio_framer.proofs.framer.Framer.feed_all.Given as goal

abbrev pub invariant-loop-place : goal.invariant-loop-place
invariant-loop-place l = record {
  events : l.found.items ++ run l.framer.place l.place (drop l.place l.chars)
      ≡ run l.fn.self.place 0 l.chars;
  stands : place_after l.framer.place (drop l.place l.chars) ≡ place_after l.fn.self.place l.chars;
}
