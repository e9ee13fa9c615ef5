use Rattle.std.proofs.Common.{◌≡◌, ◌≤◌, length, map}
use Rattle.fabric_script.specs.Known.{nothing_in, IsOrderly}
use Rattle.fabric_script.specs.Scripts.{SpellsFrom}
use Rattle.fabric_script.proofs.scripts.read_lines.Given as goal

abbrev pub invariant-loop-text : goal.invariant-loop-text
invariant-loop-text l = record {
  counted : l.number ≡ length l.yielded;
  spelled : SpellsFrom 1 (nothing_in l.fn.mode) (map (λ text. text.now) l.yielded) l.lines.items
      l.known;
  mode : l.known.mode ≡ l.fn.mode;
  orderly : IsOrderly l.known;
  links : length l.known.links ≤ l.number;
}
