use Rattle.std.proofs.Common.{◌≡◌, length, map}
use Rattle.std.specs.List.{flat_map}
use Rattle.rio_cli.specs.Decoding.{words_in_line, AreTexts}
use Rattle.rio_cli.proofs.words.read_lines.Given as goal

abbrev pub invariant-loop-text : goal.invariant-loop-text
invariant-loop-text l = record {
  counted : l.line ≡ length l.yielded;
  spelled : AreTexts (flat_map words_in_line (map (λ t. t.now) l.yielded)) l.chars.items;
}
