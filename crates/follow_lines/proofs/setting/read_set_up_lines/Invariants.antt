use Rattle.std.proofs.Common.{◌-◌, ◌≤◌, length}
use Rattle.follow_lines.proofs.SettingLaws.{Setting}
use Rattle.follow_lines.proofs.setting.read_set_up_lines.Given as goal

abbrev pub invariant-loop-input : goal.invariant-loop-input
invariant-loop-input g l = record {
  setting : Setting l.script.items l.initial.input l.input (g.S.Source.left l.initial.source)
      (g.S.Source.left l.source) (g.S.Source.faults l.initial.source)
      (g.S.Source.faults l.source) l.lines;
  few : l.lines ≤ length l.script.items;
}

abbrev pub decreases-loop-input : goal.decreases-loop-input
decreases-loop-input g l = 8388610 - length l.script.items
