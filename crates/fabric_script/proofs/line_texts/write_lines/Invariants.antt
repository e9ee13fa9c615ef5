use Rattle.std.proofs.Common.{take}
use Rattle.rio_chars.specs.Written.{Writes}
use Rattle.fabric_script.specs.LineTexts.{script_text}
use Rattle.fabric_script.proofs.line_texts.write_lines.Given as goal

abbrev pub invariant-loop-line : goal.invariant-loop-line
invariant-loop-line g l =
    Writes l.initial.outbox l.outbox
    (script_text l.script.names.items (take l.line-index l.script.lines.items))
