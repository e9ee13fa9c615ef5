use Rattle.std.proofs.Common.{take}
use Rattle.fabric_script.specs.Forms.{fields_of}
use Rattle.fabric_script.specs.Words.{TakesAll}
use Rattle.fabric_script.proofs.line_words.take_words.Given as goal

abbrev pub invariant-loop-field : goal.invariant-loop-field
invariant-loop-field l =
    TakesAll l.known (take l.field-index (fields_of l.fn.form)) l.values.items l.initial.words l.words
