use Rattle.std.proofs.Common.{sym, ◌∙◌, refl}
use Rattle.fabric_script.specs.Hits.{NumberIsBad}
use Rattle.fabric_script.specs.declared.values.Value.TheVariants.{Counted}
use Rattle.io_script.specs.IoWords.{IsMisspelledIo, IsWrong}
use Rattle.io_script.proofs.words.read_read_size.Goals as goal

pub returns-in_default : goal.returns-in_default
returns-in_default c = λ known.
    let read = c.in-Some.ensures in
    IsWrong (Counted c.in-Some.size) (read.0, read.1) read.2
    (sym c.is_size.ensures ∙ c.if-is_size.false) refl

pub returns-in_default-2 : goal.returns-in_default-2
returns-in_default-2 c = λ known. IsMisspelledIo (NumberIsBad c.in_default.ensures)
