use Rattle.std.proofs.Common.{◌≡◌, ◌%◌, ◌==◌, false, refl, rules, tests}
use Rattle.fabric_script.specs.Hits.{NumberIsBad}
use Rattle.fabric_script.specs.declared.values.Value.TheVariants.{Counted}
use Rattle.io_script.specs.IoWords.{IsMisspelledIo, IsWrong}
use Rattle.io_script.proofs.words.read_memory_size.Goals as goal

pub returns-in_default : goal.returns-in_default
returns-in_default c = λ known.
    let read = c.in-Some.ensures in
    let wrong : (c.in-Some.bytes % 8 == 0) ≡ false = search (rules, tests) in
    IsWrong (Counted c.in-Some.bytes) (read.0, read.1) read.2 wrong refl

pub returns-in_default-2 : goal.returns-in_default-2
returns-in_default-2 c = λ known. IsMisspelledIo (NumberIsBad c.in_default.ensures)
