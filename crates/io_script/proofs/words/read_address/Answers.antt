use Rattle.std.proofs.Common.{◌≡◌, ◌%◌, ◌==◌, false, refl, rules, tests}
use Rattle.fabric_script.specs.Hits.{DigitsAreBad}
use Rattle.fabric_script.specs.declared.values.Value.TheVariants.{InDigits}
use Rattle.io_script.specs.IoWords.{IsMisspelledIo, IsWrong}
use Rattle.io_script.proofs.words.read_address.Goals as goal

pub returns-in-Some-2 : goal.returns-in-Some-2
returns-in-Some-2 c = λ known.
    let read = c.in-Some.ensures in
    let wrong : (c.in-Some.addr % 8 == 0) ≡ false = search (rules, tests) in
    IsWrong (InDigits 8 c.in-Some.addr) (refl, read.0) read.1 wrong refl

pub returns-in-None : goal.returns-in-None
returns-in-None c = λ known. IsMisspelledIo (DigitsAreBad c.in-None.ensures)
