use Rattle.fabric_script.specs.Hits.{NumberIsBad, DigitsAreBad, CharacterIsBad}
use Rattle.fabric_script.proofs.words.read_plain.Goals as goal

pub returns-in-Err : goal.returns-in-Err
returns-in-Err c = let bad = c.in-Err.ensures in rw c.in-Number.is (NumberIsBad bad.1)

pub returns-in-None : goal.returns-in-None
returns-in-None c = rw (c.in-Digits.is, ← c.from.ensures) (DigitsAreBad c.in-None.ensures)

pub returns-in-None-read_char : goal.returns-in-None-read_char
returns-in-None-read_char c = rw c.in-Character.is (CharacterIsBad c.in-None-read_char.ensures.none)
