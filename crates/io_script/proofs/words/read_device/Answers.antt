use Rattle.fabric_script.specs.Hits.{NumberIsBad}
use Rattle.io_script.specs.IoWords.{IsMisspelledIo}
use Rattle.io_script.proofs.words.read_device.Goals as goal

pub returns-in-None : goal.returns-in-None
returns-in-None c = λ known. IsMisspelledIo (NumberIsBad c.in-None.ensures)
