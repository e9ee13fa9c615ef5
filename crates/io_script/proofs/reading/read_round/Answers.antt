use Rattle.std.proofs.Common.{[], inr, refl, sym, subst}
use Rattle.io_script.specs.declared.lines.IoLine.TheVariants.{Round}
use Rattle.io_script.specs.IoTaking.{NoMoreIo, TakesAllIo}
use Rattle.io_script.proofs.reading.read_round.Goals as goal

pub returns-in-None : goal.returns-in-None
returns-in-None c = λ known.
    let taken = subst (λ words. TakesAllIo known [] [] words c.args.hit c.args.hit)
    (sym c.in-None.ensures) NoMoreIo in
    inr (Round, c.args.hit, refl, taken, c.end.ensures)
