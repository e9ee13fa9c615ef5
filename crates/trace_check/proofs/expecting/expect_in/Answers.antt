use Rattle.std.proofs.Common.{◌+◌, sym, ap, ◌∙◌, Some, subst}
use Rattle.trace_check.specs.Expecting.{IsExplained}
use Rattle.trace_check.proofs.Exclusive.{exclusive}
use Rattle.trace_check.proofs.Once.{unlawful_once}
use Rattle.trace_check.proofs.expecting.expect_in.Goals as goal

pub returns-in-Lawful-clause-some : goal.returns-in-Lawful-clause-some
returns-in-Lawful-clause-some c = λ reason stops explained.
    absurd (exclusive c.requires.ready.orderly (rw c.in-Lawful.is at c.in_ok-read_lines.ensures)
    stops.2)

pub returns-in-Unlawful-clause-some : goal.returns-in-Unlawful-clause-some
returns-in-Unlawful-clause-some c = λ reason stops explained.
    let stop = rw c.in-Unlawful.is at c.in_ok-read_lines.ensures in
    let same = unlawful_once c.requires.ready.orderly stops.2 stop.stops.2 in
    stop.some
    (ap Some (stops.1 ∙ ap (λ n. c.args.first + n) same.0 ∙ sym stop.stops.1))
    (subst IsExplained same.1 explained)
