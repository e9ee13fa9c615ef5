use Rattle.std.proofs.Common.{subst}
use Rattle.std.specs.Fmt.{decimal}
use Rattle.rio_chars.specs.Written.{Writes}
use Rattle.rio_chars.proofs.WrittenLaws.{Writes-then}
use Rattle.rio_cli.proofs.LineLaws.{fields-regrouped}
use Rattle.rio_cli.proofs.lines.write_fields.Goals as goal

pub returns : goal.returns
returns g c =
    let s = c.symbol.inside in
    let front = rw c.digit_and_number-count.ensures.text at c.write_short-2.ensures in
    let back = rw c.number_and_digits-count.ensures.text at c.write_short-3.ensures in
    rw (← c.symbol.view_is)
    (subst (Writes c.args.outbox.now c.write_short-3.new.self)
    (fields-regrouped (decimal s.s0) (decimal s.p0) (decimal s.p1) (decimal s.s1) (decimal s.cmd))
    (Writes-then _ _ (Writes-then _ _ c.write_short.ensures front) back))
