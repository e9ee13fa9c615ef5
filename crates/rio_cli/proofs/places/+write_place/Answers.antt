use Rattle.std.proofs.Common.{◌≤◌, ◌<◌, arith, subst, sym, ◌∙◌}
use Rattle.std.proofs.lemmas.Fmt.{decimal_digit}
use Rattle.rio_chars.specs.Written.{Writes}
use Rattle.rio_chars.proofs.WrittenLaws.{Writes-then}
use Rattle.rio_cli.proofs.NumberLaws.{two, hundreds, ten_thousands}
use Rattle.rio_cli.proofs.places.+write_place.Goals as goal

pub returns-then-place-lt10 : goal.returns-then-place-lt10
returns-then-place-lt10 g t c =
    let few : c.args.place < 10 = omega arith in
    subst (Writes c.args.outbox.now c.write_short.new.self)
    (sym (decimal_digit c.args.place few)) c.write_short.ensures

pub returns-then-place-lt100 : goal.returns-then-place-lt100
returns-then-place-lt100 g t c =
    let many : 10 ≤ c.args.place = omega arith in
    let few : c.args.place < 100 = omega arith in
    subst (Writes c.args.outbox.now c.write_short-then-place-lt100.new.self)
    (c.two_digits.ensures ∙ sym (two c.args.place many few))
    c.write_short-then-place-lt100.ensures

pub returns-then-place-lt10000 : goal.returns-then-place-lt10000
returns-then-place-lt10000 g t c =
    let many : 100 ≤ c.args.place = omega arith in
    let last = subst (Writes c.write_place.new.outbox c.write_short-then-place-lt10000.new.self)
    c.two_digits-then-place-lt10000.ensures c.write_short-then-place-lt10000.ensures in
    subst (Writes c.args.outbox.now c.write_short-then-place-lt10000.new.self)
    (hundreds c.args.place many (omega arith)) (Writes-then _ _ c.write_place.ensures last)

pub returns : goal.returns
returns g t c =
    let many : 10000 ≤ c.args.place = omega arith in
    let last = subst (Writes c.write_place-2.new.outbox c.write_short-2.new.self)
    c.four_digits.ensures c.write_short-2.ensures in
    subst (Writes c.args.outbox.now c.write_short-2.new.self)
    (ten_thousands c.args.place many (omega arith)) (Writes-then _ _ c.write_place-2.ensures last)
