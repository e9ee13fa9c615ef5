use Rattle.std.proofs.Common.{ap, ap₂, arith, take, ◌∙◌, ◌+◌, ◌*◌, ◌/◌, ◌%◌, ◌<◌}
use Rattle.rio_cli.proofs.DigitTables.{pair, pairs_bytes}
use Rattle.rio_cli.proofs.places.four_digits.Goals as goal

pub returns : goal.returns
returns c =
    let n = c.args.number in
    let front : n / 100 < 100 = omega arith in
    let back : n % 100 < 100 = omega arith in
    ap (take 4) c.to_le_bytes.ensures
    ∙ rw (c.from-back.ensures, c.from-2.ensures, c.from-front.ensures, c.from.ensures)
    (pairs_bytes (n / 100) (n % 100) _ front back
    (ap₂ (λ a b. a + 65536 * b) (pair (n / 100) _ front) (pair (n % 100) _ back)))
