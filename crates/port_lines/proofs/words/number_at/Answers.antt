use Rattle.std.proofs.Common.{◌<◌, ◌^◌, refl, rules, arith}
use Rattle.port_lines.proofs.FaultLaws.{number_outside}
use Rattle.port_lines.proofs.words.number_at.Goals as goal

pub returns-in_default : goal.returns-in_default
returns-in_default c =
    let read = c.in-Some.number in
    let small : read < 2 ^ 32 = search rules in
    let fits : c.args.most < 2 ^ 32 = search rules in (
      refl,
      number_outside c.args.word.now c.args.least c.args.most read c.in-Some.ensures small fits
          (λ low. c.if-number-most.false),
    )

pub returns-in_default-2 : goal.returns-in_default-2
returns-in_default-2 c =
    let read = c.in-Some.number in
    let small : read < 2 ^ 32 = search rules in
    let fits : c.args.most < 2 ^ 32 = search rules in
    let below = c.if-least-number.false in (
      refl,
      number_outside c.args.word.now c.args.least c.args.most read c.in-Some.ensures small fits
          (λ low. omega (arith, below, low)),
    )
