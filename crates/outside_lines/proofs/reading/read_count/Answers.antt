use Rattle.std.proofs.Common.{◌<◌, ◌^◌, arith, rules, refl, sym, ◌∙◌}
use Rattle.std.proofs.lemmas.Fmt.{decimal_injective}
use Rattle.outside_lines.proofs.ReadingLaws.{no_count}
use Rattle.outside_lines.proofs.reading.read_count.Goals as goal

pub returns-in_default-read_number : goal.returns-in_default-read_number
returns-in_default-read_number c =
    no_count _ c.in-Some.word.now c.in-Some.ensures (
      refl,
      λ count least most is.
          let found = c.in-Some-read_number.count in
          let fits : found < 2 ^ 32 = search rules in
          let above = c.if-count-le-MOST_TURNS.false in
          let same = decimal_injective found count (omega (arith, fits)) (omega (arith, most))
          (sym c.in-Some-read_number.ensures ∙ is) in
          absurd (omega (arith, same, most, above)),
    )

pub returns-in_default-read_number-2 : goal.returns-in_default-read_number-2
returns-in_default-read_number-2 c =
    no_count _ c.in-Some.word.now c.in-Some.ensures (
      refl,
      λ count least most is.
          let found = c.in-Some-read_number.count in
          let below = c.if-count-ge1.false in
          let same = decimal_injective found count (omega (arith, below)) (omega (arith, most))
          (sym c.in-Some-read_number.ensures ∙ is) in
          absurd (omega (arith, same, least, below)),
    )
