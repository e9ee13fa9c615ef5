use Rattle.std.proofs.Common.{drop, length, arith, rules}
use Rattle.std.proofs.lemmas.List.Prefix.{front_from_reads}
use Rattle.rio_chars.specs.declared.chars.Char.TheVariants.{Invalid}
use Rattle.trace_check.proofs.queue.starts_with.Goals as goal

pub returns-clause-stands : goal.returns-clause-stands
returns-clause-stands c = λ is.
    let front = c.args.front.now in (
      drop (length front) c.args.chars.now,
      front_from_reads Invalid c.args.chars.now front (search rules)
          (λ k less. c.loop-i.invariant k (omega (arith, less))),
    )
