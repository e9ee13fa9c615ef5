use Rattle.trace_counts.proofs.SumsLaws.{counts-more}
use Rattle.trace_counts.proofs.tally.Tallies.count.Goals as goal

pub returns-clause-sums : goal.returns-clause-sums
returns-clause-sums c = λ nodes lines before.
    counts-more nodes lines c.args.line.now c.args.self.now c.add.new.self c.in_ok-add.ensures.line
    before
