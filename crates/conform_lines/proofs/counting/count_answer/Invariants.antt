use Rattle.std.proofs.Common.{map}
use Rattle.conform_lines.specs.Counting.{LinesComeTo}
use Rattle.conform_lines.proofs.counting.count_answer.Given as goal

abbrev pub invariant-loop-line : goal.invariant-loop-line
invariant-loop-line l =
    LinesComeTo l.initial.reader.place (map (λ line. line.now) l.yielded) record {
      sent = l.counts.sent.items;
      other = l.counts.other.items;
      place = l.reader.place;
    }
