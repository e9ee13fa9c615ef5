use Rattle.std.proofs.Common.{◌++◌, ◌∷◌, [], map, subst, rules, tests}
use Rattle.std.proofs.lemmas.List.{map-append}
use Rattle.std.proofs.lemmas.Iterator.Consumers.{YieldsList-end}
use Rattle.fabric_script.proofs.PieceLaws.{pieces-road}
use Rattle.conform_lines.specs.Counting.{AnswerCounts, LinesComeTo}
use Rattle.conform_lines.proofs.CountLaws.{LinesComeTo-more, same_counts}
use Rattle.conform_lines.proofs.counting.count_answer.Goals as goal

pub loop-line-preserved : goal.loop-line-preserved
loop-line-preserved c =
    let found = c.in_ok-count_line.ensures in
    let texts = map (λ line. line.now) c.loop-line.yielded in
    let so_far : AnswerCounts = record {
      sent = c.loop-line.counts.sent.items;
      other = c.loop-line.counts.other.items;
      place = c.loop-line.reader.place;
    } in
    rw (map-append (λ line. line.now) c.loop-line.yielded (c.in-Some.line ∷ []))
    (subst (LinesComeTo c.args.reader.now.place (texts ++ c.in-Some.line.now ∷ []))
    (same_counts so_far found.0 c.count_line.new.counts.sent.items
    c.count_line.new.counts.other.items c.count_line.new.reader.place found.2 found.3 found.4)
    (LinesComeTo-more c.args.reader.now.place texts c.in-Some.line.now so_far found.0
    c.loop-line.invariant found.1))

pub returns : goal.returns
returns c =
    let all = pieces-road c.args.text.now c.loop-line.yielded _ c.loop-line.yielded_by
    (search rules) (search rules) (search rules) (λ x r q k. search (rules, tests)) in
    let end = YieldsList-end all c.loop-line.yielded _ c.loop-line.yielded_by _ _ c.in-None.is
    c.next.ensures.steps in
    rw (← end.0) c.loop-line.invariant
