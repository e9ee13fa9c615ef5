use Rattle.std.proofs.Common.{◌≡◌, ◌<◌, ◌≤◌, length, get_or, rules, arith, ◌∙◌}
use Rattle.io_rounds.proofs.BeginLaws.{kinds_pushed, kinds_all}
use Rattle.io_rounds.proofs.course.switches_of.Goals as goal

pub loop-numbered-preserved : goal.loop-numbered-preserved
loop-numbered-preserved c =
    let lines = c.args.lines.now in
    let within : c.loop-numbered.numbered-index < length lines = omega arith in
    let here : c.numbered-item.result
    ≡ get_or lines c.loop-numbered.numbered-index c.numbered-item.result = search rules in
    kinds_pushed lines c.loop-numbered.numbered-index c.numbered-item.result _ _ within here
    c.loop-numbered.invariant c.in_ok-push_kind.ensures

pub returns : goal.returns
returns c =
    let lines = c.args.lines.now in
    let whole : length lines ≤ c.loop-numbered.numbered-index = omega arith in
    c.loop-numbered.invariant ∙ kinds_all lines c.loop-numbered.numbered-index whole
