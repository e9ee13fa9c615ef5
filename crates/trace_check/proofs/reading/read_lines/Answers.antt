use Rattle.std.proofs.Common.{sym, ◌∙◌, arith, rules, tests}
use Rattle.trace_check.proofs.ExpectLaws.{stop_ahead}
use Rattle.trace_check.proofs.StopLaws.{all_ahead, begin_ahead, none_ahead, on_ahead}
use Rattle.trace_check.proofs.reading.read_lines.Goals as goal

pub loop-ahead-init : goal.loop-ahead-init
loop-ahead-init c =
    rw (c.in_ok-reader.ensures.ended, c.in_ok-reader.ensures.steps)
    (begin_ahead c.next_line-ahead.ensures.texts c.next_line-ahead.ensures.less
    c.in_ok-reader.ensures.reached)

pub loop-ahead-preserved : goal.loop-ahead-preserved
loop-ahead-preserved c =
    let next = c.next_line-ahead-in-Some.ensures in
    on_ahead c.requires.ready.orderly (rw c.in-Some.is at c.loop-ahead.invariant) next.texts
    next.less c.is_short.ensures (rw c.in_default-hit.is at c.in_ok-hit.ensures.read)

pub returns-in-Some-hit : goal.returns-in-Some-hit
returns-in-Some-hit c =
    let told = c.in_ok-expected.ensures in
    rw c.hit_at.ensures
    (stop_ahead c.next_line-ahead-in-Some.result c.requires.ready.orderly
    (rw c.in-Some.is at c.loop-ahead.invariant) c.next_line-ahead-in-Some.ensures.texts
    c.is_short.ensures (rw c.in-Some-hit.is at c.in_ok-hit.ensures.read) (search (rules, tests))
    told.told told.some)

pub returns-then-has_ended : goal.returns-then-has_ended
returns-then-has_ended c =
    let ended = sym c.has_ended.ensures ∙ c.if-has_ended.true in
    rw c.steps.ensures
    (all_ahead c.requires.ready.orderly (rw (c.in_default.is, ended) at c.loop-ahead.invariant))

pub returns : goal.returns
returns c =
    let ended = sym c.has_ended.ensures ∙ c.if-has_ended.false in
    rw c.hit_at-else-has_ended.ensures (record {
      stops = none_ahead (rw (c.in_default.is, ended) at c.loop-ahead.invariant);
      told = tt;
      some = λ asked explained. absurd (omega (arith, explained));
    })
