use Rattle.std.proofs.Common.{sym, ◌∙◌}
use Rattle.trace_check.proofs.NetworkLaws.{if_ok_map}
use Rattle.trace_check.proofs.TakeLaws.{event_hit, event_judged, none_judged}
use Rattle.trace_check.proofs.ToldLaws.{event_told}
use Rattle.trace_check.proofs.checker.Checker.judge.Goals as goal

pub returns-in-Some-clause-read : goal.returns-in-Some-clause-read
returns-in-Some-clause-read c = if_ok_map c.check.result c.check.ensures.read (λ _ reads.
    event_judged c.args.self.now c.check.new.self.reader c.args.short c.in-Some.event
    (sym c.take.ensures.value ∙ c.in-Some.is) reads)

pub returns-in-Some-clause-hit : goal.returns-in-Some-clause-hit
returns-in-Some-clause-hit c = λ hit told.
    let hits = c.check.ensures.hit hit told in
    event_hit c.args.self.now c.args.short c.in-Some.event hit
    (sym c.take.ensures.value ∙ c.in-Some.is) hits.0 hits.1

pub returns-in-Some-clause-told : goal.returns-in-Some-clause-told
returns-in-Some-clause-told c = λ hit told.
    event_told c.args.self.now c.in-Some.event hit c.check.new.self.expected
    (sym c.take.ensures.value ∙ c.in-Some.is) (c.check.ensures.hit hit told).0
    (c.check.ensures.told hit told)

pub returns-in-None-clause-read : goal.returns-in-None-clause-read
returns-in-None-clause-read c =
    none_judged c.args.self.now c.args.short (sym c.take.ensures.value ∙ c.in-None.is)
