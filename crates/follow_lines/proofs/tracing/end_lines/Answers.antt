use Rattle.std.proofs.Common.{Err, ap, sym, ◌∙◌}
use Rattle.follow_lines.proofs.TracingLaws.{stops_early, stops_lawful, stops_hit}
use Rattle.follow_lines.proofs.tracing.end_lines.Goals as goal

pub returns-in-Some : goal.returns-in-Some
returns-in-Some c =
    stops_early c.args.before c.args.checker.now c.args.end c.in-Some.end
    c.args.checker.now.expected
    (sym c.lines_end.ensures ∙ c.in-Some.is)

pub returns-in-Ok : goal.returns-in-Ok
returns-in-Ok c =
    stops_lawful c.args.before c.args.checker.now c.args.end c.in-Ok.steps c.end.new.self.expected
    (sym c.lines_end.ensures ∙ c.in_default.is) c.in-Ok.ensures.lawful

pub returns-in-Err : goal.returns-in-Err
returns-in-Err c =
    rw c.check_end.ensures (stops_hit c.args.before c.args.checker.now c.args.end c.in-Err.end
    c.end.new.self.expected
    (sym c.lines_end.ensures ∙ c.in_default.is)
    (λ refusal same. c.in-Err.ensures.never_refused refusal (ap (λ e. Err e) same))
    (λ hit same. c.in-Err.ensures.unlawful hit (ap (λ e. Err e) same))
    (λ hit same. c.in-Err.ensures.told hit (ap (λ e. Err e) same)))
