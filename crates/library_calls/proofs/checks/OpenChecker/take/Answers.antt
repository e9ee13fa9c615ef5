use Rattle.std.proofs.Common.{Err, true, refl, sym, ap, ◌∙◌}
use Rattle.trace_check.specs.declared.checking.CheckEnd.{CheckEnd}
use Rattle.library_calls.proofs.CheckLaws.{takes_ended}
use Rattle.library_calls.proofs.checks.OpenChecker.take.Goals as goal

pub take-requires : goal.take-requires
take-requires c = record { few = c.is_spent.ensures.few c.if-is_spent.false }

pub returns-in-Err : goal.returns-in-Err
returns-in-Err c =
    takes_ended c.ended.new.hit c.ended.result c.args.self.now
    (record { checker = c.take.new.self; spent = true })
    (sym c.is_spent.ensures.value ∙ c.if-is_spent.false) refl c.in-Err.end c.args.line.now
    c.ended.ensures
    (λ found is. c.in-Err.ensures.unlawful found (ap (λ (e : CheckEnd). Err e) is))
