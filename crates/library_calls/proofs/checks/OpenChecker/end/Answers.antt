use Rattle.std.proofs.Common.{Err, true, refl, sym, ap, ◌∙◌}
use Rattle.trace_check.specs.declared.checking.CheckEnd.{CheckEnd}
use Rattle.library_calls.proofs.CheckLaws.{ends_ended}
use Rattle.library_calls.proofs.checks.OpenChecker.end.Goals as goal

pub end-requires : goal.end-requires
end-requires c = record { few = c.is_spent.ensures.few c.if-is_spent.false }

pub returns-in-Err : goal.returns-in-Err
returns-in-Err c =
    ends_ended c.ended.new.hit c.ended.result c.args.self.now
    (record { checker = c.end.new.self; spent = true })
    (sym c.is_spent.ensures.value ∙ c.if-is_spent.false) refl c.in-Err.end c.ended.ensures
    (λ found is. c.in-Err.ensures.unlawful found (ap (λ (e : CheckEnd). Err e) is))
