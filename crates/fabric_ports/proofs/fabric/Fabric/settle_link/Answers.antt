use Rattle.std.proofs.Common.{sym, ◌∙◌}
use Rattle.fabric_ports.proofs.RanLaws.{err_is, failed_behind}
use Rattle.fabric_ports.proofs.fabric.Fabric.settle_link.Goals as goal

pub returns-in_err-act : goal.returns-in_err-act
returns-in_err-act g c =
    rw (err_is c.from_residual.result c.in_err-act.field-0.0 c.from_residual.ensures.1)
    c.in_err-act.ensures

pub returns-then-failed : goal.returns-then-failed
returns-then-failed g c = λ from lines stands. failed_behind
    (sym c.failed.ensures ∙ c.if-failed.true) (c.in_ok-act.ensures from lines stands)
