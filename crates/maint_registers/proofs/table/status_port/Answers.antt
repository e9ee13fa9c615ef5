use Rattle.std.proofs.Common.{◌≡◌, ◌-◌, ◌/◌, ◌≤◌, ◌∙◌, sym, arith}
use Rattle.maint_registers.proofs.StatusLaws.{status_port-none, status_port-found}
use Rattle.maint_registers.proofs.table.status_port.Goals as goal
use Rattle.maint_registers.proofs.table.status_port.Goals.{else-past-eq0-via-then-past-eq0+else-port-from, else-past-eq0-via-else-past-eq0}

pub returns-in_err-past-clause-port : goal.returns-in_err-past-clause-port
returns-in_err-past-clause-port c =
    let low = c.in_err-past.ensures in
    c.from_residual.ensures
    ∙ sym (status_port-none c.args.ports c.args.offset (λ n below e. low (omega arith)))

pub returns-then-port-from-clause-port : goal.returns-then-port-from-clause-port
returns-then-port-from-clause-port c =
    let past : (344 ≤ c.args.offset) × (c.in_ok-past.past ≡ c.args.offset - 344) =
    c.in_ok-past.ensures in
    sym (status_port-found c.args.ports c.args.offset (c.in_ok-past.past / 32) (omega arith)
    (omega arith))

pub returns-else-past-eq0-clause-port : goal.returns-else-past-eq0-clause-port
returns-else-past-eq0-clause-port c =
    let past : (344 ≤ c.args.offset) × (c.in_ok-past.past ≡ c.args.offset - 344) =
    c.in_ok-past.ensures in
    sym (status_port-none c.args.ports c.args.offset (λ n below e.
    elim c.else-past-eq0.branch [
      | else-past-eq0-via-then-past-eq0+else-port-from w ↦ omega arith
      | else-past-eq0-via-else-past-eq0 w ↦ omega arith
    ]))
