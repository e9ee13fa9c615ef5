use Rattle.std.proofs.Common.{◌≡◌, Some, None, length, sym, ap, ◌∙◌, rules}
use Rattle.std.specs.HashMap.{get}
use Rattle.trace_reactions.specs.Judging.{port_key, same_key}
use Rattle.trace_reactions.specs.PortsKept.{PortKept}
use Rattle.trace_reactions.proofs.JudgingLaws.{port_read}
use Rattle.trace_reactions.proofs.all_ports.Reactions.due.Goals as goal

pub returns-in-Some : goal.returns-in-Some
returns-in-Some c = λ kept is.
    let old = c.args.self.now in
    let port = c.in-Some.kept.now in
    let there : get same_key old.ports (port_key c.args.port) ≡ Some port = search rules in
    c.due.ensures
    ∙ ap (λ (port : PortKept). length port.input.due)
    (sym (port_read kept.ports old c.args.port (Some port) there is.ports))

pub returns-in-None : goal.returns-in-None
returns-in-None c = λ kept is.
    let old = c.args.self.now in
    let there : get same_key old.ports (port_key c.args.port) ≡ None = search rules in
    ap (λ (port : PortKept). length port.input.due)
    (sym (port_read kept.ports old c.args.port None there is.ports))
