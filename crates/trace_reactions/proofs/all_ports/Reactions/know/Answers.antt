use Rattle.std.proofs.Common.{◌≡◌, None, rules}
use Rattle.std.specs.HashMap.{get}
use Rattle.trace_reactions.specs.Judging.{port_key, same_key}
use Rattle.trace_reactions.proofs.JudgingLaws.{port_known}
use Rattle.trace_reactions.proofs.all_ports.Reactions.know.Goals as goal

pub returns-clause-kept : goal.returns-clause-kept
returns-clause-kept c = λ ports kept.
    let old = c.args.self.now in
    let none : get same_key old.ports (port_key c.args.port) ≡ None = search rules in
    port_known ports old c.put.new.self c.args.port c.new.result c.in_ok-put.ensures.put none
    c.new.ensures kept
