use Rattle.std.proofs.Common.{◌≡◌, Some, rules}
use Rattle.std.specs.HashMap.{get}
use Rattle.trace_reactions.specs.declared.all_ports.Reactions.{Reactions}
use Rattle.trace_reactions.specs.Judging.{port_key, same_key}
use Rattle.trace_reactions.specs.PortsKept.{gives}
use Rattle.trace_reactions.proofs.JudgingLaws.{port_changed}
use Rattle.trace_reactions.proofs.all_ports.Reactions.gone.Goals as goal

pub returns-in-Some-clause-kept : goal.returns-in-Some-clause-kept
returns-in-Some-clause-kept c = λ ports kept.
    let old = c.know.new.self in
    let was = c.in-Some.kept.now in
    let now = c.give.new.self in
    let new : Reactions = record old { ports = c.get_mut.follows.lender now } in
    let there : get same_key old.ports (port_key c.args.port) ≡ Some was = search rules in
    port_changed ports old new c.args.port was now gives
    ((c.get_mut.follows.holds now).3 c.in_ok-know.ensures.known) there c.give.ensures
    (c.in_ok-know.ensures.kept ports kept)
