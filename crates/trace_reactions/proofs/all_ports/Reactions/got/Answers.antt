use Rattle.std.proofs.Common.{◌≡◌, Some, rules}
use Rattle.std.specs.HashMap.{get}
use Rattle.trace_reactions.specs.declared.all_ports.Reactions.{Reactions}
use Rattle.trace_reactions.specs.Judging.{port_key, same_key}
use Rattle.trace_reactions.specs.PortsKept.{after_got}
use Rattle.trace_reactions.proofs.JudgingLaws.{port_changed}
use Rattle.trace_reactions.proofs.all_ports.Reactions.got.Goals as goal

pub returns-in_ok-hear-in-Some-clause-kept : goal.returns-in_ok-hear-in-Some-clause-kept
returns-in_ok-hear-in-Some-clause-kept c = λ ports kept.
    let old = c.know.new.self in
    let was = c.in-Some.kept.now in
    let now = c.hear.new.self in
    let new : Reactions = record old { ports = c.get_mut.follows.lender now } in
    let there : get same_key old.ports (port_key c.args.port) ≡ Some was = search rules in
    port_changed ports old new c.args.port was now (λ port. after_got port c.args.chars.now)
    ((c.get_mut.follows.holds now).3 c.in_ok-know.ensures.known) there c.in_ok-hear-in-Some.ensures
    (c.in_ok-know.ensures.kept ports kept)
