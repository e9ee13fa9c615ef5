use Rattle.std.proofs.Common.{◌≡◌, ◌+◌, Some, length, refl, sym, ap, ◌∙◌, subst, rules}
use Rattle.std.specs.HashMap.{get}
use Rattle.trace_reactions.specs.declared.all_ports.Reactions.{Reactions}
use Rattle.trace_reactions.specs.declared.all_ports.WrongReaction.{WrongReaction}
use Rattle.trace_reactions.specs.Judging.{port_key, same_key}
use Rattle.trace_reactions.specs.PortsKept.{AreDue, IsWrongAnswer, PortKept, after_sending, reactions_sent}
use Rattle.trace_reactions.proofs.JudgingLaws.{port_changed, port_read}
use Rattle.trace_reactions.proofs.all_ports.Reactions.sent.Goals as goal

pub returns-in-Err-clause-wrong : goal.returns-in-Err-clause-wrong
returns-in-Err-clause-wrong c = λ wrong is kept has.
    let port = c.args.port in
    let old = c.know.new.self in
    let was = c.in-Some.kept.now in
    let there : get same_key old.ports (port_key port) ≡ Some was = search rules in
    let own = port_read kept.ports old port (Some was) there
    (c.in_ok-know.ensures.kept kept.ports has.ports) in
    let mine : WrongReaction = record { port = port; answer = c.in-Err.answer } in
    let same : mine ≡ wrong = cc in
    subst (λ (w : WrongReaction).
    (w.port ≡ port) × IsWrongAnswer (kept.ports port) c.args.chars.now w.answer) same (
      refl,
      subst (λ r. IsWrongAnswer r c.args.chars.now c.in-Err.answer) (sym own)
          c.in-Err.ensures.wrong,
    )

pub returns-in-Err-clause-not_due : goal.returns-in-Err-clause-not_due
returns-in-Err-clause-not_due c = λ wrong is kept has due.
    let port = c.args.port in
    let old = c.know.new.self in
    let was = c.in-Some.kept.now in
    let there : get same_key old.ports (port_key port) ≡ Some was = search rules in
    let own = port_read kept.ports old port (Some was) there
    (c.in_ok-know.ensures.kept kept.ports has.ports) in
    c.in-Err.ensures.not_due (subst (λ r. AreDue r c.args.chars.now) own due)

pub returns-clause-passes : goal.returns-clause-passes
returns-clause-passes c = λ kept has.
    let port = c.args.port in
    let old = c.know.new.self in
    let was = c.in-Some.kept.now in
    let there : get same_key old.ports (port_key port) ≡ Some was = search rules in
    let own = port_read kept.ports old port (Some was) there
    (c.in_ok-know.ensures.kept kept.ports has.ports) in
    subst (λ r. AreDue r c.args.chars.now) (sym own) c.in-Ok.ensures.due

pub returns-clause-taken : goal.returns-clause-taken
returns-clause-taken c = λ kept has.
    let port = c.args.port in
    let old = c.know.new.self in
    let was = c.in-Some.kept.now in
    let now = c.send.new.self in
    let new : Reactions = record old { ports = c.get_mut.follows.lender now } in
    let there : get same_key old.ports (port_key port) ≡ Some was = search rules in
    let own = port_read kept.ports old port (Some was) there
    (c.in_ok-know.ensures.kept kept.ports has.ports) in
    record {
      ports = port_changed kept.ports old new port was now (λ p. after_sending p c.args.chars.now)
          ((c.get_mut.follows.holds now).3 c.in_ok-know.ensures.known) there c.in-Ok.ensures.sent
          (c.in_ok-know.ensures.kept kept.ports has.ports);
      answered = c.in-Some-checked_add.ensures.1 ∙ (λ i.
          (c.know.ensures.answered ∙ has.answered) i
          + (c.in-Ok.ensures.count
          ∙ ap (λ (r : PortKept). length (reactions_sent r c.args.chars.now)) (sym own)) i);
    }
