use Rattle.std.proofs.Common.{List, Option, IfOk, sym, ap, ◌∙◌, subst}
use Rattle.rio_chars.specs.declared.chars.Char.{Char}
use Rattle.fabric_script.specs.declared.ports.PortRef.{PortRef}
use Rattle.trace_lines.specs.Reads.{step_read}
use Rattle.trace_reactions.specs.Judging.{after_gone, gone_from, KeepsPorts, KeepsReactions, ReactionsKept, with_port_kept}
use Rattle.trace_reactions.specs.PortsKept.{AreDue, after_got}
use Rattle.trace_reactions.proofs.all_ports.Reactions.take.Goals as goal

pub returns-in_ok-got-in-Got-clause-taken : goal.returns-in_ok-got-in-Got-clause-taken
returns-in_ok-got-in-Got-clause-taken c = λ kept has.
    rw c.in-Got.is record {
      ports = subst (λ (l : List Char).
          KeepsPorts (with_port_kept kept.ports c.in-Got.port (λ p. after_got p l)) c.got.new.self)
          c.as_slice.ensures.value (c.in_ok-got-in-Got.ensures.kept kept.ports has.ports);
      answered = c.got.ensures.answered ∙ has.answered;
    }

pub returns-in-Sent-clause-passes : goal.returns-in-Sent-clause-passes
returns-in-Sent-clause-passes c =
    rw c.in-Sent.is (subst (λ (l : List Char). IfOk c.sent.result (λ _. (kept : ReactionsKept)
    → KeepsReactions kept c.args.self.now → AreDue (kept.ports c.in-Sent.port) l))
    c.as_slice-in-Sent.ensures.value c.sent.ensures.passes)

pub returns-in-Sent-clause-not_due : goal.returns-in-Sent-clause-not_due
returns-in-Sent-clause-not_due c =
    rw c.in-Sent.is (λ wrong is kept has due. c.sent.ensures.not_due wrong is kept has
    (subst (λ (l : List Char). AreDue (kept.ports c.in-Sent.port) l)
    (sym c.as_slice-in-Sent.ensures.value) due))

pub returns-in_ok-gone-in-Stepped-clause-taken : goal.returns-in_ok-gone-in-Stepped-clause-taken
returns-in_ok-gone-in-Stepped-clause-taken c = λ kept has.
    rw c.in-Stepped.is record {
      ports = subst (λ (o : Option PortRef). KeepsPorts (after_gone kept.ports o) c.gone.new.self)
          (sym c.in-Some.is ∙ c.gone_from.ensures
          ∙ ap (λ s. gone_from (step_read s)) c.get.ensures)
          (c.in_ok-gone-in-Stepped.ensures.kept kept.ports has.ports);
      answered = c.gone.ensures.answered ∙ has.answered;
    }
