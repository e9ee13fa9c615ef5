use Rattle.std.proofs.Common.{◌-◌, sym, ◌∙◌, subst, rules}
use Rattle.trace_reactions.specs.declared.port.PortReactions.{PortReactions}
use Rattle.trace_reactions.specs.PortsKept.{IsWrongAnswer, port_kept}
use Rattle.trace_reactions.proofs.ReadingOn.{TakesRun}
use Rattle.trace_reactions.proofs.SendingOn.{HasSent, sent_all, sent_count, sent_due, sent_first, sent_run, sent_wrong, wrong_answer}
use Rattle.trace_reactions.proofs.port.PortReactions.send.Goals as goal

pub loop-left-init : goal.loop-left-init
loop-left-init c = sent_first (port_kept c.args.self.now) c.args.chars.now

pub loop-left-preserved : goal.loop-left-preserved
loop-left-preserved c =
    let run = c.read_run-count in
    let port = port_kept c.args.self.now in
    let now = port_kept c.loop-left.self in
    let left = c.loop-left.left.now in
    let behind = c.split_at.result.1.now in
    let new = c.answer_told.new.self in
    let after_one_event : TakesRun now.sending left behind run.result.1 run.new.self = record {
      some = search rules;
      told_is = run.ensures.told;
      framer_is = run.ensures.state;
      left_is = search rules;
    } in
    subst (λ (kept : PortReactions). HasSent port c.args.chars.now (port_kept kept) behind)
    (sym c.answer_told.ensures.rest)
    (sent_run run.result.1 run.new.self new.input.due.items c.loop-left.invariant after_one_event
    (search rules))

pub returns-in-Err : goal.returns-in-Err
returns-in-Err c =
    let run = c.read_run-count in
    let port = port_kept c.args.self.now in
    let now = port_kept c.loop-left.self in
    let left = c.loop-left.left.now in
    let behind = c.split_at.result.1.now in
    let after_one_event : TakesRun now.sending left behind run.result.1 run.new.self = record {
      some = search rules;
      told_is = run.ensures.told;
      framer_is = run.ensures.state;
      left_is = search rules;
    } in
    let is : IsWrongAnswer port c.args.chars.now c.in-Err.wrong
    = sent_wrong run.result.1 run.new.self c.in-Err.wrong c.loop-left.invariant after_one_event
    c.in-Err.ensures.sent c.in-Err.ensures.first c.in-Err.ensures.other in
    record { due = tt; count = tt; sent = tt; wrong = is; not_due = wrong_answer is }

pub returns : goal.returns
returns c =
    let had = c.loop-left.invariant in
    let first = c.due-before.ensures in
    let last = c.due.ensures in record {
      due = ((port_kept c.loop-left.self).input.due, sent_due had (search rules));
      count = c.saturating_sub.ensures ∙ (λ i. first i - last i) ∙ sent_count had (search rules);
      sent = sent_all had (search rules);
      wrong = tt;
      not_due = tt;
    }
