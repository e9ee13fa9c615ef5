use Rattle.std.proofs.Common.{sym, ap, ◌∙◌, rules}
use Rattle.trace_reactions.specs.InputHalves.{InputKept}
use Rattle.trace_reactions.specs.PortsKept.{after_got, port_kept}
use Rattle.trace_reactions.proofs.ReadingOn.{hears_none, hears_on, TakesRun}
use Rattle.trace_reactions.proofs.port.PortReactions.hear.Goals as goal

pub loop-left-preserved : goal.loop-left-preserved
loop-left-preserved c =
    let run = c.read_run-count in
    let left = c.loop-left.left.now in
    let behind = c.split_at.result.1.now in
    let port = port_kept c.loop-left.self in
    let after_one_event : TakesRun port.hearing left behind run.result.1 run.new.self
    = record {
      some = search rules;
      told_is = run.ensures.told;
      framer_is = run.ensures.state;
      left_is = search rules;
    } in
    ap (λ (input : InputKept). after_got (record {
      hearing = run.new.self.place;
      sending = port.sending;
      input = input;
    }) behind) c.in_ok-take.ensures
    ∙ hears_on port left behind run.result.1 run.new.self after_one_event
    ∙ c.loop-left.invariant

pub returns : goal.returns
returns c =
    sym (hears_none (port_kept c.loop-left.self) c.loop-left.left.now (search rules))
    ∙ c.loop-left.invariant
