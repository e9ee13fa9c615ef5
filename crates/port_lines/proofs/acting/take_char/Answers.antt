use Rattle.std.proofs.Common.{◌≡◌, ap, ◌∙◌}
use Rattle.link_port.specs.Steps.{Acted, acts_all, takes}
use Rattle.link_port.specs.Runs.{completed_events}
use Rattle.port_lines.proofs.ActingLaws.{takes_by_reading, held_is_some}
use Rattle.port_lines.proofs.acting.take_char.Goals as goal

pub returns : goal.returns
returns c =
    let read = c.read-completed in
    let whole : acts_all read.new.self (completed_events read.result.1 read.new.packet)
    ≡ takes c.args.port.now c.args.c =
    takes_by_reading c.args.port.now read.new.self c.args.c read.result.1 read.new.packet
    read.ensures.state read.ensures.events in
    record {
      port = c.act_all.ensures.port ∙ ap (λ (a : Acted). a.port) whole;
      reply = c.act_all.ensures.reply ∙ ap (λ (a : Acted). a.reply) whole;
      held = c.act_all.ensures.held ∙ ap (λ (a : Acted). a.held) whole;
      accepted =
          held_is_some c.act_all.result.held read.new.packet
          (takes c.args.port.now c.args.c).held
          (c.act_all.ensures.held ∙ ap (λ (a : Acted). a.held) whole);
      freed = c.act_all.ensures.freed ∙ ap (λ (a : Acted). a.freed) whole;
    }
