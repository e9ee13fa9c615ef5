use Rattle.std.proofs.Common.{◌≡◌, Some, sym, ap, ◌∙◌}
use Rattle.std.specs.Option.{option_or}
use Rattle.link_model.specs.declared.event.Event.TheVariants.{Ctl, Pkt, Bad}
use Rattle.link_port.specs.declared.completed.Completed.{Completed}
use Rattle.link_port.specs.declared.acts.Done.{Done}
use Rattle.link_port.specs.Steps.{Acted, idle, acts_all, acts_symbol, acts_packet, acts_bad, joined}
use Rattle.link_port.specs.Runs.{completed_events}
use Rattle.link_port.proofs.ActLaws.{second_holds_none}
use Rattle.port_lines.specs.Taking.{held_if}
use Rattle.port_lines.proofs.ActingLaws.{acts_none, acts_one, acts_two}
use Rattle.port_lines.proofs.acting.act_all.Goals as goal

pub returns-in-Nothing : goal.returns-in-Nothing
returns-in-Nothing c =
    let port = c.args.port.now in
    let packet = c.args.packet.now in
    let whole : idle port ≡ acts_all port (completed_events c.args.completed packet) =
    sym (ap (λ (k : Completed). acts_all port (completed_events k packet)) c.in-Nothing.is
    ∙ acts_none port) in
    record {
      port = ap (λ (a : Acted). a.port) whole;
      reply = ap (λ (d : Done). d.reply) c.replying.ensures ∙ ap (λ (a : Acted). a.reply) whole;
      held = ap (λ (d : Done). held_if d.held packet) c.replying.ensures
          ∙ ap (λ (a : Acted). a.held) whole;
      freed = c.requires.empty ∙ ap (λ (a : Acted). a.freed) whole;
    }

pub returns-in-Symbol : goal.returns-in-Symbol
returns-in-Symbol c =
    let port = c.args.port.now in
    let packet = c.args.packet.now in
    let symbol = c.in-Symbol.symbol in
    let whole : acts_symbol port symbol
    ≡ acts_all port (completed_events c.args.completed packet) =
    sym (ap (λ (k : Completed). acts_all port (completed_events k packet)) c.in-Symbol.is
    ∙ acts_one port (Ctl symbol)) in
    record {
      port = c.act_symbol.ensures.state ∙ ap (λ (a : Acted). a.port) whole;
      reply = ap (λ (d : Done). d.reply) c.replying-in-Symbol.ensures ∙ c.act_symbol.ensures.reply
          ∙ ap (λ (a : Acted). a.reply) whole;
      held = ap (λ (d : Done). held_if d.held packet) c.replying-in-Symbol.ensures
          ∙ ap (λ (a : Acted). a.held) whole;
      freed = c.act_symbol.ensures.freed ∙ ap (λ (a : Acted). a.freed) whole;
    }

pub returns-in-Bad : goal.returns-in-Bad
returns-in-Bad c =
    let port = c.args.port.now in
    let packet = c.args.packet.now in
    let cause = c.in-Bad.cause in
    let whole : acts_bad port cause ≡ acts_all port (completed_events c.args.completed packet) =
    sym (ap (λ (k : Completed). acts_all port (completed_events k packet)) c.in-Bad.is
    ∙ acts_one port (Bad cause)) in
    record {
      port = c.act_bad.ensures.state ∙ ap (λ (a : Acted). a.port) whole;
      reply = ap (λ (d : Done). d.reply) c.replying-in-Bad.ensures ∙ c.act_bad.ensures.reply
          ∙ ap (λ (a : Acted). a.reply) whole;
      held = ap (λ (d : Done). held_if d.held packet) c.replying-in-Bad.ensures
          ∙ ap (λ (a : Acted). a.held) whole;
      freed = c.requires.empty ∙ ap (λ (a : Acted). a.freed) whole;
    }

pub returns-in-Packet : goal.returns-in-Packet
returns-in-Packet c =
    let port = c.args.port.now in
    let packet = c.args.packet.now in
    let symbol = c.in-Packet.symbol in
    let first = acts_packet port c.in-Packet.ack packet in
    let next = c.act_packet-done.new.self in
    let whole : joined first (acts_symbol next symbol)
    ≡ acts_all port (completed_events c.args.completed packet) =
    sym (ap (λ (k : Completed). acts_all port (completed_events k packet)) c.in-Packet.is
    ∙ acts_two port next (Pkt c.in-Packet.ack packet) symbol c.act_packet-done.ensures.state) in
    record {
      port = c.act_symbol-answer.ensures.state ∙ ap (λ (a : Acted). a.port) whole;
      reply = c.or.ensures
          ∙ ap (λ r. option_or r c.act_symbol-answer.result) c.act_packet-done.ensures.reply
          ∙ ap (option_or first.reply) c.act_symbol-answer.ensures.reply
          ∙ ap (λ (a : Acted). a.reply) whole;
      held = c.act_packet-done.ensures.held
          ∙ sym (second_holds_none next (Some symbol) first.held)
          ∙ ap (λ (a : Acted). a.held) whole;
      freed = c.act_symbol-answer.ensures.freed ∙ ap (λ (a : Acted). a.freed) whole;
    }

pub returns-in-NoPacket : goal.returns-in-NoPacket
returns-in-NoPacket c =
    let port = c.args.port.now in
    let packet = c.args.packet.now in
    let symbol = c.in-NoPacket.symbol in
    let first = acts_bad port c.in-NoPacket.cause in
    let next = c.act_bad-reply.new.self in
    let whole : joined first (acts_symbol next symbol)
    ≡ acts_all port (completed_events c.args.completed packet) =
    sym (ap (λ (k : Completed). acts_all port (completed_events k packet)) c.in-NoPacket.is
    ∙ acts_two port next (Bad c.in-NoPacket.cause) symbol c.act_bad-reply.ensures.state) in
    record {
      port = c.act_symbol-answer-in-NoPacket.ensures.state ∙ ap (λ (a : Acted). a.port) whole;
      reply = ap (λ (d : Done). d.reply) c.replying-in-NoPacket.ensures ∙ c.or-in-NoPacket.ensures
          ∙ ap (λ r. option_or r c.act_symbol-answer-in-NoPacket.result)
          c.act_bad-reply.ensures.reply
          ∙ ap (option_or first.reply) c.act_symbol-answer-in-NoPacket.ensures.reply
          ∙ ap (λ (a : Acted). a.reply) whole;
      held = ap (λ (d : Done). held_if d.held packet) c.replying-in-NoPacket.ensures
          ∙ ap (λ (a : Acted). a.held) whole;
      freed = c.act_symbol-answer-in-NoPacket.ensures.freed ∙ ap (λ (a : Acted). a.freed) whole;
    }
