use Rattle.std.proofs.Common.{ap, ◌∙◌}
use Rattle.link_port.specs.declared.port.Port.TheInside.{Inside}
use Rattle.link_port.specs.Halves.{output_of, input_of}
use Rattle.link_port.specs.Bursts.{sending_burst, sending_of}
use Rattle.link_port.specs.Turns.{turn_sends}
use Rattle.link_port.specs.Ports.{PortState}
use Rattle.link_port.proofs.TurnLaws.{turn_is}
use Rattle.link_port.proofs.port.Port.start_turn.Goals as goal

-- what contracts see of the fields
abbrev seen : Inside → PortState
seen p = record {
  place = p.framer.place;
  output = output_of p.output;
  input = input_of p.input;
  queued = p.queued;
  received = p.received;
  tells = p.tells;
}

pub invariant_of-self : goal.invariant_of-self
invariant_of-self c =
    (c.turn-output.ensures.covered, c.self.invariant.1)

pub returns-clause-sends : goal.returns-clause-sends
returns-clause-sends c =
    let entry = rw c.replace-output.ensures.value at c.turn-output.ensures.entry in
    let waits = rw c.replace-output.ensures.value at c.turn-output.ensures.waiting in
    ap (λ s. sending_burst s c.self.inside.queued) c.send_from.ensures.value
    ∙ ap (λ n. sending_burst (sending_of c.turn-output.result.1 n) c.self.inside.queued)
    c.standing.ensures.value
    ∙ turn_is (seen c.self.inside) _ _ entry waits
    ∙ ap turn_sends c.self.view_is
