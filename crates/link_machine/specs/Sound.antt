-- What is true of a link, and the ports at its ends, whatever happened on it.
use Rattle.link_port.specs.Ports.{IsPort}
use Rattle.link_sound.specs.Sound.{IsSound}
use Rattle.link_sound.specs.Told.{IsTold}
use Rattle.link_machine.specs.States.{LinkState}

-- Both ports are as every port is, and they and what each has sent and the other has not acted on
-- are sound, and tell their free buffers or do not. Nothing is said of the characters on the wires.
pub record IsSoundLink (s : LinkState) : Type 0 where
  pub port_a : IsPort s.a
  pub port_b : IsPort s.b
  pub sound : IsSound s.a s.b s.wire_a.kept s.wire_b.kept
  pub told_b : IsTold s.b s.a s.wire_a.kept
  pub told_a : IsTold s.a s.b s.wire_b.kept
