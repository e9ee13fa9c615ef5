-- Wires whose characters stand as they were sent.
use Rattle.std.specs.Prelude.{◌≡◌, true}
use Rattle.link_model.specs.Prelude.{at_rest, place_after, said}
use Rattle.link_port.specs.Ports.{PortState}
use Rattle.link_wires.specs.Kept.{IsSubsequence}
use Rattle.link_wires.specs.Wires.{WireState}
use Rattle.link_machine.specs.Sound.{IsSoundLink}
use Rattle.link_machine.specs.States.{LinkState}
use Rattle.link_machine.specs.Acts.{Reached, At, FoundAt}

-- What the characters on the wire say to the port, read on from where it stands, was sent in this
-- order and is not acted on yet. Behind them neither a symbol nor a packet is in progress; data may
-- be skipped, as after an earlier error.
pub record IsCalmWay (receiver : PortState) (wire : WireState) : Type 0 where
  pub rests : at_rest (place_after receiver.place wire.chars) ≡ true
  pub found : IsSubsequence (said receiver.place wire.chars) wire.kept

-- both ways
pub record IsCalm (s : LinkState) : Type 0 where
  pub to_b : IsCalmWay s.b s.wire_a
  pub to_a : IsCalmWay s.a s.wire_b

-- a link has come to a sound and calm state, and not to an event that was not sent
abbrev pub IsStillCalm : Reached → Type 0
IsStillCalm (At m) = IsSoundLink m × IsCalm m
IsStillCalm (FoundAt side e) = ⊥
