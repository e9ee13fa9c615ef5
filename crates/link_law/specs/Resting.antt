-- A link that has nothing to do.
use Rattle.std.specs.Prelude.{◌&&◌, not, Bool}
use Rattle.link_port.specs.Ports.{PortState}
use Rattle.link_machine.specs.Calls.{is_silent}
use Rattle.link_machine.specs.States.{LinkState}
use Rattle.link_machine.specs.Settling.{rests_to, waits}

-- both directions are at rest
abbrev pub rest_both : PortState → PortState → Bool
rest_both a b = rests_to a b && rests_to b a

-- no packet waits at either port
abbrev pub none_waits : PortState → PortState → Bool
none_waits a b = not (waits a) && not (waits b)

-- no port tells its free buffers
abbrev pub none_tells : PortState → PortState → Bool
none_tells a b = not a.tells && not b.tells

-- neither port has anything to do, if nothing comes
abbrev pub are_idle : PortState → PortState → Bool
are_idle a b = rest_both a b && (none_waits a b && none_tells a b)

-- nothing stands on its wires, both directions are at rest, no packet waits, and no port tells its
-- free buffers
abbrev pub has_no_work : LinkState → Bool
has_no_work s = is_silent s && are_idle s.a s.b
