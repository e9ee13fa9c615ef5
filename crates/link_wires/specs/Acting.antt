-- The events that a port acts on, by the step tables alone: nothing is compared with what was sent.
use Rattle.std.specs.Prelude.{List, [], ◌∷◌, ◌++◌, if◌then◌else◌}
use Rattle.link_port.specs.Prelude.{Event, PortState, acts, is_acted}

-- those of events that are led through the tables one after another
abbrev pub acted_all : PortState → List Event → List Event
acted_all port [] = []
acted_all port (e ∷ es) =
    (if is_acted port e then e ∷ [] else []) ++ acted_all (acts port e).port es
