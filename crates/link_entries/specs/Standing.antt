-- What is known of the output half of a port before a symbol comes.
use Rattle.link_port.specs.Ports.{PortState}
use Rattle.link_port.specs.Halves.{out_kind_of}
use Rattle.link_port.specs.States.{has_asked}
use Rattle.link_entries.specs.declared.hearing.OutBefore.{OutBefore}

-- its state, and whether it has asked
abbrev pub out_before_of : PortState → OutBefore
out_before_of port = record { kind = out_kind_of port.output; asked = has_asked port.output }
