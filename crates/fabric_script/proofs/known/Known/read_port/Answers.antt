use Rattle.std.proofs.Common.{◌≡◌, ◌<◌, ◌≤◌, length, sym, ap, ◌∙◌, rules}
use Rattle.fabric_script.specs.Names.{name_of}
use Rattle.fabric_script.specs.Hits.{PortIsBad, PortIsUnknown, PortIsOutside, point_text}
use Rattle.fabric_script.specs.Known.{ports_of}
use Rattle.fabric_script.proofs.known.Known.read_port.Goals as goal

pub returns-in_default : goal.returns-in_default
returns-in_default c = PortIsBad c.in_default.ensures

pub returns-in_default-find : goal.returns-in_default-find
returns-in_default-find c =
    let read = c.in-Some.ensures in
    let names : c.as_slice.result.now ≡ c.args.self.now.names = search rules in
    PortIsUnknown c.in-Some.name.now c.in-Some.port read.0 read.1 read.2
    (rw (← names) c.in_default-find.ensures)

pub returns-then-port-ports_of : goal.returns-then-port-ports_of
returns-then-port-ports_of c =
    let read = c.in-Some.ensures in
    let found = c.in-Some-find.ensures in
    let names : c.as_slice.result.now ≡ c.args.self.now.names = search rules in
    let text = read.2 ∙ ap (λ name. point_text name c.in-Some.port) (sym found.1)
    ∙ ap (λ ns. point_text (name_of ns c.in-Some-find.node) c.in-Some.port) names in
    let within : c.in-Some-find.node < length c.args.self.now.names = rw (← names) found.0 in
    let outside : ports_of c.args.self.now.nodes c.in-Some-find.node ≤ c.in-Some.port =
    rw (← c.ports_of.ensures) c.if-port-ports_of.true in
    PortIsOutside record { node = c.in-Some-find.node; port = c.in-Some.port } within read.1 text
    outside
