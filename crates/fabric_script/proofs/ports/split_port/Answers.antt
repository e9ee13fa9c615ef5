use Rattle.std.proofs.Common.{sym, rules}
use Rattle.fabric_script.proofs.Points.{no_port-name, no_port-number, no_port-large}
use Rattle.fabric_script.proofs.ports.split_port.Goals as goal

pub returns-then-not-is_name : goal.returns-then-not-is_name
returns-then-not-is_name c =
    let parts = c.in_ok-name.ensures in
    no_port-name c.args.word.now c.in_ok-name.name.now c.in_ok-name.number.now parts.0 parts.1
    (sym c.if-not-is_name.ensures)

pub returns-in_default : goal.returns-in_default
returns-in_default c =
    let parts = c.in_ok-name.ensures in
    no_port-number c.args.word.now c.in_ok-name.name.now c.in_ok-name.number.now parts.0 parts.1
    c.in_default.ensures

pub returns-then-port-gt15 : goal.returns-then-port-gt15
returns-then-port-gt15 c =
    let parts = c.in_ok-name.ensures in
    no_port-large c.args.word.now c.in_ok-name.name.now c.in_ok-name.number.now c.in-Some.port
    parts.0 parts.1 c.in-Some.ensures (search rules) c.if-port-gt15.true
