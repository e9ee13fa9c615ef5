use Rattle.std.proofs.Common.{List, sym, subst}
use Rattle.fabric_trace.specs.Known.{Seen}
use Rattle.fabric_ports.specs.Outside.{OutsideTook}
use Rattle.fabric_ports.specs.Standing.{Stands}
use Rattle.outside_lines.specs.declared.reading.OutsideLine.{OutsideLine}
use Rattle.trace_lines.specs.Lines.{TraceLine}
use Rattle.live_fabric.specs.Outside.{OutsideActed}
use Rattle.live_fabric.proofs.AnsweringLaws.{on_each_ok}
use Rattle.live_fabric.proofs.OutsideLaws.{acted_sent}
use Rattle.live_fabric.proofs.outside.act.Goals as goal

pub returns-in-Sent : goal.returns-in-Sent
returns-in-Sent g c =
    let fabric = c.outside_takes.new.self in
    let next = c.outside_takes.new.writer in
    let chars = c.as_slice-in-Sent.result.now in
    on_each_ok
    ((from : Seen) (lines : List TraceLine) → Stands from lines c.args.fabric.now
    → OutsideTook c.in-Sent.at.port chars from lines fabric c.write_sent.new.self next)
    ((from : Seen) (lines : List TraceLine) → Stands from lines c.args.fabric.now
    → OutsideActed c.args.line.now from lines fabric c.args.writer.now next)
    c.outside_takes.result
    (λ took from lines stands. acted_sent c.args.line.now c.in-Sent.at c.in-Sent.chars
    c.as_slice.result.now chars from lines fabric c.in-Sent.is c.as_slice.ensures.value
    c.as_slice-in-Sent.ensures.value c.write_sent.ensures (took from lines stands))
    c.outside_takes.ensures.took

pub returns-in-Pump : goal.returns-in-Pump
returns-in-Pump g c = λ from lines stands.
    let did = c.outside_turns.ensures from lines stands in
    subst (λ (l : OutsideLine). OutsideActed l from lines c.outside_turns.new.self
    c.args.writer.now c.outside_turns.new.writer) (sym c.in-Pump.is)
    (record { stands = did.stands; adds = did.adds })

pub returns-in-Timeout : goal.returns-in-Timeout
returns-in-Timeout g c = λ from lines stands.
    let did = c.outside_times_out.ensures from lines stands in
    subst (λ (l : OutsideLine). OutsideActed l from lines c.outside_times_out.new.self
    c.args.writer.now c.outside_times_out.new.writer) (sym c.in-Timeout.is)
    (record { stands = did.stands; adds = did.adds })
