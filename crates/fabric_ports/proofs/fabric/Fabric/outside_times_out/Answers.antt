use Rattle.std.proofs.Common.{[], ◌∷◌, refl}
use Rattle.link_port.specs.Ports.{PortState}
use Rattle.link_port.specs.Turns.{timed_out}
use Rattle.trace_lines.specs.Lines.{Fired, Signed}
use Rattle.fabric_ports.proofs.OutsideLaws.{outside_did}
use Rattle.fabric_ports.proofs.fabric.Fabric.outside_times_out.Goals as goal

pub returns : goal.returns
returns g c = λ from lines stands.
    outside_did c.time_out.new.self c.wake_switch.new.self c.requires.free stands
    c.place-place.ensures.place c.index_mut.ensures.value c.time_out.ensures.port
    c.wake_switch.ensures (λ (q : PortState). timed_out q)
    (λ (q : PortState). Signed (Fired c.args.port) ∷ []) c.time_out.ensures.state
    (record { buffers = refl; tells = refl }) c.write_fire.ensures
