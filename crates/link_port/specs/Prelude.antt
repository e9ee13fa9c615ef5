-- The words of ports, and the types of events, which crates above cite most, passed on from one
-- place. Declares nothing.
pub use Rattle.link_model.specs.declared.event.Event.{Event}
pub use Rattle.link_model.specs.declared.event.Event.TheVariants.{Ctl, Pkt, Bad}
pub use Rattle.link_model.specs.declared.reading_kinds.Pending.{Pending}
pub use Rattle.link_model.specs.declared.reading_kinds.Pending.TheVariants.{Nothing, Opened, One, Two}
pub use Rattle.link_port.specs.Ports.{PortState, IsPort, AreAlike, new_port}
pub use Rattle.link_port.specs.States.{prios_of, expected_of, expects}
pub use Rattle.link_port.specs.Steps.{Acted, acts, is_acted}
pub use Rattle.link_port.specs.Turns.{Burst, standing, no_burst, symbol_burst, packet_burst, burst_of, turns_to, turn_sends, tell_sends, is_ready, timed_out, waiting_in}
pub use Rattle.link_receiver.specs.Status.{buffer_status}
unfoldable pub use Rattle.link_port.specs.Acts.{replies}
pub use Rattle.link_port.specs.Runs.{completed_events}
