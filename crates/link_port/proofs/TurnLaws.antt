-- What a turn sends.
use Rattle.std.proofs.Common.{◌≡◌, ℕ, List, Option, Some, None, slice_get, refl, sym, ap, ◌∙◌}
use Rattle.link_buffers.specs.Prelude.{list_at, lists_without, highest}
use Rattle.link_buffers.proofs.PriorityLists.{slice_get-lists_without}
use Rattle.link_model.specs.Output.{Output, Turned, turned, turns}
use Rattle.link_model.specs.Symbols.{start_of_packet, end_of_packet}
use Rattle.link_port.specs.declared.output_half.Sends.{Sends}
use Rattle.link_port.specs.declared.output_half.Sends.TheVariants as Sent
use Rattle.link_port.specs.declared.sending.Standing.{Standing}
use Rattle.link_port.specs.States.{prios_of}
use Rattle.link_port.specs.Sends.{sends_of, AreWaiting}
use Rattle.link_port.specs.Bursts.{burst_between, sending_burst, sending_of}
use Rattle.link_port.specs.Turns.{packet_burst, burst_of, standing, turn_sends, waiting_in}
use Rattle.link_port.specs.Ports.{PortState}

burst_between-packet_burst : (at : Standing) (ack : ℕ) (found : Option (List ℕ))
    → burst_between (start_of_packet at.expected at.buffers) ack found
    (end_of_packet at.expected at.buffers)
    ≡ packet_burst at ack found
burst_between-packet_burst at ack None = refl
burst_between-packet_burst at ack (Some packet) = refl

sending_of-burst_of :
    (sends : Sends) (at : Standing) (prios : List ℕ) (queued : List (List (List ℕ)))
    → AreWaiting sends prios queued
    → sending_burst (sending_of sends at) queued
    ≡ burst_of (sends_of sends) at (lists_without prios queued)
sending_of-burst_of (Sent.Packet s) at prios queued waits =
    burst_between-packet_burst at s.ack (slice_get (list_at queued s.prio) s.place)
    ∙ ap (packet_burst at s.ack) (ap (slice_get (list_at queued s.prio)) waits.next
    ∙ sym (slice_get-lists_without prios queued s.prio))
sending_of-burst_of Sent.Restart at prios queued waits = refl
sending_of-burst_of Sent.Request at prios queued waits = refl
sending_of-burst_of Sent.Status at prios queued waits = refl
sending_of-burst_of Sent.Nothing at prios queued waits = refl

-- what is sent is what the table says
pub turn_is :
    (port : PortState) (next : Output) (sends : Sends)
    → turned next (sends_of sends) ≡ turns port.tells port.output (highest (waiting_in port))
    → AreWaiting sends (prios_of port.output) port.queued
    → sending_burst (sending_of sends (standing port)) port.queued ≡ turn_sends port
turn_is port next sends entry waits =
    sending_of-burst_of sends (standing port) (prios_of port.output) port.queued waits
    ∙ ap (λ (t : Turned). burst_of t.sends (standing port) (waiting_in port)) entry
