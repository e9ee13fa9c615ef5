-- Which lines of a trace ask for a packet again.
use Rattle.std.specs.Prelude.{◌≡◌, ◌≢◌, List, Some, None}
use Rattle.std.specs.List.{AllByRecursion}
use Rattle.rio_symbols.specs.declared.stype0.TheConstants.{PACKET_RETRY}
use Rattle.link_model.specs.declared.event.Event.{Event}
use Rattle.link_model.specs.declared.event.Event.TheVariants.{Ctl, Pkt, Bad}
use Rattle.link_sound.specs.InTime.{IsToldInTime}
use Rattle.link_machine.specs.InTime.{ends_of_link}
use Rattle.fabric_script.specs.declared.ports.PortRef.{PortRef}
use Rattle.fabric_model.specs.Network.{Network}
use Rattle.trace_lines.specs.Lines.{Sent, TraceLine, Signed}
use Rattle.fabric_trace.specs.Known.{peer_of, link_at}
use Rattle.fabric_trace.specs.Fold.{says, seen}
use Rattle.fabric_trace.specs.Parts.{Made}
use Rattle.fabric_trace.specs.Runs.{begins}
use Rattle.fabric_trace.specs.SetUps.{IsSetUp}

-- it is no packet-retry
abbrev pub IsNoRetry : Event → Type 0
IsNoRetry (Ctl symbol) = symbol.s0 ≢ PACKET_RETRY
IsNoRetry (Pkt ack packet) = Unit {0}
IsNoRetry (Bad cause) = Unit {0}

-- if the line says that this port sent characters, they say no packet-retry
abbrev pub AsksNoneAgain : PortRef → TraceLine → Type 0
AsksNoneAgain q (Signed (Sent p chars)) = p ≡ q → AllByRecursion IsNoRetry (says chars)
AsksNoneAgain q _ = Unit {0}

-- After some lines p was told of the free buffers of q in time, and every event that was acted on
-- was sent. Then no line that follows asks p for a packet again.
abbrev pub ToldInTimeAsksNoneAgain : Type 0
ToldInTimeAsksNoneAgain = (net : Network) (front rest : List TraceLine) (p q : PortRef)
    → IsSetUp net → Made (begins net) front → Made (seen (begins net) front) rest
    → peer_of (begins net) p ≡ Some q → (seen (begins net) front).undetected ≡ None
    → IsToldInTime (ends_of_link (link_at (seen (begins net) front) p q))
    → AllByRecursion (AsksNoneAgain q) rest
