-- What the halves of a port answer, as in the tables.
use Rattle.std.specs.Prelude.{◌≡◌, ℕ, ◌<◌, Bool, Option, Some, None, List, length, if◌then◌else◌}
use Rattle.rio_symbols.specs.Fields.{Fields}
use Rattle.link_buffers.specs.Queues.{list_at}
use Rattle.link_buffers.specs.Priorities.{count_of}
use Rattle.link_sender.specs.declared.answers.Started.{Started}
use Rattle.link_model.specs.Output as out
use Rattle.link_model.specs.Input as in_half
use Rattle.link_port.specs.declared.output_half.Sends.{Sends}
use Rattle.link_port.specs.declared.output_half.Sends.TheVariants as Sent

-- what a turn sends
abbrev pub sends_of : Sends → out.Sends
sends_of (Sent.Packet started) = out.Sends.Packet started.ack started.prio
sends_of Sent.Restart = out.Sends.Restart
sends_of Sent.Request = out.Sends.Request
sends_of Sent.Status = out.Sends.Status
sends_of Sent.Nothing = out.Sends.Nothing

-- what is sent where a packet starts, if any, by whether the port tells its free buffers
abbrev pub starting : Bool → Option Started → Sends
starting tells None = if tells then Sent.Status else Sent.Nothing
starting tells (Some started) = Sent.Packet started

-- a packet that starts is one of those that wait: the one behind the outstanding ones of its
-- priority
pub record IsWaiting (started : Started) (prios : List ℕ) (queued : List (List (List ℕ))) : Type 0
  where
    pub ack : started.ack < 32
    pub few : started.prio < 4
    pub next : started.place ≡ count_of prios started.prio
    pub waits : started.place < length (list_at queued started.prio)

-- the same of whatever is sent
abbrev pub AreWaiting : Sends → List ℕ → List (List (List ℕ)) → Type 0
AreWaiting (Sent.Packet started) prios queued = IsWaiting started prios queued
AreWaiting Sent.Restart prios queued = Unit {0}
AreWaiting Sent.Request prios queued = Unit {0}
AreWaiting Sent.Status prios queued = Unit {0}
AreWaiting Sent.Nothing prios queued = Unit {0}

-- what the input half answered, as in its table
abbrev pub received : in_half.Input → Option Fields → Bool → in_half.Received
received state reply held = record { state = state; reply = reply; held = held }
