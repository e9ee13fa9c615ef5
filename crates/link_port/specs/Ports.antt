-- A port.
use Rattle.std.specs.Prelude.{◌≡◌, ℕ, ◌<◌, Bool, List, None}
use Rattle.link_buffers.specs.Prelude.{Buffered, no_packets, IsInStore, IsOutStore, Covers}
use Rattle.link_model.specs.Prelude.{Place, place_start, IsBounded, from_ack, Output, Input}
use Rattle.link_model.specs.Input.{InputOk}
use Rattle.link_port.specs.States.{prios_of, IsOutput, expected_of}

-- what contracts see of a port: the place of its framer, its two halves, the packets to be sent,
-- those that came in, and whether it tells its free buffers
pub record PortState : Type 0 where
  pub place : Place
  pub output : Output
  pub input : Input
  pub queued : List (List (List ℕ))
  pub received : Buffered
  pub tells : Bool

-- a port without a packet, which begins with ackID 0 both ways and was told nothing
abbrev pub new_port : Bool → ℕ → PortState
new_port tells buffers = record {
  place = place_start;
  output = Output.Ok (from_ack 0 None);
  input = InputOk 0;
  queued = no_packets;
  received = record { lists = no_packets; buffers = buffers };
  tells = tells;
}

-- What is true of every port: its outstanding packets, at most the window, are among the packets to
-- be sent, its packets are no more than its buffers, and its framer holds at most 276 bytes.
pub record IsPort (port : PortState) : Type 0 where
  pub outstanding : IsOutput port.output
  pub covered : Covers (prios_of port.output) port.queued
  pub expected_ack : expected_of port.input < 32
  pub sends : IsOutStore port.queued
  pub receives : IsInStore port.received
  pub bounded : IsBounded port.place.text

-- what calls of the layer above leave as it is: the number of buffers, the framer, both halves, and
-- whether it tells
abbrev pub AreAlike : PortState → PortState → Type 0
AreAlike port next =
    (port.received.buffers ≡ next.received.buffers) × (port.place ≡ next.place)
    × (port.output ≡ next.output) × (port.input ≡ next.input) × (port.tells ≡ next.tells)
