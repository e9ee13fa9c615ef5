-- What is kept of a port is what the port is, and nothing is due.
use Rattle.answered_traces.proofs.Prelude.{◌≡◌, [], PortRef, Seen, port_seen, packet_count, place_start, PortState, InputKept, ReactionsKept, PortKept}

-- the input half of a port, of which every reaction was sent
abbrev pub half_kept : PortState → InputKept
half_kept port = record {
  buffers = port.received.buffers;
  input = port.input;
  held = packet_count port.received.lists;
  due = [];
}

-- The reading of what it gets stands where its framer stands, and that of what it sends between two
-- symbols.
pub record KeepsPortAs (kept : PortKept) (port : PortState) : Type 0 where
  pub hearing : kept.hearing ≡ port.place
  pub sending : kept.sending ≡ place_start
  pub input : kept.input ≡ half_kept port

-- the same of each port that is seen
abbrev pub KeepsSeen : ReactionsKept → Seen → Type 0
KeepsSeen kept s = (p : PortRef) → KeepsPortAs (kept.ports p) (port_seen s p)
