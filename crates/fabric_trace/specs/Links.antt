-- The two ports of a link, as the network shows them.
use Rattle.std.specs.Prelude.{◌≡◌, List, Some}
use Rattle.link_model.specs.declared.event.Event.{Event}
use Rattle.link_machine.specs.Queues.{Queues, queues_of}
use Rattle.link_machine.specs.Sound.{IsSoundLink}
use Rattle.link_wires.specs.Kept.{behind_all}
use Rattle.fabric_script.specs.declared.ports.PortRef.{PortRef}
use Rattle.fabric_model.specs.Network.{Network, peer_in}
use Rattle.fabric_trace.specs.Views.{packets_in, lists_in}
use Rattle.fabric_trace.specs.Known.{Wire, Seen, link_at}

-- the lanes of two ports of the network, as the queues of a link
abbrev pub queues_in : Network → PortRef → PortRef → Queues
queues_in net a b = record {
  lent_a = packets_in (net.lent a);
  waiting_a = lists_in (net.waiting a);
  received_a = record { lists = lists_in (net.received a); buffers = net.buffers a };
  lent_b = packets_in (net.lent b);
  waiting_b = lists_in (net.waiting b);
  received_b = record { lists = lists_in (net.received b); buffers = net.buffers b };
}

-- what was acted on is found among what was sent, and this is left
pub record IsKept (wire : Wire) : Type 0 where
  pub left : List Event
  pub found : behind_all wire.acted wire.sent ≡ Some left

-- The link of two ports is sound. What each port has lent and what waits there, by its ackIDs, is
-- what the plain network has there.
pub record IsLink (s : Seen) (a b : PortRef) : Type 0 where
  pub sound : IsSoundLink (link_at s a b)
  pub stands : queues_in s.network a b ≡ queues_of (link_at s a b)
  pub kept_a : IsKept (s.wires a)
  pub kept_b : IsKept (s.wires b)

-- each link is
abbrev pub AreLinks : Seen → Type 0
AreLinks s = (a b : PortRef) → peer_in s.network.links a ≡ Some b → IsLink s a b
