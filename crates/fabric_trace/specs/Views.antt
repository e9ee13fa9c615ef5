-- A port as the step tables see it: what it knows beside its packets, and its lists as the plain
-- network has them.
use Rattle.std.specs.Prelude.{ℕ, ◌==◌, List, [], ◌∷◌, ◌++◌, map, filter, None}
use Rattle.rio_packets.specs.Fields.{prio_of}
use Rattle.link_model.specs.Places.{Place, place_start}
use Rattle.link_model.specs.Output as out
use Rattle.link_model.specs.Input as in_half
use Rattle.link_model.specs.Outstanding.{from_ack}
use Rattle.link_port.specs.Ports.{PortState}
use Rattle.fabric_script.specs.declared.ports.PortRef.{PortRef}
use Rattle.fabric_model.specs.Network.{Item, Network}

-- the place of its framer, and its two halves
pub record Half : Type 0 where
  pub place : Place
  pub output : out.Output
  pub input : in_half.Input

-- of a port that has done nothing: it begins with ackID 0 both ways, and was told nothing
abbrev pub new_half : Half
new_half =
    record {
      place = place_start;
      output = out.Output.Ok (from_ack 0 None);
      input = in_half.InputOk
          0;
    }

abbrev pub half_of : PortState → Half
half_of port = record { place = port.place; output = port.output; input = port.input }

-- the packets of items, as they are now
abbrev pub packets_in : List Item → List (List ℕ)
packets_in items = map (λ item. item.now) items

-- the packets of four lanes, one for each priority
abbrev pub lists_in : (ℕ → List Item) → List (List (List ℕ))
lists_in lanes =
    packets_in (lanes 0) ∷ packets_in (lanes 1) ∷ packets_in (lanes 2) ∷ packets_in (lanes 3) ∷ []

-- what a port has to send of a priority: what it has lent, and then what waits
abbrev pub queue : Network → PortRef → ℕ → List Item
queue net p r = filter (λ item. prio_of item.now == r) (net.lent p) ++ net.waiting p r

abbrev pub view : Network → PortRef → Half → PortState
view net p half = record {
  place = half.place;
  output = half.output;
  input = half.input;
  queued = lists_in (queue net p);
  received = record { lists = lists_in (net.received p); buffers = net.buffers p };
  tells = net.tells p;
}
