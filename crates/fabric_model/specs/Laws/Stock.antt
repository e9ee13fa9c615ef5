-- How many packets stand at ports, and how many were taken, have left and were dropped.
use Rattle.std.specs.Prelude.{◌≡◌, ◌<◌, ℕ, ◌+◌, List, [], ◌∷◌, length, Some, if◌then◌else◌, ⊤}
use Rattle.rio_packets.specs.Fields.{prio_of}
use Rattle.fabric_script.specs.declared.ports.PortRef.{PortRef}
use Rattle.fabric_model.specs.Network.{Lanes, Network, same_port, port_of, peer_in, in_turn}
use Rattle.fabric_model.specs.Steps.{Hold, Free, Take, Leave, Move, Drop, Answer, Step, Linked, AtNode, ByDevice, after}

-- ---- counts

abbrev pub stands_in : Lanes → List PortRef → ℕ
stands_in lanes [] = 0
stands_in lanes (p ∷ ports) = length (in_turn (lanes p)) + stands_in lanes ports

-- What these ports have received, and what waits there. What is lent is counted where it is held.
abbrev pub stock : Network → List PortRef → ℕ
stock net ports = stands_in net.received ports + stands_in net.waiting ports

abbrev pub takes_by : Step → ℕ
takes_by (AtNode (Take n packet)) = 1
takes_by _ = 0

abbrev pub leaves_by : Step → ℕ
leaves_by (AtNode (Leave n packet)) = 1
leaves_by _ = 0

abbrev pub drops_by : Step → ℕ
drops_by (ByDevice (Drop p packet)) = 1
drops_by _ = 0

-- how many of the steps are such
abbrev pub steps_in : (Step → ℕ) → List Step → ℕ
steps_in each [] = 0
steps_in each (step ∷ steps) = each step + steps_in each steps

-- What was taken, with what stood at these ports before, has left, was dropped or stands there: an
-- answer ends one packet and gives one.
abbrev pub Balances : List PortRef → Network → List Step → Network → Type 0
Balances ports start steps end = steps_in takes_by steps + stock start ports
    ≡ steps_in leaves_by steps + steps_in drops_by steps + stock end ports

-- ---- which lists of ports have all that the steps name

abbrev pub how_often_port : PortRef → List PortRef → ℕ
how_often_port p [] = 0
how_often_port p (q ∷ ports) = (if same_port q p then 1 else 0) + how_often_port p ports

-- the port stands once in the list, and the packet has one of the four priorities
pub record IsOne (ports : List PortRef) (p : PortRef) (packet : List ℕ) : Type 0 where
  pub once : how_often_port p ports ≡ 1
  pub few : prio_of packet < 4

-- the same of each port that a step names, and of each packet
abbrev pub AreOnes : List PortRef → Network → Step → Type 0
AreOnes ports net (Linked (Hold q packet)) = IsOne ports q packet
    × ((p : PortRef) → peer_in net.links q ≡ Some p → IsOne ports p packet)
AreOnes ports net (Linked (Free p packet)) = ⊤
AreOnes ports net (AtNode (Take n packet)) = IsOne ports (port_of n) packet
AreOnes ports net (AtNode (Leave n packet)) = IsOne ports (port_of n) packet
AreOnes ports net (ByDevice (Move p q packet)) = IsOne ports p packet × IsOne ports q packet
AreOnes ports net (ByDevice (Drop p packet)) = IsOne ports p packet
AreOnes ports net (ByDevice (Answer p packet response)) =
    IsOne ports p packet × IsOne ports p response

abbrev pub StandOnce : List PortRef → Network → List Step → Type 0
StandOnce ports net [] = ⊤
StandOnce ports net (step ∷ steps) =
    AreOnes ports net step × StandOnce ports (after net step) steps
