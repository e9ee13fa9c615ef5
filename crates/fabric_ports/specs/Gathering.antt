-- What the endpoints of a fabric do in a round of an ask.
use Rattle.std.specs.Prelude.{ℕ, Bool, true, false, List, [], ◌∷◌}
use Rattle.fabric_ask.specs.Asks.{CollectsAll, CollectNodes}
use Rattle.fabric_ports.specs.Ran.{Kind}

-- whether one of some lists has a packet
abbrev pub has_packets : List (List (List ℕ)) → Bool
has_packets [] = false
has_packets ([] ∷ lists) = has_packets lists
has_packets ((packet ∷ packets) ∷ lists) = true

-- an endpoint collects until it holds no packet or has no room for a response
abbrev pub Collects : ℕ → Kind
Collects node s lines = CollectsAll s node lines

-- so does every endpoint but the host, in the order of the devices
abbrev pub OthersCollect : ℕ → Kind
OthersCollect host s lines = CollectNodes host 0 s.network.registers s lines
