-- What the set-up lines before a trace make, as it is kept.
use Rattle.std.specs.Prelude.{◌≡◌, ℕ, ◌≤◌, Bool, true, false, List, length, map, ⊤}
use Rattle.std.specs.List.{AllByRecursion}
use Rattle.fabric_script.specs.declared.lines.Line.{Line}
use Rattle.fabric_script.specs.declared.lines.Line.TheVariants.{Endpoint, Switch, Link, Buffers, Credits}
use Rattle.fabric_script.specs.declared.ports.PortRef.{PortRef}
use Rattle.fabric_script.specs.Scripts.{ScriptPasses}
use Rattle.fabric_script.specs.SetUps.{SetUpLines}
use Rattle.fabric_model.specs.Laws.History.{IsEmptyNetwork}
use Rattle.fabric_model.specs.Network.{Network, peer_in}
use Rattle.fabric_trace.specs.Runs.{bare, set_up_all}
use Rattle.fabric_trace.specs.SetUps.{MaySetUp}
use Rattle.trace_check.specs.declared.links.Links.{Links}
use Rattle.trace_check.specs.declared.network.Network.{Network as Kept}
use Rattle.trace_check.specs.Networks.{IsNetwork}
use Rattle.trace_check.specs.Tables.{IsIn, IsTable}

-- No reason hits one of the set-up lines, and the names are those of their nodes.
abbrev pub IsBegun : SetUpLines → Type 0
IsBegun set_up = ScriptPasses set_up.known.names set_up.lines

-- the network that the lines make
abbrev pub net_of : SetUpLines → Network
net_of set_up = set_up_all bare set_up.lines

-- how many nodes they name
abbrev pub nodes_of : SetUpLines → ℕ
nodes_of set_up = length set_up.known.names

-- ---- from line to line

-- whether a line makes a node
abbrev pub is_node : Line → Bool
is_node (Endpoint name id) = true
is_node (Switch name ports) = true
is_node _ = false

-- the ports that a line of set-up names are ports of these nodes
abbrev pub ArePortsIn : ℕ → Line → Type 0
ArePortsIn nodes (Link a b) = IsIn nodes a × IsIn nodes b
ArePortsIn nodes (Buffers p n) = IsIn nodes p
ArePortsIn nodes (Credits p) = IsIn nodes p
ArePortsIn nodes _ = ⊤

-- a line may stand behind those that made this network
pub record MayStandBehind (net : Network) (line : Line) : Type 0 where
  pub may : MaySetUp net line
  pub ports : ArePortsIn (length net.registers) line

-- What is kept is this network, of which no port has a packet, and the ports of the nodes to come
-- have 8 buffers.
pub record IsBuilt (net : Network) (kept : Kept) : Type 0 where
  pub network : IsNetwork (length net.registers) net kept
  pub empty : IsEmptyNetwork net
  pub beyond : (p : PortRef) → length net.registers ≤ p.node → net.buffers p ≡ 8

-- what each port has lent
abbrev pub lent_lists : Kept → List (List (List ℕ))
lent_lists kept = map (λ lent. lent.items) kept.lent.items

-- a line may stand behind those that made what is kept
pub record MayBuild (kept : Kept) (line : Line) : Type 0 where
  pub net : Network
  pub built : IsBuilt net kept
  pub may : MayStandBehind net line

-- both ends of each link are ports of these nodes
abbrev pub AreEnds : ℕ → List (PortRef × PortRef) → Type 0
AreEnds nodes links = AllByRecursion (λ link. IsIn nodes link.0 × IsIn nodes link.1) links

-- the other ends of the links of this network
pub record AreJoined (net : Network) (kept : Links) : Type 0 where
  pub peers : IsTable (length net.registers) (λ p peer. peer ≡ peer_in net.links p)
      kept.peers.items
  pub ends : AreEnds (length net.registers) net.links

-- a line may stand behind those that made these links
pub record MayJoin (kept : Links) (line : Line) : Type 0 where
  pub net : Network
  pub joined : AreJoined net kept
  pub may : MayStandBehind net line
