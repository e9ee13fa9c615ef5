-- What is known of the earlier lines of a script.
use Rattle.std.specs.Prelude.{◌≡◌, ◌<◌, ℕ, ◌+◌, ◌*◌, ◌==◌, Bool, true, false, ◌&&◌, ◌||◌, not, max, List, [], ◌∷◌, ◌++◌, length, Option, Some, None, slice_get}
use Rattle.std.specs.List.{filter, list_any}
use Rattle.fabric_script.specs.declared.ports.PortRef.{PortRef}
use Rattle.fabric_script.specs.declared.known.Node.{Node}
use Rattle.fabric_script.specs.declared.known.Mode.{Mode}
use Rattle.fabric_script.specs.declared.known.Mode.TheVariants.{Script, SetUp, Event}
use Rattle.fabric_script.specs.declared.known.Node.TheVariants.{Endpoint as AnEndpoint, Switch as ASwitch}
use Rattle.fabric_script.specs.declared.lines.Line.{Line}
use Rattle.fabric_script.specs.declared.lines.Line.TheVariants.{Endpoint, Switch, Link, Buffers, Route, Default, Lock, Large, Credits, Pump, Deliver, Settle, Run}
use Rattle.fabric_script.specs.Names.{is_name, name_of}
use Rattle.fabric_script.specs.Lines.{is_event}

-- The names of the nodes and what each is, in the order of their lines; the links; the 16-bit
-- device IDs that lines set, each behind its node; whether an event has come; what the events cost;
-- and which lines may stand.
pub record Known : Type 0 where
  pub names : List (List ℕ)
  pub nodes : List Node
  pub links : List (PortRef × PortRef)
  pub large_ids : List (ℕ × ℕ)
  pub begun : Bool
  pub cost : ℕ
  pub mode : Mode

-- Names for other crates of which lines may stand: set-up lines and events behind them; set-up
-- lines alone; one event.
abbrev pub of_script : Mode
of_script = Script

abbrev pub of_set_up : Mode
of_set_up = SetUp

abbrev pub one_event : Mode
one_event = Event

-- before the first line, if these lines may stand
abbrev pub nothing_in : Mode → Known
nothing_in mode = record {
  names = [];
  nodes = [];
  links = [];
  large_ids = [];
  begun = false;
  cost = 0;
  mode = mode;
}

abbrev pub nothing : Known
nothing = nothing_in Script

abbrev pub node_ports : Option Node → ℕ
node_ports None = 0
node_ports (Some (AnEndpoint id)) = 1
node_ports (Some (ASwitch ports)) = ports

-- how many ports a node has
abbrev pub ports_of : List Node → ℕ → ℕ
ports_of nodes n = node_ports (slice_get nodes n)

abbrev pub node_is_switch : Option Node → Bool
node_is_switch None = false
node_is_switch (Some (AnEndpoint id)) = false
node_is_switch (Some (ASwitch ports)) = true

abbrev pub is_known_switch : List Node → ℕ → Bool
is_known_switch nodes n = node_is_switch (slice_get nodes n)

abbrev pub has_this_id : ℕ → Node → Bool
has_this_id id (AnEndpoint other) = other == id
has_this_id id (ASwitch ports) = false

-- whether an endpoint has this device ID
abbrev pub has_id : List Node → ℕ → Bool
has_id nodes id = list_any (has_this_id id) nodes

-- whether another node has this 16-bit device ID
abbrev pub has_large_id : List (ℕ × ℕ) → ℕ → ℕ → Bool
has_large_id ids node id = list_any (λ pair. not (pair.0 == node) && (pair.1 == id)) ids

abbrev pub same_port : PortRef → PortRef → Bool
same_port p q = (p.node == q.node) && (p.port == q.port)

abbrev pub is_linked : List (PortRef × PortRef) → PortRef → Bool
is_linked links p = list_any (λ link. same_port link.0 p || same_port link.1 p) links

-- what a line costs
abbrev pub cost_of : List (PortRef × PortRef) → Line → ℕ
cost_of links (Endpoint name id) = 0
cost_of links (Switch name ports) = 0
cost_of links (Link a b) = 0
cost_of links (Buffers port n) = 0
cost_of links (Route node id p) = 0
cost_of links (Default node p) = 0
cost_of links (Lock node id) = 0
cost_of links (Large node id) = 0
cost_of links (Credits port) = 0
cost_of links (Pump port n) = n
cost_of links (Deliver port n) = n
cost_of links (Settle port) = 20
cost_of links (Run n) = 20 * n * max 1 (length links)
cost_of links _ = 1

-- the names with that of the node that a line makes, if it makes one
abbrev pub names_after : List (List ℕ) → List ℕ → Line → List (List ℕ)
names_after names new (Endpoint name id) = names ++ new ∷ []
names_after names new (Switch name ports) = names ++ new ∷ []
names_after names new _ = names

abbrev pub nodes_after : List Node → Line → List Node
nodes_after nodes (Endpoint name id) = nodes ++ AnEndpoint id ∷ []
nodes_after nodes (Switch name ports) = nodes ++ ASwitch ports ∷ []
nodes_after nodes _ = nodes

abbrev pub links_after : List (PortRef × PortRef) → Line → List (PortRef × PortRef)
links_after links (Link a b) = links ++ (a, b) ∷ []
links_after links _ = links

-- the 16-bit device IDs with that which a line sets, in the place of an earlier one of its node
abbrev pub large_ids_after : List (ℕ × ℕ) → Line → List (ℕ × ℕ)
large_ids_after ids (Large node id) = filter (λ pair. not (pair.0 == node)) ids ++ (node, id) ∷ []
large_ids_after ids _ = ids

-- what is known with one more line, of which a new node has this name
abbrev pub known_after : Known → List ℕ → Line → Known
known_after known new line = record {
  names = names_after known.names new line;
  nodes = nodes_after known.nodes line;
  links = links_after known.links line;
  large_ids = large_ids_after known.large_ids line;
  begun = known.begun || is_event line;
  cost = known.cost + cost_of known.links line;
  mode = known.mode;
}

-- The names are names, and no two are the same.
pub record IsOrderly (known : Known) : Type 0 where
  pub named : (n : ℕ) → n < length known.names → is_name (name_of known.names n) ≡ true
  pub apart : (m n : ℕ) → m < length known.names → n < length known.names
      → name_of known.names m ≡ name_of known.names n → m ≡ n
